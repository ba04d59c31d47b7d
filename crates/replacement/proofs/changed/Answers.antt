-- `replacement::changed` meets its contract.
use Rattle.replacement.proofs.changed.Goals as goal

pub returns-in-Clear : goal.returns-in-Clear
returns-in-Clear c = rw c.in-Clear.is c.reset.ensures

pub returns-in-Raise : goal.returns-in-Raise
returns-in-Raise c = rw c.in-Raise.is c.reset-in-Raise.ensures

pub returns-in-Age : goal.returns-in-Age
returns-in-Age c = rw c.in-Age.is c.reset-in-Age.ensures
