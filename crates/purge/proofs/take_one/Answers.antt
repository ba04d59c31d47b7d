-- `purge::take_one` meets its contract.
use mathlib.Core.Path.{sym, ◌∙◌}
use Rattle.purge.specs.Inside.{take_one}
use Rattle.purge.proofs.take_one.Goals as goal

pub returns-then-stays : goal.returns-then-stays
unfolding take_one
returns-then-stays c = rw (sym c.stays.ensures ∙ c.if-stays.true)

pub returns : goal.returns
unfolding take_one
returns c = rw (sym c.stays.ensures ∙ c.if-stays.false)
