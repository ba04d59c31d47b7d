-- `tracefile::steps` meets its contract.
use Rattle.tracefile.proofs.steps.Goals as goal

pub returns : goal.returns
returns c = c.at.ensures
