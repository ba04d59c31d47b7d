-- `block::sets::lines_at` meets its contract.
use Rattle.block.proofs.sets.lines_at.Goals as goal

pub returns : goal.returns
returns c = rw (c.at.ensures, c.at-2.ensures, c.at-3.ensures)
