-- `geometry::named` meets its contract.
use Rattle.geometry.proofs.named.Goals as goal

pub returns : goal.returns
returns c = rw (c.at-sets.ensures, c.at-ways.ensures, c.at-rule.ensures)
