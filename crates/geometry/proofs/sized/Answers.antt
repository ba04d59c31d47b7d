-- `geometry::sized` meets its contract.
use Rattle.std.proofs.Common.{rules}
use Rattle.geometry.specs.Geometry.{sized}
use Rattle.geometry.proofs.sized.Goals as goal

pub returns-then-dirty-sets : goal.returns-then-dirty-sets
unfolding sized
returns-then-dirty-sets c = search rules

pub returns-else-dirty-sets : goal.returns-else-dirty-sets
unfolding sized
returns-else-dirty-sets c = search rules
