-- `geometry::within` meets its contract.
use Rattle.std.proofs.Common.{arith}
use Rattle.geometry.proofs.GeometryLaws.{limits_none, limits_many, limits_odd, limits_rule}
use Rattle.geometry.proofs.within.Goals as goal

pub returns-then-sets-eq0 : goal.returns-then-sets-eq0
returns-then-sets-eq0 c = grind (arith, limits_rule)

pub returns-else-sets-eq0 : goal.returns-else-sets-eq0
returns-else-sets-eq0 c = grind (arith, limits_none, limits_many, limits_odd)
