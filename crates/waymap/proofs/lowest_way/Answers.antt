-- `waymap::lowest_way` meets its contract.
use native.Mathlib.Omega.{arith}
use lib.Count.{trailing_le}
use Rattle.waymap.proofs.WayLaws.{trailing_lowest}
use Rattle.waymap.proofs.lowest_way.Goals as goal

pub overflow_cast-result : goal.overflow_cast-result
overflow_cast-result c = omega (arith, trailing_le 16 c.args.map)

pub returns : goal.returns
returns c = trailing_lowest 16 c.args.map
