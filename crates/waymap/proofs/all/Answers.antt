-- `waymap::all` meets its contract.
use native.Mathlib.Omega.{arith}
use lib.Pow.{pow_pos}
use Rattle.waymap.proofs.MapLaws.{shifted_one, first_ways, every_way}
use Rattle.waymap.proofs.all.Goals as goal

pub returns-then-ways-ge16 : goal.returns-then-ways-ge16
returns-then-ways-ge16 c = every_way 16 c.args.ways c.if-ways-ge16.true

pub overflow_sub-result : goal.overflow_sub-result
overflow_sub-result c = omega (arith, shifted_one 16 c.args.ways c.if-ways-ge16.false, pow_pos c.args.ways)

pub returns : goal.returns
returns c = first_ways 16 c.args.ways c.if-ways-ge16.false
