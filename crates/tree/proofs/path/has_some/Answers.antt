-- `tree::path::has_some` meets its contract.
use native.Mathlib.Omega.{arith}
use lib.Pow.{pow_pos}
use Rattle.waymap.proofs.MapLaws.{shifted_one, first_ways}
use Rattle.tree.proofs.PathLaws.{some_way}
use Rattle.tree.proofs.path.has_some.Goals as goal

pub overflow_sub-result : goal.overflow_sub-result
overflow_sub-result c = rw (shifted_one 16 c.args.count c.requires.count_bound) (pow_pos c.args.count)

pub returns : goal.returns
returns c =
    let a = c.args in
    some_way a.map a.first a.count c.ranges.map.fits (omega (arith, c.requires.count_bound)) (first_ways 16 a.count c.requires.count_bound)
