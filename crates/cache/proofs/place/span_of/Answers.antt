-- `cache::place::span_of` meets its contract.
use native.Mathlib.Omega.{arith}
use Rattle.geometry.proofs.GeometryLaws.{rows_bound}
use Rattle.steps.proofs.SetLaws.{row_within}
use Rattle.cache.proofs.PlaceLaws.{span_is}
use Rattle.cache.proofs.place.span_of.Goals as goal

pub overflow_mul-start : goal.overflow_mul-start
overflow_mul-start c =
    let a = c.args in
    omega (arith, row_within a.set a.g.sets a.g.ways c.requires.set_lt_sets, rows_bound a.g c.requires.limited)

pub overflow_add-result : goal.overflow_add-result
overflow_add-result c =
    let a = c.args in
    omega (arith, row_within a.set a.g.sets a.g.ways c.requires.set_lt_sets, rows_bound a.g c.requires.limited)

pub returns : goal.returns
returns c = span_is c.args.g c.args.set c.requires.set_lt_sets
