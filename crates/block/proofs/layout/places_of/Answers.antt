-- `block::layout::places_of` meets its contract.
use Rattle.std.proofs.Common.{◌*◌, ◌≤◌, arith}
use Rattle.geometry.specs.Geometry.{max_sets}
use Rattle.geometry.proofs.GeometryLaws.{rows_bound}
use Rattle.steps.proofs.SetLaws.{row_within}
use Rattle.block.specs.Layout.{sizes}
use Rattle.block.proofs.layout.places_of.Goals as goal
use Rattle.block.proofs.layout.places_of.Goals.{After-struct_known-1}

-- the first tag of the set is one of the table
bound : (c : After-struct_known-1) → c.args.set * c.args.g.ways ≤ max_sets * 16
bound c =
    omega (
      arith,
      rows_bound c.args.g c.requires.limited,
      row_within c.args.set c.args.g.sets c.args.g.ways c.requires.set_lt_sets,
    )

pub overflow_mul-first : goal.overflow_mul-first
overflow_mul-first c = omega (arith, bound (goal.at.overflow_mul-first c).After-struct_known-1)

pub overflow_mul-result-7 : goal.overflow_mul-result-7
overflow_mul-result-7 c = omega (arith, bound (goal.at.overflow_mul-result-7 c).After-struct_known-1)

pub overflow_add-result-7 : goal.overflow_add-result-7
overflow_add-result-7 c = omega (arith, bound (goal.at.overflow_add-result-7 c).After-struct_known-1, c.requires.limited.most_sets)

pub returns : goal.returns
unfolding sizes
returns c = record { valid_is = omega arith; dirty_is = omega arith; word_is = omega arith; row_is = omega arith }
