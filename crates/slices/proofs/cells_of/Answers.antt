-- `slices::cells_of` meets its contract.
use native.Mathlib.Nat.{mul-le-mul_left}
use native.Mathlib.Omega.{arith}
use Rattle.slices.proofs.cells_of.Goals as goal

pub overflow_mul-result : goal.overflow_mul-result
overflow_mul-result c = omega (arith, mul-le-mul_left c.args.sets c.requires.ways_bound, c.requires.sets_le_max_sets)

pub returns : goal.returns
returns c = omega (arith, mul-le-mul_left c.args.sets c.requires.ways_bound, c.requires.sets_le_max_sets)
