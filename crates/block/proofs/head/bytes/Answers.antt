-- `block::head::bytes` meets its contract.
use Rattle.std.proofs.Common.{arith}
use Rattle.geometry.proofs.GeometryLaws.{rows_bound}
use Rattle.block.specs.Layout.{sizes}
use Rattle.block.proofs.head.bytes.Goals as goal

pub overflow_mul-cells : goal.overflow_mul-cells
overflow_mul-cells c = omega (arith, rows_bound c.args.g c.requires)

pub overflow_mul-result-2 : goal.overflow_mul-result-2
overflow_mul-result-2 c = omega (arith, rows_bound c.args.g c.requires)

pub overflow_add-result-2 : goal.overflow_add-result-2
overflow_add-result-2 c = omega (arith, rows_bound c.args.g c.requires, c.requires.most_sets)

pub returns : goal.returns
unfolding sizes
returns c = omega arith
