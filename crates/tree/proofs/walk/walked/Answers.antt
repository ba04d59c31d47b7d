-- `tree::walk::walked` meets its contract. The invariant: the walk from where it stands leads where the whole walk leads.
use native.Mathlib.Omega.{arith}
use Rattle.waymap.specs.Bits.{bit}
use Rattle.waymap.proofs.BitLaws.{digit_lt}
use Rattle.tree.proofs.WalkLaws.{begin, turned, end}
use Rattle.tree.proofs.walk.walked.Goals as goal

pub loop-place-init : goal.loop-place-init
loop-place-init c = begin c.args.ways (bit c.args.word) (omega arith)

pub overflow_add-place-in-loop-place : goal.overflow_add-place-in-loop-place
overflow_add-place-in-loop-place c =
    omega (arith, digit_lt (bit c.args.word c.loop-place.place), c.bit_at.ensures)

pub loop-place-preserved : goal.loop-place-preserved
loop-place-preserved c = turned c.loop-place.invariant c.loop-place-test.true c.bit_at.ensures

pub returns : goal.returns
returns c = end c.loop-place.invariant c.loop-place-test.false
