-- `tree::walk::walked` meets its contract. The invariant: the walk from where it stands leads where the whole walk leads.
use Prim.Native.Nat.{◌-◌, ◌*◌}
use Rattle.waymap.specs.Bits.{bit}
use Rattle.tree.proofs.WalkLaws.{Walk}
use Rattle.tree.proofs.walk.walked.Given as goal

abbrev pub invariant-loop-place : goal.invariant-loop-place
invariant-loop-place l = Walk l.ways (bit l.word) l.place

abbrev pub decreases-loop-place : goal.decreases-loop-place
decreases-loop-place l = 2 * l.ways - l.place
