-- `lookup::find` meets its contract. The invariant: what is left of the hit map, none of whose other ways is hit. The measure: how many remain.
use Rattle.waymap.specs.Bits.{bit, count}
use Rattle.lookup.proofs.VisitLaws.{Left}
use Rattle.lookup.proofs.find.Given as goal

abbrev pub invariant-loop-left : goal.invariant-loop-left
invariant-loop-left l = Left l.tags l.valid l.hit l.tag l.initial.left l.left

abbrev pub decreases-loop-left : goal.decreases-loop-left
decreases-loop-left l = count 16 (bit l.left)
