-- `lru_rule::orders::falling` meets its contract. The invariant: what is left of the map, put before what was put, is the whole.
use Rattle.lru_rule.proofs.FallingLaws.{Falling}
use Rattle.lru_rule.proofs.orders.falling.Given as goal

abbrev pub invariant-loop-left : goal.invariant-loop-left
invariant-loop-left l = Falling l.map l.left l.out

abbrev pub decreases-loop-left : goal.decreases-loop-left
decreases-loop-left l = l.left
