-- `tree::path::touched` meets its contract. The invariant: the path is at a place of the tree, and the nodes above are as the touch leaves them.
use Rattle.tree.proofs.PathLaws.{Descent}
use Rattle.tree.proofs.path.touched.Given as goal

abbrev pub invariant-loop-size : goal.invariant-loop-size
invariant-loop-size l = Descent l.ways l.map l.way l.word l.at l.size l.next

abbrev pub decreases-loop-size : goal.decreases-loop-size
decreases-loop-size l = l.size
