-- `tree::nodes::nodes_of` meets its contract. The invariant: what has been found is a level of the tree and what lies below it.
use Rattle.waymap.specs.Bits.{bit}
use Rattle.tree.proofs.LevelLaws.{Level}
use Rattle.tree.proofs.nodes.nodes_of.Given as goal

abbrev pub invariant-loop-count : goal.invariant-loop-count
invariant-loop-count l = Level l.ways (bit l.map) l.count l.held l.free l.right

abbrev pub decreases-loop-count : goal.decreases-loop-count
decreases-loop-count l = l.count
