-- `tree::nodes::nodes_of` meets its contract. The invariant: what has been found is a level of the tree and what lies below it.
use native.Mathlib.Omega.{arith}
use Rattle.tree.proofs.LevelLaws.{begin, turned, end, both_lt, right_only_lt}
use Rattle.tree.proofs.nodes.nodes_of.Goals as goal

pub loop-count-init : goal.loop-count-init
loop-count-init c = begin c.args.ways c.args.map c.requires.sized c.requires.map_bound

pub raised-free-requires : goal.raised-free-requires
raised-free-requires c =
    record {
      x_bound = rw (c.evens-low.ensures, c.evens-high.ensures) (both_lt c.loop-count.held);
      at_bound = omega arith;
    }

pub raised-right-requires : goal.raised-right-requires
raised-right-requires c =
    record {
      x_bound = rw (c.evens-low.ensures, c.evens-high.ensures) (right_only_lt c.loop-count.held);
      at_bound = omega arith;
    }

pub loop-count-preserved : goal.loop-count-preserved
loop-count-preserved c =
    let l = c.loop-count.invariant in
    turned l c.loop-count-test.true
    c.evens-low.ensures c.evens-high.ensures c.raised-free.ensures c.raised-right.ensures

pub returns : goal.returns
returns c =
    let e = end c.loop-count.invariant c.loop-count-test.false in
    record { free_is = e.0; right_is = e.1 }
