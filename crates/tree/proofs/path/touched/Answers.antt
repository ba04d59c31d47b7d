-- `tree::path::touched` meets its contract. The invariant: the path is at a place of the tree, and the nodes above are as the touch leaves them.
use native.Mathlib.Omega.{arith}
use Rattle.tree.proofs.PathLaws.{begin, middle_lt, node_lt, turned, end}
use Rattle.tree.proofs.path.touched.Goals as goal

pub loop-size-init : goal.loop-size-init
loop-size-init c = begin c.args.ways c.args.map c.args.way c.args.word c.requires.sized c.requires.way_lt_ways c.ranges.word.fits

pub turned-next-requires : goal.turned-next-requires
turned-next-requires c =
    let l = c.loop-size.invariant in
    record {
      half_bound = middle_lt l c.loop-size-test.true c.requires.sized.most c.requires.way_lt_ways c.requires.way_value;
      node_bound = node_lt l c.loop-size-test.true c.requires.sized.most c.requires.way_lt_ways c.requires.way_value;
    }

pub below-at-requires : goal.below-at-requires
below-at-requires c =
    let l = c.loop-size.invariant in
    let more = c.loop-size-test.true in
    record {
      half_bound = middle_lt l more c.requires.sized.most c.requires.way_lt_ways c.requires.way_value;
      node_bound = node_lt l more c.requires.sized.most c.requires.way_lt_ways c.requires.way_value;
    }

pub loop-size-smaller : goal.loop-size-smaller
loop-size-smaller c = omega (arith, c.loop-size-test.true)

pub loop-size-preserved : goal.loop-size-preserved
loop-size-preserved c =
    rw (c.turned-next.ensures, c.below-at.ensures)
    (turned c.loop-size.invariant c.loop-size-test.true c.requires.sized.most c.requires.way_lt_ways c.requires.way_value)

pub returns : goal.returns
returns c = end c.loop-size.invariant c.loop-size-test.false
