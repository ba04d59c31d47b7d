-- `lru_rule::orders::falling` meets its contract. The invariant: what is left of the map, put before what was put, is the whole.
use native.Mathlib.Omega.{arith}
use Prim.Native.Nat.{◌-◌}
use lib.Bits.{and_le_r}
use Rattle.lru_rule.proofs.FallingLaws.{fall_begin, fall_fits, fall_turned, fall_end}
use Rattle.lru_rule.proofs.orders.falling.Goals as goal

pub loop-left-init : goal.loop-left-init
loop-left-init c = fall_begin c.args.map c.ranges.map.fits

pub overflow_add-out : goal.overflow_add-out
overflow_add-out c = record { fits = fall_fits c.loop-left.invariant c.loop-left-test.true c.lowest_way.ensures }

pub overflow_sub-left : goal.overflow_sub-left
overflow_sub-left c = omega (arith, c.loop-left-test.true)

pub loop-left-smaller : goal.loop-left-smaller
loop-left-smaller c =
    let left = c.loop-left.left in
    omega (arith, and_le_r left (left - 1), c.loop-left-test.true)

pub loop-left-preserved : goal.loop-left-preserved
loop-left-preserved c = fall_turned c.loop-left.invariant c.loop-left-test.true c.lowest_way.ensures

pub returns : goal.returns
returns c = fall_end c.loop-left.invariant c.loop-left-test.false
