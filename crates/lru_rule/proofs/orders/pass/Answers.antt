-- `lru_rule::orders::pass` meets its contract. The invariant: so many places, from the oldest down, have been looked at.
use mathlib.Core.Path.{◌≡◌}
use native.Mathlib.Nat.{sub-zero}
use native.Mathlib.Omega.{arith}
use Prim.Native.Nat.{◌+◌, ◌-◌, ◌≤◌, ◌<◌}
use Rattle.lru_rule.proofs.PassLaws.{pass_begin, pass_taken, pass_left, given_high, given_other, given_formed}
use Rattle.lru_rule.proofs.orders.pass.Goals as goal
use Rattle.lru_rule.proofs.orders.pass.Goals.{then-has, else-has, then-top-shift-via-then-top-shift, then-top-shift-via-else-top-shift+then-seen-all}

pub overflow_mul-shift : goal.overflow_mul-shift
overflow_mul-shift c = omega (arith, c.requires.most)

pub overflow_sub-shift : goal.overflow_sub-shift
overflow_sub-shift c = omega (arith, c.requires.most)

pub overflow_shl-top : goal.overflow_shl-top
overflow_shl-top c = omega (arith, c.requires.least)

pub loop-init : goal.loop-init
loop-init c = rw (sub-zero c.args.ways) (pass_begin c.requires.most)

pub loop-preserved : goal.loop-preserved
loop-preserved c =
    let l = c.loop in
    let W = c.args.ways in
    let left : 0 < W - l.counter = omega (arith, c.loop-test.true) in
    let less : W - (l.counter + 1) ≡ W - l.counter - 1 = omega arith in
    rw less (elim c.if-has.branch [
      | then-has w ↦ rw w.out-is (pass_taken l.invariant left c.only-seen.ensures c.has.ensures w.if-has.true)
      | else-has w ↦ rw w.out-is (pass_left l.invariant left c.only-seen.ensures c.has.ensures w.if-has.false)
    ])

pub returns-then-top-shift : goal.returns-then-top-shift
returns-then-top-shift c =
    let l = c.loop in
    let none : c.args.ways - l.counter ≤ 0 = omega (arith, c.loop-test.false) in
    elim c.then-top-shift.branch [
      | then-top-shift-via-then-top-shift w ↦ given_high _ l.invariant none w.if-top-shift.true
      | then-top-shift-via-else-top-shift+then-seen-all w ↦ given_other _ l.invariant none w.all.ensures w.if-top-shift.false w.if-seen-all.true
    ]

pub returns : goal.returns
returns c =
    let l = c.loop in
    let none : c.args.ways - l.counter ≤ 0 = omega (arith, c.loop-test.false) in
    given_formed _ l.invariant none c.all.ensures c.if-top-shift.false c.if-seen-all.false
