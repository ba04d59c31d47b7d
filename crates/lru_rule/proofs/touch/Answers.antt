-- `lru_rule::touch` meets its contract.
use mathlib.Core.Path.{◌≡◌, sym, ◌∙◌}
use mathlib.Core.Bool.{true}
use native.Mathlib.Omega.{arith}
use Rattle.waymap.specs.Ways.{takes}
use Rattle.waymap.proofs.NumberLaws.{takes_sized, takes_way}
use Rattle.lru_rule.specs.Calls.{touch_of}
use Rattle.lru_rule.proofs.CallLaws.{rank_given, untouched, touch_given}
use Rattle.lru_rule.proofs.touch.Goals as goal
use Rattle.lru_rule.proofs.touch.Goals.{Else-not-takes}

pub returns-then-not-takes : goal.returns-then-not-takes
unfolding touch_of
returns-then-not-takes c = rw (sym c.takes.ensures ∙ c.if-not-takes.true)

-- Behind its test the call is within the limits.
taken : (c : Else-not-takes) → takes c.args.ways c.args.map ≡ true
taken c = sym c.takes.ensures ∙ c.if-not-takes.false

pub returns-then-not-has : goal.returns-then-not-has
returns-then-not-has c = untouched _ _ _ (taken (goal.at.returns-then-not-has c).Else-not-takes) _ (sym c.has.ensures ∙ c.if-not-has.true)

pub read-order-requires : goal.read-order-requires
read-order-requires c = takes_sized _ _ (taken (goal.at.read-order-requires c).Else-not-takes)

pub touched-requires : goal.touched-requires
touched-requires c =
    let t = taken (goal.at.touched-requires c).Else-not-takes in
    let h = takes_way _ _ t c.ranges.map.fits c.args.way (sym c.has.ensures ∙ c.if-not-has.false) in
    record {
      sized = takes_sized _ _ t;
      way_bound = omega (arith, h, (takes_sized _ _ t).most);
      order_bound = rank_given _ _ _ t c.args.way h c.read-order.ensures;
    }

pub returns : goal.returns
returns c =
    touch_given _ _ _ (taken (goal.at.returns c).Else-not-takes) _ c.ranges.map.fits (sym c.has.ensures ∙ c.if-not-has.false)
    c.read-order.ensures c.touched.ensures c.written.ensures
