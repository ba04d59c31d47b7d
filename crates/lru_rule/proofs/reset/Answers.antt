-- `lru_rule::reset` meets its contract.
use mathlib.Core.Path.{◌≡◌, sym, ◌∙◌}
use mathlib.Core.Bool.{true}
use native.Mathlib.Omega.{arith}
use Rattle.waymap.specs.Ways.{takes}
use Rattle.waymap.proofs.NumberLaws.{takes_sized}
use Prim.Native.Nat.{◌-◌, ◌^◌}
use Rattle.std.specs.Prelude.{Some}
use Rattle.waymap.specs.Bits.{bit}
use Rattle.lru_rule.specs.Lru.{places, kept, fresh}
use Rattle.lru_rule.specs.Calls.{ahead, reset_of}
use Rattle.lru_rule.proofs.OrderLaws.{fresh_each}
use Rattle.lru_rule.proofs.PassLaws.{passed_formed, passed_some, passed_none}
use Rattle.lru_rule.proofs.PlaceLaws.{formed_word, malformed_word, word_formed}
use Rattle.lru_rule.proofs.CallLaws.{reset_given}
use Rattle.lru_rule.proofs.reset.Goals as goal
use Rattle.lru_rule.proofs.reset.Goals.{Else-not-takes, After-pass-2}

pub returns-then-not-takes : goal.returns-then-not-takes
unfolding reset_of
returns-then-not-takes c = rw (sym c.takes.ensures ∙ c.if-not-takes.true)

-- Behind its test the call is within the limits.
taken : (c : Else-not-takes) → takes c.args.ways c.args.moves.ways ≡ true
taken c = sym c.takes.ensures ∙ c.if-not-takes.false

pub pass-requires : goal.pass-requires
pass-requires c =
    let past = (goal.at.pass-requires c).Else-not-takes in
    takes_sized _ _ (taken past)

-- the word is the order that it is read as
pub returns-in-Some : goal.returns-in-Some
returns-in-Some c =
    let past = (goal.at.returns-in-Some c).Else-not-takes in
    let found = passed_some _ _ _ _ c.in-Some.ensures in
    reset_given _ _ _ (taken past) _ (omega (arith, c.well_formed)) (formed_word _ _ found.0) found.1 c.written.ensures

pub fresh-order-requires : goal.fresh-order-requires
fresh-order-requires c =
    let past = (goal.at.fresh-order-requires c).Else-not-takes in
    takes_sized _ _ (taken past)

pub pass-requires-2 : goal.pass-requires-2
pass-requires-2 c =
    let past = (goal.at.pass-requires-2 c).Else-not-takes in
    takes_sized _ _ (taken past)

-- the fresh order is formed, so that the pass gives its ways
given : (c : After-pass-2)
    → c.pass-2.result ≡ Some (ahead (kept (bit (2 ^ 16 - 1 - c.args.moves.ways)) (places c.args.ways c.fresh-order.result)) c.args.moves.tail)
given c =
    c.pass-2.ensures
    ∙ passed_formed _ _ _ _
    (rw c.fresh-order.ensures (word_formed _ (takes_sized _ _ (sym c.takes.ensures ∙ c.if-not-takes.false)).most (fresh c.args.ways) (fresh_each c.args.ways)))

pub unwrap-next-requires : goal.unwrap-next-requires
unwrap-next-requires c = rw (given (goal.at.unwrap-next-requires c).After-pass-2)

-- it is read as fresh
pub returns : goal.returns
returns c =
    let past = (goal.at.returns c).Else-not-takes in
    let gives = given (goal.at.returns c).After-pass-2 in
    reset_given _ _ _ (taken past) _ (omega (arith, c.well_formed))
    (c.fresh-order.ensures ∙ malformed_word _ _ (passed_none _ _ _ _ c.in_default.ensures))
    (cc (gives, c.unwrap-next.ensures)) c.written-2.ensures
