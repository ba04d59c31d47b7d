-- `lru_rule::own` meets its contract.
use mathlib.Core.Path.{◌≡◌, sym, ◌∙◌}
use mathlib.Core.Bool.{true}
use Rattle.waymap.specs.Ways.{takes}
use Rattle.waymap.proofs.NumberLaws.{takes_sized}
use Rattle.std.specs.Prelude.{Some}
use Rattle.waymap.specs.Bits.{bit}
use Rattle.lru_rule.specs.Lru.{places, order, kept}
use Rattle.lru_rule.specs.Calls.{ahead, own_of}
use Rattle.lru_rule.proofs.PassLaws.{passed_formed}
use Rattle.lru_rule.proofs.PlaceLaws.{order_each, word_formed}
use Rattle.lru_rule.proofs.CallLaws.{own_given}
use Rattle.lru_rule.proofs.own.Goals as goal
use Rattle.lru_rule.proofs.own.Goals.{Else-not-takes, After-pass}

pub returns-then-not-takes : goal.returns-then-not-takes
unfolding own_of
returns-then-not-takes c = rw (sym c.takes.ensures ∙ c.if-not-takes.true)

-- Behind its test the call is within the limits.
taken : (c : Else-not-takes) → takes c.args.ways c.args.map ≡ true
taken c = sym c.takes.ensures ∙ c.if-not-takes.false

pub read-requires : goal.read-requires
read-requires c =
    let past = (goal.at.read-requires c).Else-not-takes in
    takes_sized _ _ (taken past)

pub pass-requires : goal.pass-requires
pass-requires c =
    let past = (goal.at.pass-requires c).Else-not-takes in
    takes_sized _ _ (taken past)

-- the word that is read is formed, so that the pass gives its ways
given : (c : After-pass) → c.pass.result ≡ Some (ahead (kept (bit c.args.map) (places c.args.ways c.read.result)) 0)
given c =
    c.pass.ensures
    ∙ passed_formed (bit c.args.map) 0 c.args.ways c.read.result
    (rw c.read.ensures
    (word_formed _ (takes_sized _ _ (sym c.takes.ensures ∙ c.if-not-takes.false)).most (order c.args.ways c.args.word) (order_each c.args.ways c.args.word)))

pub unwrap-requires : goal.unwrap-requires
unwrap-requires c = rw (given (goal.at.unwrap-requires c).After-pass)

pub returns : goal.returns
returns c =
    let past = (goal.at.returns c).Else-not-takes in
    let gives = given (goal.at.returns c).After-pass in
    own_given _ _ _ (taken past) c.read.ensures (cc (gives, c.unwrap.ensures))
