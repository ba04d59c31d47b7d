-- `lru_rule::victim` meets its contract.
use mathlib.Core.Path.{◌≡◌, sym, ◌∙◌}
use mathlib.Core.Bool.{true}
use Rattle.waymap.specs.Ways.{takes}
use Rattle.waymap.proofs.NumberLaws.{takes_sized}
use Rattle.lru_rule.specs.Calls.{victim_of}
use Rattle.lru_rule.proofs.CallLaws.{victim_given}
use Rattle.lru_rule.proofs.victim.Goals as goal
use Rattle.lru_rule.proofs.victim.Goals.{Else-not-takes}

pub returns-then-not-takes : goal.returns-then-not-takes
unfolding victim_of
returns-then-not-takes c = rw (sym c.takes.ensures ∙ c.if-not-takes.true)

-- Behind its test the call is within the limits.
taken : (c : Else-not-takes) → takes c.args.ways c.args.map ≡ true
taken c = sym c.takes.ensures ∙ c.if-not-takes.false

pub read-requires : goal.read-requires
read-requires c =
    let past = (goal.at.read-requires c).Else-not-takes in
    takes_sized _ _ (taken past)

pub oldest-requires : goal.oldest-requires
oldest-requires c =
    let past = (goal.at.oldest-requires c).Else-not-takes in
    takes_sized _ _ (taken past)

pub returns : goal.returns
returns c =
    let past = (goal.at.returns c).Else-not-takes in
    victim_given _ _ _ (taken past) c.read.ensures c.oldest.ensures
