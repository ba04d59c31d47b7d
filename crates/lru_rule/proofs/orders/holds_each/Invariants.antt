-- `lru_rule::orders::holds_each` meets its contract. The invariant: the ways seen and those to come are the ways that stand in the word.
use Rattle.lru_rule.proofs.LoopLaws.{Seeing}
use Rattle.lru_rule.proofs.orders.holds_each.Given as goal

abbrev pub invariant-loop : goal.invariant-loop
invariant-loop l = Seeing l.ways l.word l.seen l.rest l.counter
