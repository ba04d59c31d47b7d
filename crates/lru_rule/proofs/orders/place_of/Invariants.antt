-- `lru_rule::orders::place_of` meets its contract. The invariant: the way does not stand below place k.
use Rattle.lru_rule.proofs.LiftLaws.{Seeking}
use Rattle.lru_rule.proofs.orders.place_of.Given as goal

abbrev pub invariant-loop-k : goal.invariant-loop-k
invariant-loop-k l = Seeking l.ways l.way l.order l.k
