-- `lru_rule::orders::oldest` meets its contract. The invariant: the oldest way of the map stands below place k.
use Rattle.waymap.specs.Bits.{bit}
use Rattle.lru_rule.proofs.LoopLaws.{Searching}
use Rattle.lru_rule.proofs.orders.oldest.Given as goal

abbrev pub invariant-loop-k : goal.invariant-loop-k
invariant-loop-k l = Searching l.ways (bit l.map) l.order l.k
