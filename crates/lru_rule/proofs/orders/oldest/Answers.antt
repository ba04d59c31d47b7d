-- `lru_rule::orders::oldest` meets its contract. The invariant: the oldest way of the map stands below place k.
use Rattle.lru_rule.proofs.LoopLaws.{search_begin, search_found, search_turned, search_end}
use Rattle.lru_rule.proofs.orders.oldest.Goals as goal

pub loop-k-init : goal.loop-k-init
loop-k-init c = search_begin

pub returns-then-has : goal.returns-then-has
returns-then-has c =
    search_found c.loop-k.invariant c.loop-k-test.true c.at-way.ensures c.has.ensures c.if-has.true

pub loop-k-preserved : goal.loop-k-preserved
loop-k-preserved c =
    search_turned c.loop-k.invariant c.loop-k-test.true c.at-way.ensures c.has.ensures c.if-has.false

pub returns : goal.returns
returns c = search_end c.loop-k.k c.loop-k.invariant c.loop-k-test.false
