-- `lru_rule::orders::place_of` meets its contract. The invariant: the way does not stand below place k.
use Rattle.lru_rule.proofs.LiftLaws.{seek_begin, seek_turned, seek_end}
use Rattle.lru_rule.proofs.orders.place_of.Goals as goal

pub loop-k-init : goal.loop-k-init
loop-k-init c = seek_begin c.requires.order_bound

pub returns-then-at-way : goal.returns-then-at-way
returns-then-at-way c = seek_end c.loop-k.invariant c.at.ensures c.if-at-way.true

pub loop-k-preserved : goal.loop-k-preserved
loop-k-preserved c = seek_turned c.loop-k.invariant c.at.ensures c.if-at-way.false
