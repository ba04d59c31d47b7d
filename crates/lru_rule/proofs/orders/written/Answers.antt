-- `lru_rule::orders::written` meets its contract.
use borrow.Author.Tests.{eq-eqb, ne_eqb}
use Rattle.lru_rule.proofs.orders.written.Goals as goal

pub returns-then-next-order : goal.returns-then-next-order
returns-then-next-order c = rw (eq-eqb c.args.next c.args.order c.if-next-order.true)

pub returns : goal.returns
returns c = rw (ne_eqb c.args.next c.args.order c.if-next-order.false)
