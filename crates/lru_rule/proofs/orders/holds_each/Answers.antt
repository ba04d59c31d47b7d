-- `lru_rule::orders::holds_each` meets its contract. The invariant: the ways seen and those to come are the ways that stand in the word.
use borrow.Author.Tests.{ne_eqb}
use Rattle.lru_rule.proofs.LoopLaws.{see_begin, see_turned, see_more, see_ways}
use Rattle.lru_rule.proofs.orders.holds_each.Goals as goal

pub loop-init : goal.loop-init
loop-init c = see_begin

pub loop-preserved : goal.loop-preserved
loop-preserved c = see_turned c.loop.invariant c.loop-test.true c.only-seen.ensures

pub returns-then-rest-eq0 : goal.returns-then-rest-eq0
returns-then-rest-eq0 c =
    let loop = c.loop in
    see_ways loop.invariant c.loop-test.false c.requires.most c.all.ensures c.if-rest-eq0.true

pub returns-else-rest-eq0 : goal.returns-else-rest-eq0
returns-else-rest-eq0 c =
    let loop = c.loop in
    rw (ne_eqb loop.rest 0 c.if-rest-eq0.false) (see_more loop.invariant c.loop-test.false c.if-rest-eq0.false)
