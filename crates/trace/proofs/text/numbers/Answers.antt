-- `trace::text::numbers` meets its contract. The invariant: the numbers to come make the whole.
use Rattle.trace.proofs.TextLaws.{line_turned, line_end}
use Rattle.trace.proofs.text.numbers.Goals as goal

pub loop-i-preserved : goal.loop-i-preserved
loop-i-preserved c =
    let number = c.number-next in
    line_turned 0 c.loop-i.invariant c.loop-i-test.true c.end_of.ensures number.ensures.out_after number.ensures.upper_bound
    number.auto.out

pub returns-clause-out_after : goal.returns-clause-out_after
returns-clause-out_after c = line_end c.loop-i.invariant c.loop-i-test.false
