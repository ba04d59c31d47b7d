-- `sweep::number::lines_among` meets its contract.
use mathlib.Core.Path.{refl}
use Rattle.sweep.proofs.NumberLaws.{begin, turned, end}
use Rattle.sweep.proofs.number.lines_among.Goals as goal

pub loop-held-init : goal.loop-held-init
loop-held-init c = begin _ _

pub loop-held-preserved : goal.loop-held-preserved
loop-held-preserved c = turned c.loop-held.invariant c.loop-held-test.true c.lines_in-lines.ensures refl

pub returns : goal.returns
returns c = end c.loop-held.invariant c.loop-held-test.false
