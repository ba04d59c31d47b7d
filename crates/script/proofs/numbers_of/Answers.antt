-- `script::numbers_of` meets its contract.
use mathlib.Core.Path.{refl}
use Rattle.script.proofs.ScriptLaws.{gather_begin, gather_turned, gather_end}
use Rattle.script.proofs.numbers_of.Goals as goal

pub loop-number-init : goal.loop-number-init
loop-number-init c = gather_begin c.args.line.now _ refl

pub loop-number-preserved : goal.loop-number-preserved
loop-number-preserved c =
    gather_turned c.loop-number.invariant c.loop-number-test.true c.number_at.ensures c.behind-place.ensures

pub returns : goal.returns
returns c = gather_end c.loop-number.invariant c.loop-number-test.false
