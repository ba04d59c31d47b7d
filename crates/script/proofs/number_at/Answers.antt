-- `script::number_at` meets its contract.
use mathlib.Core.Path.{◌∙◌}
use Rattle.script.proofs.ScriptLaws.{read_begin, read_turned, read_space, read_end, number_rest}
use Rattle.script.proofs.number_at.Goals as goal

pub loop-byte-init : goal.loop-byte-init
loop-byte-init c = read_begin c.rest-byte-items.result.now 0

pub loop-byte-preserved : goal.loop-byte-preserved
loop-byte-preserved c =
    read_turned c.loop-byte.invariant c.loop-byte-test.true c.if-byte-eq32.false c.joined-n.ensures

pub returns-then-byte-eq32 : goal.returns-then-byte-eq32
returns-then-byte-eq32 c =
    read_space c.loop-byte.invariant c.loop-byte-test.true c.if-byte-eq32.true
    ∙ number_rest c.args.line.now c.args.place c.rest-byte-items.ensures

pub returns-after-loop-byte : goal.returns-after-loop-byte
returns-after-loop-byte c =
    read_end c.loop-byte.invariant c.loop-byte-test.false ∙ number_rest c.args.line.now c.args.place c.rest-byte-items.ensures
