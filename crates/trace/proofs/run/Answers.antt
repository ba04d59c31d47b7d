-- `trace::run` meets its contract. The invariant: the steps to come make the whole.
use mathlib.Core.Path.{ap}
use Rattle.std.specs.Prelude.{replicate}
use Rattle.command.specs.Command.{command_is}
use Rattle.selectors.specs.Selectors.{max_cores}
use Rattle.selectors.specs.declared.Core.{Core}
use Rattle.selectors.proofs.PlaceLaws.{default_core}
use Rattle.steps.specs.Step.{tables_of}
use Rattle.cores.specs.Calls.{result_of}
use Rattle.trace.proofs.RunLaws.{run_turned, run_ended}
use Rattle.trace.proofs.run.Goals as goal

pub loop-i-preserved : goal.loop-i-preserved
loop-i-preserved c =
    let answered = c.answer-next in
    let stepped = c.take-reply in
    let kept = stepped.auto in
    let tables = tables_of stepped.new.tags stepped.new.valid stepped.new.dirty stepped.new.words in
    run_turned (command_is c.command_at-command.result) (result_of (record { reply = stepped.result; domains = stepped.new.domains }) tables stepped.new.cores)
    c.loop-i.invariant c.loop-i-test.true
    c.command_at-command.ensures stepped.ensures
    (λ j. record { tags = kept.tags j; valid = kept.valid j; dirty = kept.dirty j; words = kept.words j })
    kept.cores answered.ensures.out_after answered.ensures.upper_bound

pub returns-clause-out_after : goal.returns-clause-out_after
returns-clause-out_after c =
    let fresh = ap (λ (k : Core). replicate max_cores k) (default_core c.default-cores.result c.default-cores.ensures) in
    run_ended c.loop-i.invariant c.loop-i-test.false c.fresh_domains-domains.ensures fresh c.domains.ensures.out_after
