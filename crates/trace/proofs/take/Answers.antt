-- `trace::take` meets its contract.
use mathlib.Core.Path.{refl}
use Rattle.command.specs.Command.{command_is}
use Rattle.steps.specs.Step.{tables_of}
use Rattle.cores.specs.Calls.{lent_of}
use Rattle.cores.proofs.StepLaws.{placed_step}
use Rattle.trace.proofs.take.Goals as goal

pub returns : goal.returns
returns c =
    let a = c.args in
    let turned = c.turn-turned in
    placed_step a.g (command_is a.command) (lent_of (tables_of a.tags.now a.valid.now a.dirty.now a.words.now) a.domains.now a.cores.now) c.requires _
    turned.result (tables_of turned.new.tags turned.new.valid turned.new.dirty turned.new.words) refl turned.ensures
