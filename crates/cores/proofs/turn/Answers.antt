-- `cores::turn` meets its contract.
use mathlib.Core.Path.{ap, ◌∙◌}
use Rattle.std.specs.Prelude.{Ok}
use Rattle.command.specs.Command.{Command}
use Rattle.cache.specs.Calls.{outcome}
use Rattle.steps.specs.Step.{State, tables_of}
use Rattle.cores.specs.Calls.{turn_is}
use Rattle.cores.specs.declared.Turned.{Turned}
use Rattle.cores.proofs.TurnLaws.{refuses, selects, steps}
use Rattle.cores.proofs.turn.Goals as goal

pub returns-in-Ok-Plain : goal.returns-in-Ok-Plain
returns-in-Ok-Plain c =
    let lent : State = record { tables = tables_of c.args.tags.now c.args.valid.now c.args.dirty.now c.args.words.now; domains = c.args.domains } in
    let asked : Command = record { domain = c.args.named; kind = c.args.kind; argument = c.args.argument } in
    let meant = c.meaning_of in
    let tables = tables_of c.step-done.new.tags c.step-done.new.valid c.step-done.new.dirty c.step-done.new.words in
    ap (λ (r : Turned). turn_is r tables) c.taken.ensures
    ∙ steps c.args.g asked c.args.count c.args.core lent meant.result meant.ensures
    {x = outcome c.step-done.result tables} (c.in-Ok-Plain.is ∙ ap Ok c.in-Ok-Plain.field-0-is) c.step-done.ensures

pub returns-in-Ok-Select : goal.returns-in-Ok-Select
returns-in-Ok-Select c =
    let lent : State = record { tables = tables_of c.args.tags.now c.args.valid.now c.args.dirty.now c.args.words.now; domains = c.args.domains } in
    let asked : Command = record { domain = c.args.named; kind = c.args.kind; argument = c.args.argument } in
    let meant = c.meaning_of in
    selects c.args.g asked c.args.count c.args.core lent meant.result meant.ensures c.sizes-sizes.result
    (c.in-Ok-Select.is ∙ ap Ok c.in-Ok-Select.field-0-is)
    c.sizes-sizes.ensures c.settled.ensures

pub returns-in-Err : goal.returns-in-Err
returns-in-Err c =
    let lent : State = record { tables = tables_of c.args.tags.now c.args.valid.now c.args.dirty.now c.args.words.now; domains = c.args.domains } in
    let asked : Command = record { domain = c.args.named; kind = c.args.kind; argument = c.args.argument } in
    let meant = c.meaning_of in
    refuses c.args.g asked c.args.count c.args.core lent meant.result meant.ensures c.sizes-sizes-in-Err.result
    c.in-Err.is c.sizes-sizes-in-Err.ensures c.settled-in-Err.ensures
