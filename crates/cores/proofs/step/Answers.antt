-- `cores::step` meets its contract.
use mathlib.Core.Path.{◌≡◌, sym, ap, ◌∙◌}
use mathlib.Core.List.{List}
use lib.ListN.{get_or, set, get_or-eq_default}
use lib.Seq.{set_out}
use Rattle.command.specs.Command.{Command}
use Rattle.selectors.specs.Selectors.{no_core}
use Rattle.selectors.specs.declared.Core.{Core}
use Rattle.selectors.proofs.PlaceLaws.{default_core}
use Rattle.steps.specs.Step.{tables_of}
use Rattle.steps.specs.Tables.{Tables}
use Rattle.cores.specs.Step.{Lent}
use Rattle.cores.specs.Calls.{lent_of, result_of}
use Rattle.cores.proofs.StepLaws.{turned_step}
use Rattle.cores.proofs.step.Goals as goal
use Rattle.cores.proofs.step.Goals.{then-inside, else-inside, then-inside-2, else-inside-2}

pub returns : goal.returns
returns c =
    let a = c.args in
    let x : Lent = lent_of (tables_of a.tags.now a.valid.now a.dirty.now a.words.now) a.domains a.cores.now in
    let asked : Command = record { domain = a.named; kind = a.kind; argument = a.argument } in
    let after : Tables = tables_of c.turn-turned.new.tags c.turn-turned.new.valid c.turn-turned.new.dirty c.turn-turned.new.words in
    let read : c.if-inside.core ≡ get_or a.cores.now a.named no_core =
    elim c.if-inside.branch [ then-inside w ↦ w.core-is | else-inside w ↦ w.core-is ∙ default_core w.default-core.result w.default-core.ensures ∙ sym (get_or-eq_default a.cores.now no_core w.if-inside.false) ] in
    let put : c.if-inside-2.cores ≡ set a.cores.now a.named c.turn-turned.result.core =
    elim c.if-inside-2.branch [ then-inside-2 w ↦ w.cores-is | else-inside-2 w ↦ w.cores-is ∙ sym (set_out a.cores.now a.named c.turn-turned.result.core w.if-inside-2.false) ] in
    ap (λ (l : List Core). result_of c.turn-turned.result.stepped after l) put
    ∙ turned_step a.g asked x c.turn-turned.result after (rw read at c.turn-turned.ensures)
