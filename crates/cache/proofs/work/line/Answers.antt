-- `cache::work::line` meets its contract.
use mathlib.Core.Path.{refl, ap}
use Rattle.std.proofs.lemmas.Result.{err_from_is_err_and}
use Rattle.command.proofs.RefusalLaws.{number_some}
use Rattle.steps.specs.Step.{tables_of}
use Rattle.steps.proofs.DeedLaws.{line_down, line_room, line_done}
use Rattle.cache.specs.Inside.{deed_of}
use Rattle.cache.specs.declared.account.Used.{Used}
use Rattle.cache.proofs.work.line.Goals as goal

pub returns-in_err-line_refusal : goal.returns-in_err-line_refusal
returns-in_err-line_refusal c =
    let lent = tables_of c.args.tags.now c.args.valid.now c.args.dirty.now c.args.words.now in
    let p = err_from_is_err_and c.from_residual.result c.from_residual.ensures.1 in
    rw (p.1, p.2)
    (line_down c.args.g c.args.own c.args.usage c.args.address lent (rw c.maps-stored.ensures at c.in_err-line_refusal.ensures)
    (number_some c.in_err-line_refusal.field-0.0) refl)

pub after_use-requires : goal.after_use-requires
after_use-requires c =
    let lent = tables_of c.args.tags.now c.args.valid.now c.args.dirty.now c.args.words.now in
    line_room c.args.g c.args.own c.args.usage c.args.address lent (rw c.maps-stored.ensures at c.in_ok-line_refusal.ensures) refl

pub returns : goal.returns
returns c =
    let lent = tables_of c.args.tags.now c.args.valid.now c.args.dirty.now c.args.words.now in
    let done = c.use_set-answer in
    let left = tables_of done.new.tags done.new.valid done.new.dirty done.new.words in
    line_done c.args.g c.args.own c.args.usage c.args.address lent (rw c.maps-stored.ensures at c.in_ok-line_refusal.ensures) {v = left} refl (rw c.maps-stored.ensures at done.ensures)
    (ap (λ (u : Used). deed_of u left) c.after_use.ensures)
