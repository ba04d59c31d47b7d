-- `fresh::fresh_tables` meets its contract.
use mathlib.Core.Path.{refl, sym, ◌∙◌}
use Rattle.std.proofs.lemmas.Result.{err_from_is_err_and}
use Rattle.command.proofs.RefusalLaws.{number_some}
use Rattle.replacement.proofs.ReplyLaws.{ok_same}
use Rattle.steps.specs.Step.{tables_of}
use Rattle.fresh.proofs.TableLaws.{fresh_refused, word_made, fresh_made}
use Rattle.fresh.proofs.fresh_tables.Goals as goal

pub returns-in_err-sizes : goal.returns-in_err-sizes
returns-in_err-sizes c =
    let a = c.args in
    let p = err_from_is_err_and c.from_residual.result c.from_residual.ensures.1 in
    rw (p.1, p.2)
    (fresh_refused a.g (tables_of a.tags.now a.valid.now a.dirty.now a.words.now) c.in_err-sizes.ensures (number_some c.in_err-sizes.field-0.0))

pub unwrap-word-requires : goal.unwrap-word-requires
unwrap-word-requires c =
    let a = c.args in
    rw (word_made a.g (tables_of a.tags.now a.valid.now a.dirty.now a.words.now) c.in_ok-sizes.ensures refl c.fresh.ensures)

pub returns : goal.returns
returns c =
    let a = c.args in
    let before = tables_of a.tags.now a.valid.now a.dirty.now a.words.now in
    let is = word_made a.g before c.in_ok-sizes.ensures refl c.fresh.ensures in
    fresh_made a.g before c.in_ok-sizes.ensures refl (ok_same (sym c.unwrap-word.ensures ∙ is))
    (c.fill.ensures.after (λ y e. e)) (c.fill-2.ensures.after (λ y e. e)) (c.fill-3.ensures.after (λ y e. e))
    (c.fill-4.ensures.after (λ y e. e))
