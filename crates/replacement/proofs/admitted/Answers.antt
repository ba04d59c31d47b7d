-- `replacement::admitted` meets its contract.
use mathlib.Core.Path.{sym, ◌∙◌}
use borrow.Author.Tests.{not-true, not-false}
use Rattle.std.proofs.lemmas.Result.{err_from_is_err_and}
use Rattle.replacement.specs.Inside.{admitted}
use Rattle.replacement.proofs.AdmitLaws.{known_gives, known_refused}
use Rattle.replacement.proofs.admitted.Goals as goal

pub returns-in_err-rule : goal.returns-in_err-rule
unfolding admitted
returns-in_err-rule c =
    let p = err_from_is_err_and c.from_residual.result c.from_residual.ensures.1 in
    let e = known_refused _ _ c.in_err-rule.ensures in
    rw (p.1, p.2, e.0, e.1)

pub returns-then-not-fits : goal.returns-then-not-fits
unfolding admitted
returns-then-not-fits c =
    let n = known_gives _ _ c.in_ok-rule.ensures in
    rw (n.limits, not-false _ (sym c.fits.ensures ∙ c.if-not-fits.true))

pub returns : goal.returns
unfolding admitted
returns c =
    let n = known_gives _ _ c.in_ok-rule.ensures in
    rw (n.limits, not-true _ (sym c.fits.ensures ∙ c.if-not-fits.false), n.is)
