-- `replacement::known` meets its contract.
use mathlib.Core.Path.{◌≡◌, sym, ◌∙◌}
use native.Mathlib.Omega.{arith}
use Rattle.replacement.specs.Inside.{known}
use Rattle.replacement.proofs.AdmitLaws.{low}
use Rattle.replacement.proofs.known.Goals as goal

pub returns-then-not-in_limits : goal.returns-then-not-in_limits
unfolding known
returns-then-not-in_limits c = rw (sym c.in_limits.ensures ∙ c.if-not-in_limits.true)

pub returns-in-0 : goal.returns-in-0
unfolding known
returns-in-0 c = rw (sym c.in_limits.ensures ∙ c.if-not-in_limits.false, c.in-0.is)

pub returns-in-1 : goal.returns-in-1
unfolding known
returns-in-1 c = rw (sym c.in_limits.ensures ∙ c.if-not-in_limits.false, c.in-1.is)

pub returns-in_default : goal.returns-in_default
unfolding known
returns-in_default c =
    let limits = sym c.in_limits.ensures ∙ c.if-not-in_limits.false in
    let two : c.args.rule ≡ 2 = omega (arith, low _ _ limits) in
    rw (limits, two)
