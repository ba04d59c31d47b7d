-- Document 01's kinds tell the code's apart.
use mathlib.Core.Path.{◌≡◌, refl}
use mathlib.Core.Bool.{true, false}
use Rattle.command.specs.Kind.{Kind, access, flush, policy, unknown, kind_is}
use Rattle.command.specs.declared.Asked.{Asked}
use Rattle.command.specs.declared.Asked.TheVariants.{Line, Policy, Unknown}
use Rattle.command.specs.declared.LineUse.TheVariants.{Load, Store, Flush}
use Rattle.command.specs.Statements.{KindInjective}

-- What a kind asks for.
asked_of : Kind → Asked
asked_of (access true) = Line Store
asked_of (access false) = Line Load
asked_of flush = Line Flush
asked_of policy = Policy
asked_of unknown = Unknown

asked_again : (q : Asked) → asked_of (kind_is q) ≡ q
unfolding asked_of
asked_again (Line Load) = refl
asked_again (Line Store) = refl
asked_again (Line Flush) = refl
asked_again Policy = refl
asked_again Unknown = refl

-- So the contract of `kind_of` settles its whole answer.
pub kind_injective : KindInjective
kind_injective p q e = rw (← (asked_again p), ← (asked_again q), e)
