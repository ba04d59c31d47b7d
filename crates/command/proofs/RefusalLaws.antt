-- Document 01's numbers tell any two refusals apart.
use mathlib.Core.Path.{◌≡◌, refl}
use mathlib.Core.Bool.{cond}
use Prim.Native.Nat.{ℕ}
use native.Mathlib.Nat.{suc-ne-zero}
use lib.Dec.{eqb}
use Rattle.command.specs.Refusal.{number_of}
use Rattle.command.specs.declared.Refusal.{Refusal}
use Rattle.command.specs.declared.Refusal.TheVariants.{Limits, Lengths, Domain, Kind, Argument, NoWays, FullCount, SharedWay, SharedNode, File, Core, Block}
use Rattle.command.specs.Statements.{NumberInjective}

-- The refusal that a number tells.
refusal_in : ℕ → Refusal
refusal_in n =
    cond (eqb n 1) Limits (cond (eqb n 2) Lengths (cond (eqb n 3) Domain (cond (eqb n 4) Kind (cond (eqb n 5) Argument
    (cond (eqb n 6) NoWays (cond (eqb n 7) FullCount (cond (eqb n 8) SharedWay (cond (eqb n 9) SharedNode (cond (eqb n 10) File
    (cond (eqb n 11) Core Block))))))))))

refusal_again : (r : Refusal) → refusal_in (number_of r) ≡ r
unfolding refusal_in
refusal_again Limits = refl
refusal_again Lengths = refl
refusal_again Domain = refl
refusal_again Kind = refl
refusal_again Argument = refl
refusal_again NoWays = refl
refusal_again FullCount = refl
refusal_again SharedWay = refl
refusal_again SharedNode = refl
refusal_again File = refl
refusal_again Core = refl
refusal_again Block = refl

-- So a contract that equates numbers settles the refusal.
pub number_injective : NumberInjective
number_injective r s e = rw (← (refusal_again r), ← (refusal_again s), e)

-- No refusal has the number of what is not turned down.
pub number_some : (r : Refusal) → number_of r ≡ 0 → ⊥
number_some Limits = suc-ne-zero 0
number_some Lengths = suc-ne-zero 1
number_some Domain = suc-ne-zero 2
number_some Kind = suc-ne-zero 3
number_some Argument = suc-ne-zero 4
number_some NoWays = suc-ne-zero 5
number_some FullCount = suc-ne-zero 6
number_some SharedWay = suc-ne-zero 7
number_some SharedNode = suc-ne-zero 8
number_some File = suc-ne-zero 9
number_some Core = suc-ne-zero 10
number_some Block = suc-ne-zero 11
