-- What a step means, as the code tests its kind.
use mathlib.Core.Path.{◌≡◌, refl, sym, ap}
use mathlib.Core.Bool.{Bool, true, false, not, ◌&&◌}
use mathlib.Core.List.{List, ◌∷◌}
use Prim.Native.Nat.{ℕ, ◌+◌, ◌≤◌}
use native.Mathlib.Omega.{arith}
use lib.Dec.{eqb, leb}
use borrow.Author.Tests.{ne_eqb, leb-true, not-true}
use Rattle.waymap.proofs.Booleans.{cases, and_left, and_right, or_none}
use Rattle.std.specs.Prelude.{Result, Ok, Err}
use Rattle.command.specs.Command.{Command}
use Rattle.command.specs.declared.Refusal.{Refusal}
use Rattle.command.proofs.RefusalLaws.{number_injective}
use Rattle.selectors.specs.Selectors.{no_core, names_core, coreless, Meant, plain, select, refused, meant_by, meant, record_by}
use Rattle.selectors.specs.Calls.{meaning_is, record_left}
use Rattle.selectors.specs.declared.Core.{Core}
use Rattle.selectors.specs.declared.Meaning.{Meaning}
use Rattle.selectors.specs.declared.Meaning.TheVariants.{Plain, Select}
use Rattle.selectors.specs.Statements.{MeaningInjective}

next : (n k : ℕ) → n ≤ k → (k ≡ n → ⊥) → n + 1 ≤ k
next n k h other = omega arith

not_le : {k : ℕ} → 36 ≤ k → k ≤ 35 → ⊥
not_le h i = omega arith

-- a kind that is none of a core's
not_through : (k : ℕ) → (k ≡ 32 → ⊥) → (k ≡ 33 → ⊥) → (k ≡ 34 → ⊥) → (k ≡ 35 → ⊥) → (leb 32 k && leb k 35) ≡ false
not_through k a b c d =
    cases (leb 32 k)
    (λ t. cases (leb k 35)
    (λ u. absurd (not_le (next 35 k (next 34 k (next 33 k (next 32 k (leb-true 32 k t) a) b) c) d) (leb-true k 35 u)))
    (λ u. rw (t, u)))
    (λ t. rw t)

pub stays_plain : (listed : Bool) (core : Core) (c : Command) → (c.kind ≡ 32 → ⊥) → (c.kind ≡ 33 → ⊥) → (c.kind ≡ 34 → ⊥) → (c.kind ≡ 35 → ⊥)
    → (c.kind ≡ 40 → ⊥) → plain c ≡ meant_by listed core c
unfolding meant_by
stays_plain listed core c h32 h33 h34 h35 h40 = rw (not_through c.kind h32 h33 h34 h35, ne_eqb c.kind 40 h40)

-- ---- a step that names no core

pub other_meant : (cores : List Core) (c : Command) → names_core c.kind ≡ false → meant cores c ≡ plain c
unfolding meant meant_by names_core
other_meant cores c e =
    let none = or_none (leb 32 c.kind && leb c.kind 35) (eqb c.kind 40) e in
    rw (none.0, none.1)

-- The first of a list of which none names a core, and the others.
pub coreless_next : (c : Command) (cs : List Command) → coreless (c ∷ cs) ≡ true → (names_core c.kind ≡ false) × (coreless cs ≡ true)
unfolding coreless
coreless_next c cs e =
    (not-true (names_core c.kind) (and_left (not (names_core c.kind)) (coreless cs) e), and_right (not (names_core c.kind)) (coreless cs) e)

-- ---- the contract of `meant` settles its whole answer

-- which of the three it is, the meaning that it tells, and the number
which : Meant → ℕ
which (plain c) = 0
which (select core) = 1
which (refused n) = 2

meaning_of : Meant → Meaning
meaning_of (plain c) = Plain c.domain c.kind c.argument
meaning_of (select core) = Select core
meaning_of (refused n) = Select no_core

number_told : Meant → ℕ
number_told (plain c) = 0
number_told (select core) = 0
number_told (refused n) = n

meaning_again : (m : Meaning) → meaning_of (meaning_is (Ok m)) ≡ m
unfolding meaning_of
meaning_again (Plain d k a) = refl
meaning_again (Select core) = refl

not_refused : (m : Meaning) (r : Refusal) → meaning_is (Ok m) ≡ meaning_is (Err r) → ⊥
unfolding which
not_refused (Plain d k a) r e = let f = ap which e in omega arith
not_refused (Select core) r e = let f = ap which e in omega arith

pub meaning_injective : MeaningInjective
unfolding number_told
meaning_injective (Ok p) (Ok q) e = ap Ok (rw (← (meaning_again p), ← (meaning_again q), e))
meaning_injective (Ok p) (Err s) e = absurd (not_refused p s e)
meaning_injective (Err r) (Ok q) e = absurd (not_refused q r (sym e))
meaning_injective (Err r) (Err s) e = ap Err (number_injective r s (ap number_told e))

-- What a step leaves of its core's record, by what it means.
pub record_told : (m : Result Meaning Refusal) (core : Core) → record_left m core ≡ record_by (meaning_is m) core
unfolding record_by
record_told (Ok (Plain d k a)) core = refl
record_told (Ok (Select next)) core = refl
record_told (Err r) core = refl
