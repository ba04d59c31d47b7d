-- Whether a call is admitted, and by what number it is refused where it is not.
use mathlib.Core.Path.{◌≡◌, refl, sym, ◌∙◌}
use mathlib.Core.Bool.{Bool, true, false, not, ◌&&◌}
use Prim.Native.Nat.{ℕ, zero, suc, ◌≤◌, ◌<◌}
use native.Mathlib.Omega.{arith}
use lib.Dec.{ltb}
use borrow.Author.Tests.{ltb-true}
use Rattle.std.specs.Prelude.{Result, Ok, Err, ◌⊎◌}
use Rattle.std.proofs.Common.{inl, inr}
use Rattle.waymap.specs.Bits.{reaches}
use Rattle.waymap.specs.Ways.{is_ways}
use Rattle.waymap.proofs.Booleans.{cases, and_right}
use Rattle.replacement.specs.Refusal.{number_of}
use Rattle.replacement.specs.Calls.{in_limits, checked}
use Rattle.replacement.specs.Inside.{named, known, admitted}
use Rattle.replacement.specs.declared.Refusal.{Refusal}
use Rattle.replacement.specs.declared.Refusal.TheVariants.{OutsideLimits, OutOfReach}
use Rattle.replacement.specs.declared.Rule.{Rule}
use Rattle.replacement.specs.declared.Rule.TheVariants.{Tree, Nru, Lru}

-- ---- the number of a rule within the limits

pub low : (W rule : ℕ) → in_limits W rule ≡ true → rule < 3
unfolding in_limits
low W rule limits = ltb-true rule 3 (and_right (is_ways W) (ltb rule 3) limits)

tree_named : (r : ℕ) → Tree ≡ named r → r ≡ 0
tree_named zero e = refl
tree_named (suc zero) e = cc
tree_named (suc (suc r)) e = cc

nru_named : (r : ℕ) → Nru ≡ named r → r ≡ 1
nru_named zero e = cc
nru_named (suc zero) e = refl
nru_named (suc (suc r)) e = cc

lru_named : (r : ℕ) → r < 3 → Lru ≡ named r → r ≡ 2
lru_named zero h e = cc
lru_named (suc zero) h e = cc
lru_named (suc (suc r)) h e = omega arith

ok_same : (k l : Rule) → ◌≡◌ {A = Result Rule Refusal} (Ok k) (Ok l) → k ≡ l
ok_same k l e = cc

err_same : (e f : Refusal) → ◌≡◌ {A = Result Rule Refusal} (Err e) (Err f) → e ≡ f
err_same e f g = cc

not_both : (k : Rule) (e : Refusal) → ◌≡◌ {A = Result Rule Refusal} (Ok k) (Err e) → ⊥
not_both k e f = cc

-- ---- a rule that is given

-- a rule that is named by its number
pub record Named (W rule : ℕ) (k : Rule) : Type 0 where
  pub limits : in_limits W rule ≡ true
  pub is : k ≡ named rule

module _ {W rule : ℕ} {k : Rule} (n : Named W rule k) where
  pub is_zero : k ≡ Tree → rule ≡ 0
  is_zero e = tree_named rule (sym e ∙ n.is)

  pub is_one : k ≡ Nru → rule ≡ 1
  is_one e = nru_named rule (sym e ∙ n.is)

  pub is_two : k ≡ Lru → rule ≡ 2
  is_two e = lru_named rule (low W rule n.limits) (sym e ∙ n.is)

  pub not_zero : (k ≡ Nru) ⊎ (k ≡ Lru) → 1 ≤ rule
  not_zero (inl e) = omega (arith, is_one e)
  not_zero (inr e) = omega (arith, is_two e)

pub known_gives : (W rule : ℕ) {k : Rule} → Ok k ≡ known W rule → Named W rule k
unfolding known
known_gives W rule {k} e =
    cases (in_limits W rule)
    (λ t. record { limits = t; is = ok_same k (named rule) (rw t at e) })
    (λ t. absurd (not_both k OutsideLimits (rw t at e)))

pub known_refused : (W rule : ℕ) {e : Refusal} → Err e ≡ known W rule → (e ≡ OutsideLimits) × (in_limits W rule ≡ false)
unfolding known
known_refused W rule {e} f =
    cases (in_limits W rule)
    (λ t. absurd (not_both (named rule) e (sym (rw t at f))))
    (λ t. (err_same e OutsideLimits (rw t at f), t))

-- and whose call has a map within the ways
pub record Within (W rule map : ℕ) (k : Rule) : Type 0 where
  pub name : Named W rule k
  pub reach : reaches W map ≡ false

pub admitted_gives : (W rule map : ℕ) {k : Rule} → Ok k ≡ admitted W rule map → Within W rule map k
unfolding admitted
admitted_gives W rule map {k} e =
    cases (in_limits W rule)
    (λ t. cases (reaches W map)
    (λ r. absurd (not_both k OutOfReach (rw (t, r) at e)))
    (λ r. record { name = record { limits = t; is = ok_same k (named rule) (rw (t, r) at e) }; reach = r }))
    (λ t. absurd (not_both k OutsideLimits (rw t at e)))

-- ---- a refusal

module _ {A : Type 0} (refuse : ℕ → A) (given : A) (W rule : ℕ) {e : Refusal} where
  pub known_refuses : Err e ≡ known W rule → refuse (number_of e) ≡ checked (in_limits W rule) true refuse given
  unfolding known
  known_refuses f =
      cases (in_limits W rule)
      (λ t. absurd (not_both (named rule) e (sym (rw t at f))))
      (λ t. rw (t, err_same e OutsideLimits (rw t at f)))

  pub admitted_refuses : (map : ℕ) (more : Bool) {reach : Bool} → reach ≡ (not (reaches W map) && more) → Err e ≡ admitted W rule map
      → refuse (number_of e) ≡ checked (in_limits W rule) reach refuse given
  unfolding admitted
  admitted_refuses map more {reach} q f =
      cases (in_limits W rule)
      (λ t. cases (reaches W map)
      (λ r. rw (t, q, r, err_same e OutOfReach (rw (t, r) at f)))
      (λ r. absurd (not_both (named rule) e (sym (rw (t, r) at f)))))
      (λ t. rw (t, err_same e OutsideLimits (rw t at f)))
