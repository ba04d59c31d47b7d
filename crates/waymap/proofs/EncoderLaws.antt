-- The way that the priority encoder gives, for every number of ways.
use mathlib.Core.Path.{◌≡◌, refl, sym, ap, ap₂, ◌∙◌}
use mathlib.Core.Bool.{Bool, true, false, cond, ◌||◌, or-false, false≢true}
use Prim.Native.Nat.{ℕ, zero, suc, ◌+◌, ◌-◌, ◌^◌, ◌≤◌, ◌<◌}
use native.Mathlib.Nat.{not-le_of_lt}
use native.Mathlib.Omega.{arith}
use lib.Dec.{eqb}
use lib.Count.{count_leading_zeros, leading_top}
use borrow.Author.Tests.{eqb-true, eqb-false, lt-ltb, le-ltb}
use Rattle.waymap.specs.Bits.{Bits, bit, any}
use Rattle.waymap.specs.Encoder.{encode}
use Rattle.waymap.specs.Statements.{LeadingEncode, EncodeExt, EncodeFound, AnyEncode, EncodeWider, EncodeIs, EncodeEmpty}
use Rattle.waymap.proofs.Booleans.{cases}
use Rattle.waymap.proofs.BitLaws.{bit_none}
use Rattle.waymap.proofs.WordLaws.{bit_high, high_none}
use Rattle.waymap.proofs.WayLaws.{any_last, none_at, lowest_none}

-- ---- of maps, by computing: of ways 1 and 2 way 2, of way 0 way 0, of all but way 15 way 14; an empty map has none

encoded : (encode 8 (bit 6) ≡ 2) × (encode 16 (bit 1) ≡ 0) × (encode 16 (bit 0x7fff) ≡ 14) × (encode 16 (bit 0) ≡ 16)
unfolding encode bit
encoded = (refl, refl, refl, refl)

-- ---- what the crates above go by: none of these laws names an order

pub encode_ext : EncodeExt
unfolding encode
encode_ext zero p q e = refl
encode_ext (suc n) p q e = ap₂ (λ (b : Bool) (r : ℕ). cond b n r) (e n (omega arith)) (encode_ext n p q (λ i h. e i (omega arith)))

-- where some way passes, one of them is given
pub encode_found : EncodeFound
unfolding encode any
encode_found zero p e = absurd (false≢true e)
encode_found (suc n) p e =
    cases (p n)
    (λ t. rw t (omega arith, t))
    (λ t. let r : (encode n p < n) × (p (encode n p) ≡ true) = encode_found n p (lower t) in
    rw t (omega (arith, r.0), r.1))
  where
    lower : p n ≡ false → any n p ≡ true
    lower t = sym (or-false (any n p)) ∙ ap (λ (b : Bool). any n p || b) (sym t) ∙ sym (any_last n p) ∙ e

-- and where none does, 16
pub encode_none : (n : ℕ) (p : Bits) → ((i : ℕ) → i < n → p i ≡ false) → encode n p ≡ 16
unfolding encode
encode_none zero p e = refl
encode_none (suc n) p e = rw (e n (omega arith)) (encode_none n p (λ i h. e i (omega arith)))

-- so one passes if and only if one is given
pub any_encode : AnyEncode
any_encode n p small =
    cases (any n p)
    (λ t. t ∙ sym (lt-ltb (encode n p) n (encode_found n p t).0))
    (λ t. t ∙ sym (le-ltb (encode n p) n (rw (encode_none n p (λ i h. none_at n p i t h)) small)))

-- where none passes from k on, a wider encoder gives the same
pub encode_wider : EncodeWider
unfolding encode
encode_wider k zero p h none = let e : k ≡ 0 = omega arith in rw e
encode_wider k (suc n) p h none =
    cases (eqb k (suc n))
    (λ t. rw (eqb-true k (suc n) t))
    (λ t. let less : k ≤ n = omega (arith, eqb-false k (suc n) t) in
    rw (none n less) (encode_wider k n p less none))

-- ---- the order: a way that passes with none above it is the one given

pub encode_is : EncodeIs
unfolding encode
encode_is zero p i h above t = absurd (omega arith)
encode_is (suc n) p i h above t =
    cases (eqb i n)
    (λ e. rw (← eqb-true i n e, t))
    (λ e. let less : i < n = omega (arith, eqb-false i n e) in
    rw (above n less) (encode_is n p i less above t))

-- ---- of a map: the machine counts the zeros above its highest way

module _ (n : ℕ) {x : ℕ} (some : x ≡ 0 → ⊥) (h : x < 2 ^ n) where
  top : (i : ℕ) × (count_leading_zeros n x + suc i ≡ n) × (2 ^ i ≤ x) × (x < 2 ^ suc i)
  top = leading_top n x (omega (arith, some)) h

  above : (i : ℕ) → top.0 < i → bit x i ≡ false
  above i k = bit_high (suc top.0) x i top.3 k

  -- were the bit at the top zero, the map would be smaller
  top_set : bit x top.0 ≡ true
  top_set =
      cases (bit x top.0)
      (λ t. t)
      (λ t. absurd (not-le_of_lt
      (high_none n top.0 x h (λ i k. cases (eqb i top.0) (λ e. rw (eqb-true i top.0 e) t) (λ e. above i (omega (arith, eqb-false i top.0 e)))))
      top.2))

  pub leading_lt : count_leading_zeros n x < n
  leading_lt = omega (arith, top.1)

pub leading_encode : LeadingEncode
leading_encode n x some h =
    let place : n - 1 - count_leading_zeros n x ≡ (top n some h).0 = omega (arith, (top n some h).1) in
    place ∙ sym (encode_is n (bit x) (top n some h).0 (omega (arith, (top n some h).1)) (above n some h) (top_set n some h))

-- an empty map of sixteen ways has no highest, as it has no lowest
pub encode_empty : EncodeEmpty
encode_empty x e = rw e (lowest_none 16 (bit 0) (λ i h. bit_none i) ∙ sym (encode_none 16 (bit 0) (λ i h. bit_none i)))
