-- One pass over a word's places, from the oldest down: what holds at each turn.
use mathlib.Core.Path.{◌≡◌, refl, sym, ap, ap₂, ◌∙◌}
use mathlib.Core.Bool.{Bool, true, false, not, ◌||◌, or_comm}
use mathlib.Core.List.{◌∷◌}
use Prim.Native.Nat.{ℕ, zero, suc, ◌+◌, ◌-◌, ◌*◌, ◌/◌, ◌%◌, ◌^◌, ◌≤◌, ◌<◌}
use native.Mathlib.Nat.{zero-add, zero-mul, sub-zero, mul_assoc, le_of_eq, lt_of_le_of_lt, mod-lt, div-one, div-eq_of_lt, div-add-mod', one-le-pow}
use native.Mathlib.Omega.{arith}
use lib.Dec.{eqb, ltb}
use lib.Bits.{bit_or, or_lt}
use lib.Pow.{pow-add, shl-shr, shr-shr, field}
use borrow.Author.Tests.{eq-eqb, ne_eqb, not-true, not-false}
use Rattle.std.specs.Prelude.{Option, Some, None}
use Rattle.waymap.specs.Bits.{Bits, bit, word}
use Rattle.waymap.proofs.Booleans.{cases}
use Rattle.waymap.proofs.BitLaws.{bit_or_lem, bit_none}
use Rattle.waymap.proofs.WordLaws.{word_lt}
use Rattle.lru_rule.specs.Lru.{places, times, malformed, kept}
use Rattle.lru_rule.specs.Calls.{ahead}
use Rattle.lru_rule.specs.Inside.{passed}
use Rattle.lru_rule.proofs.BeforeLaws.{stands, stands_cons}
use Rattle.lru_rule.proofs.LoopLaws.{four_bits, places_from, way_bit, high_malformed, formed_is}

-- one place before those that were looked at
place_before : (W x k : ℕ) → 0 < k → k ≤ W → places (W - (k - 1)) (x / 16 ^ (k - 1)) ≡ x / 16 ^ (k - 1) % 16 ∷ places (W - k) (x / 16 ^ k)
place_before W x zero h l = absurd (omega arith)
place_before W x (suc j) h l = let e : suc j - 1 ≡ j = omega arith in rw e (places_from W x j (omega arith))

-- a word shifted so that the places below k stand at the top
abbrev pub raised : ℕ → ℕ → ℕ
raised x k = (x * 2 ^ (64 - 4 * k)) % 2 ^ 64

-- what stands at the very top is the place below k
raised_top : (x k : ℕ) → 0 < k → k ≤ 16 → raised x k / 2 ^ 60 ≡ x / 16 ^ (k - 1) % 16
raised_top x k h l =
    field (x * 2 ^ a) 4 60
    ∙ ap (λ (n : ℕ). n % 16)
    (ap (λ (e : ℕ). x * 2 ^ a / 2 ^ e) both ∙ sym (shr-shr (x * 2 ^ a) a (4 * (k - 1))) ∙ ap (λ (n : ℕ). n / 2 ^ (4 * (k - 1))) (shl-shr x a)
    ∙ ap (λ (n : ℕ). x / n) (four_bits (k - 1)))
  where
    a : ℕ
    a = 64 - 4 * k

    both : 60 ≡ a + 4 * (k - 1)
    both = omega arith

-- and one place more is shifted out
shifted_out : (n : ℕ) → (n % 2 ^ 64 * 16) % 2 ^ 64 ≡ (n * 16) % 2 ^ 64
shifted_out n = omega arith

raised_next : (x k : ℕ) → 0 < k → k ≤ 16 → (raised x k * 16) % 2 ^ 64 ≡ raised x (k - 1)
raised_next x k h l =
    shifted_out (x * 2 ^ (64 - 4 * k))
    ∙ ap (λ (n : ℕ). n % 2 ^ 64) (mul_assoc x (2 ^ (64 - 4 * k)) 16 ∙ ap (λ (n : ℕ). x * n) (sym (pow-add 2 (64 - 4 * k) 4) ∙ ap (λ (e : ℕ). 2 ^ e) more))
  where
    more : 64 - 4 * k + 4 ≡ 64 - 4 * (k - 1)
    more = omega arith

-- shifted back, what does not stand in its W places is lost
raised_back : (W x : ℕ) → W ≤ 16 → raised x W / 2 ^ (64 - 4 * W) ≡ x % 16 ^ W
raised_back W x h =
    ap (λ (e : ℕ). (x * 2 ^ s) % 2 ^ e / 2 ^ s) all ∙ field (x * 2 ^ s) (4 * W) s
    ∙ ap₂ (λ (n m : ℕ). n % m) (shl-shr x s) (four_bits W)
  where
    s : ℕ
    s = 64 - 4 * W

    all : 64 ≡ 4 * W + s
    all = omega arith

-- The places from k on have been looked at: their ways have been seen, and those of the map have been put before y.
pub record Passing (W x : ℕ) (m : Bits) (y seen rest out k : ℕ) : Type 0 where
  pub small : W ≤ 16
  pub within : k ≤ W
  pub seen_lt : seen < 2 ^ 16
  pub rest_is : rest ≡ raised x k
  pub seen_are : (w : ℕ) → bit seen w ≡ stands w (places (W - k) (x / 16 ^ k))
  pub is : out ≡ ahead (kept m (places (W - k) (x / 16 ^ k))) y

pub pass_begin : {W x : ℕ} {m : Bits} {y : ℕ} → W ≤ 16 → Passing W x m y 0 (raised x W) y W
unfolding places kept ahead times
pass_begin {W} {x} {m} {y} h =
    let e : W - W ≡ 0 = omega arith in
    record { small = h; within = omega arith; seen_lt = omega arith; rest_is = refl; seen_are = λ w. rw (bit_none w, e); is = rw e }

-- a turn, for a way of the map and for another
module _ {W x : ℕ} {m : Bits} {y seen rest out k one : ℕ} {b : Bool} (p : Passing W x m y seen rest out k) (h : 0 < k)
    (e : one ≡ word 16 (λ (w : ℕ). eqb (rest / 2 ^ 60) w)) (f : b ≡ m (rest / 2 ^ 60)) where
  few : k ≤ 16
  few = omega (arith, p.within, p.small)

  way_is : rest / 2 ^ 60 ≡ x / 16 ^ (k - 1) % 16
  way_is = ap (λ (n : ℕ). n / 2 ^ 60) p.rest_is ∙ raised_top x k h few

  next_rest : (rest * 16) % 2 ^ 64 ≡ raised x (k - 1)
  next_rest = ap (λ (n : ℕ). (n * 16) % 2 ^ 64) p.rest_is ∙ raised_next x k h few

  seen_more : (w : ℕ) → bit (bit_or seen one) w ≡ stands w (places (W - (k - 1)) (x / 16 ^ (k - 1)))
  seen_more w =
      let low : rest / 2 ^ 60 < 16 = omega (arith, way_is) in
      bit_or_lem seen one w
      ∙ ap₂ ◌||◌ (p.seen_are w) (ap (λ (n : ℕ). bit n w) e ∙ way_bit (rest / 2 ^ 60) w low ∙ ap (λ (v : ℕ). eqb v w) way_is)
      ∙ or_comm (stands w (places (W - k) (x / 16 ^ k))) (eqb (x / 16 ^ (k - 1) % 16) w)
      ∙ sym (ap (stands w) (place_before W x k h p.within) ∙ stands_cons (x / 16 ^ (k - 1) % 16) w (places (W - k) (x / 16 ^ k)))

  seen_small : bit_or seen one < 2 ^ 16
  seen_small = or_lt 16 seen one p.seen_lt (rw e (word_lt 16 (λ (w : ℕ). eqb (rest / 2 ^ 60) w)))

  turned : {next : ℕ} → next ≡ ahead (kept m (places (W - (k - 1)) (x / 16 ^ (k - 1)))) y
      → Passing W x m y (bit_or seen one) ((rest * 16) % 2 ^ 64) next (k - 1)
  turned is = record {
    small = p.small;
    within = omega (arith, p.within);
    seen_lt = seen_small;
    rest_is = next_rest;
    seen_are = seen_more;
    is = is;
  }

  pub pass_taken : b ≡ true → Passing W x m y (bit_or seen one) ((rest * 16) % 2 ^ 64) ((out * 16) % 2 ^ 64 + rest / 2 ^ 60) (k - 1)
  unfolding kept ahead
  pass_taken t = turned (rw (place_before W x k h p.within, sym way_is, sym f ∙ t, p.is))

  pub pass_left : b ≡ false → Passing W x m y (bit_or seen one) ((rest * 16) % 2 ^ 64) out (k - 1)
  unfolding kept
  pass_left t = turned (rw (place_before W x k h p.within, sym way_is, sym f ∙ t) p.is)

-- at the end
module _ {W x : ℕ} {m : Bits} {y seen rest out : ℕ} (k : ℕ) (p : Passing W x m y seen rest out k) (done : k ≤ 0) where
  none : k ≡ 0
  none = omega arith

  all_seen : (w : ℕ) → bit seen w ≡ stands w (places W x)
  all_seen w = p.seen_are w ∙ rw (none, sub-zero W, div-one x)

  pub pass_put : out ≡ ahead (kept m (places W x)) y
  pass_put = p.is ∙ rw (none, sub-zero W, div-one x)

  back : raised x W / 2 ^ (64 - 4 * W) ≡ x % 16 ^ W
  back = raised_back W x p.small

  pub pass_high : (raised x W / 2 ^ (64 - 4 * W) ≡ x → ⊥) → false ≡ not (malformed W x)
  pass_high n = high_malformed W x (λ z. n (back ∙ rest_all z))
    where
      rest_all : x / 16 ^ W ≡ 0 → x % 16 ^ W ≡ x
      rest_all z =
          sym (ap (λ (d : ℕ). d * 16 ^ W + x % 16 ^ W) z ∙ ap (λ (n : ℕ). n + x % 16 ^ W) (zero-mul (16 ^ W)) ∙ zero-add (x % 16 ^ W))
          ∙ div-add-mod' x (16 ^ W)

  pub pass_ways : {all : ℕ} → all ≡ word 16 (λ (w : ℕ). ltb w W) → raised x W / 2 ^ (64 - 4 * W) ≡ x → eqb seen all ≡ not (malformed W x)
  pass_ways e z =
      formed_is W x p.small p.seen_lt all_seen e
      (div-eq_of_lt (lt_of_le_of_lt (le_of_eq (sym z ∙ back)) (mod-lt x (one-le-pow W 16 (omega arith)))))

  -- what the pass gives, by what its tests find
  pub given_high : (raised x W / 2 ^ (64 - 4 * W) ≡ x → ⊥) → None ≡ passed m y W x
  unfolding passed
  given_high n = rw (not-false (malformed W x) (sym (pass_high n)))

  pub given_other : {all : ℕ} → all ≡ word 16 (λ (w : ℕ). ltb w W) → raised x W / 2 ^ (64 - 4 * W) ≡ x → (seen ≡ all → ⊥) → None ≡ passed m y W x
  unfolding passed
  given_other {all} e z n = rw (not-false (malformed W x) (sym (pass_ways e z) ∙ ne_eqb seen all n))

  pub given_formed : {all : ℕ} → all ≡ word 16 (λ (w : ℕ). ltb w W) → raised x W / 2 ^ (64 - 4 * W) ≡ x → seen ≡ all → Some out ≡ passed m y W x
  unfolding passed
  given_formed {all} e z s = rw (not-true (malformed W x) (sym (pass_ways e z) ∙ eq-eqb seen all s)) (ap Some pass_put)

-- a word that is formed gives its ways
pub passed_formed : (m : Bits) (y W x : ℕ) → malformed W x ≡ false → passed m y W x ≡ Some (ahead (kept m (places W x)) y)
unfolding passed
passed_formed m y W x f = rw f

some_same : (a b : ℕ) → ◌≡◌ {A = Option ℕ} (Some a) (Some b) → a ≡ b
some_same a b e = cc

none_other : (b : ℕ) → ◌≡◌ {A = Option ℕ} None (Some b) → ⊥
none_other b e = cc

-- and what is given or not says whether it is
pub passed_some : (m : Bits) (y W x : ℕ) {z : ℕ} → Some z ≡ passed m y W x → (malformed W x ≡ false) × (z ≡ ahead (kept m (places W x)) y)
unfolding passed
passed_some m y W x {z} e =
    cases (malformed W x)
    (λ t. absurd (none_other z (sym (rw t at e))))
    (λ t. (t, some_same z (ahead (kept m (places W x)) y) (rw t at e)))

pub passed_none : (m : Bits) (y W x : ℕ) → None ≡ passed m y W x → malformed W x ≡ true
unfolding passed
passed_none m y W x e = cases (malformed W x) (λ t. t) (λ t. absurd (none_other (ahead (kept m (places W x)) y) (rw t at e)))
