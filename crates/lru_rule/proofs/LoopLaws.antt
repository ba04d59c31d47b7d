-- The loops over a word's places: what holds at each turn.
use mathlib.Core.Path.{◌≡◌, refl, sym, ap, ◌∙◌}
use mathlib.Core.Bool.{Bool, true, false, cond, not, ◌||◌, and-false, or_assoc, or-true, or-false, true≢false}
use mathlib.Core.List.{◌∷◌}
use Prim.Native.Nat.{ℕ, zero, suc, ◌+◌, ◌-◌, ◌*◌, ◌/◌, ◌%◌, ◌^◌, ◌≤◌, ◌<◌}
use native.Mathlib.Nat.{zero-add, sub-zero, div-one, div-div-eq-div-mul, pow-suc}
use native.Mathlib.Numerals.{add-one}
use native.Mathlib.Omega.{arith}
use lib.Dec.{eqb, ltb}
use lib.Bits.{bit_or, or_lt}
use lib.Pow.{pow-add}
use borrow.Author.Tests.{eqb-true, eqb-false, eq-eqb, ne_eqb, lt-ltb, not-true}
use Rattle.waymap.specs.Bits.{Bits, bit, digit, word}
use Rattle.waymap.proofs.Booleans.{cases}
use Rattle.waymap.proofs.BitLaws.{bit_or_lem, bit_none}
use Rattle.waymap.proofs.WordLaws.{word_lt, bit_word, bit_word_in, from_bits}
use Rattle.lru_rule.specs.Lru.{places, word_of, times, malformed, fresh, kept, last}
use Rattle.lru_rule.proofs.PlaceLaws.{shifted, places_long, places_each, each_formed}
use Rattle.lru_rule.proofs.OrderLaws.{none_missing}
use Rattle.lru_rule.proofs.BeforeLaws.{stands, stands_cons}

-- ---- places by shifts

pub four_bits : (k : ℕ) → 2 ^ (4 * k) ≡ 16 ^ k
four_bits zero = refl
four_bits (suc k) =
    ap (λ (n : ℕ). 2 ^ n) four ∙ pow-add 2 (4 * k) 4 ∙ ap (λ (n : ℕ). n * 16) (four_bits k) ∙ sym (pow-suc 16 k)
  where
    four : 4 * suc k ≡ 4 * k + 4
    four = omega arith

next : (x j : ℕ) → x / 16 ^ j / 16 ≡ x / 16 ^ suc j
next x j = div-div-eq-div-mul x (16 ^ j) 16 ∙ ap (λ (n : ℕ). x / n) (sym (pow-suc 16 j))

-- the places from place j on are place j and those from the next one on
pub places_from : (W x j : ℕ) → j < W → places (W - j) (x / 16 ^ j) ≡ x / 16 ^ j % 16 ∷ places (W - suc j) (x / 16 ^ suc j)
unfolding places
places_from W x j h = rw more (ap (λ (y : ℕ). x / 16 ^ j % 16 ∷ places (W - suc j) y) (next x j))
  where
    more : W - j ≡ suc (W - suc j)
    more = omega arith

-- the fresh order of fewer ways is an end of that of more
fresh_end : (W j : ℕ) → j + W ≤ 16 → word_of (fresh (j + W)) / 16 ^ j ≡ word_of (fresh W)
unfolding word_of fresh
fresh_end W zero h = div-one (word_of (fresh (0 + W))) ∙ ap (λ (n : ℕ). word_of (fresh n)) (zero-add W)
fresh_end W (suc j) h =
    ap (λ (n : ℕ). word_of (fresh n) / 16 ^ suc j) more ∙ shifted j (word_of (fresh (suc (j + W)))) ∙ ap (λ (n : ℕ). n / 16 ^ j) rest
    ∙ fresh_end W j (omega arith)
  where
    more : suc j + W ≡ suc (j + W)
    more = omega arith

    rest : (j + W + 16 * word_of (fresh (j + W))) / 16 ≡ word_of (fresh (j + W))
    rest = omega arith

pub fresh_shift : (W : ℕ) → W ≤ 16 → 0x0123456789abcdef / 2 ^ (64 - 4 * W) ≡ word_of (fresh W)
unfolding word_of fresh
fresh_shift W h =
    ap (λ (n : ℕ). 0x0123456789abcdef / 2 ^ n) four ∙ ap (λ (n : ℕ). 0x0123456789abcdef / n) (four_bits (16 - W))
    ∙ ap (λ (n : ℕ). word_of (fresh n) / 16 ^ (16 - W)) sixteen ∙ fresh_end W (16 - W) (omega arith)
  where
    four : 64 - 4 * W ≡ 4 * (16 - W)
    four = omega arith

    sixteen : 16 ≡ 16 - W + W
    sixteen = omega arith

-- ---- the oldest way of a map

-- by the last of n + 1 places, or else by the first n
last_turn : (m : Bits) (d n x : ℕ)
    → last d (kept m (places (suc n) x)) ≡ cond (m (x / 16 ^ n % 16)) (x / 16 ^ n % 16) (last d (kept m (places n x)))
unfolding last kept places
last_turn m d zero x = rw (div-one x) (cases (m (x % 16)) (λ t. rw t) (λ t. rw t))
last_turn m d (suc n) x =
    rw (shifted n x)
    (cases (m (x % 16))
    (λ t. rw t (last_turn m (x % 16) n (x / 16)))
    (λ t. rw t (last_turn m d n (x / 16))))

-- no way of the map stands at place k or above
pub record Searching (W : ℕ) (m : Bits) (x k : ℕ) : Type 0 where
  pub within : k ≤ W
  pub is : last 0 (kept m (places W x)) ≡ last 0 (kept m (places k x))

turn : (m : Bits) (x k : ℕ) → 0 < k
    → last 0 (kept m (places k x)) ≡ cond (m (x / 16 ^ (k - 1) % 16)) (x / 16 ^ (k - 1) % 16) (last 0 (kept m (places (k - 1) x)))
turn m x zero h = absurd (omega arith)
turn m x (suc n) h = let e : suc n - 1 ≡ n = omega arith in rw e (last_turn m 0 n x)

module _ {W : ℕ} {m : Bits} {x : ℕ} where
  pub search_begin : Searching W m x W
  search_begin = record { within = omega arith; is = refl }

  pub search_found : {k way : ℕ} {b : Bool} → Searching W m x k → 0 < k → way ≡ x / 16 ^ (k - 1) % 16 → b ≡ m way → b ≡ true
      → way ≡ last 0 (kept m (places W x))
  search_found {k} {way} s h e f t = sym (s.is ∙ turn m x k h ∙ rw (sym e, sym f ∙ t))

  pub search_turned : {k way : ℕ} {b : Bool} → Searching W m x k → 0 < k → way ≡ x / 16 ^ (k - 1) % 16 → b ≡ m way → b ≡ false
      → Searching W m x (k - 1)
  search_turned {k} {way} s h e f t = record { within = omega (arith, s.within); is = s.is ∙ turn m x k h ∙ rw (sym e, sym f ∙ t) }

  pub search_end : (k : ℕ) → Searching W m x k → k ≤ 0 → 0 ≡ last 0 (kept m (places W x))
  unfolding last kept places
  search_end zero s h = sym s.is
  search_end (suc n) s h = absurd (omega arith)

-- ---- the ways that stand in a word

-- the map of a way
pub way_bit : (v w : ℕ) → v < 16 → bit (word 16 (λ (u : ℕ). eqb v u)) w ≡ eqb v w
way_bit v w h =
    bit_word 16 (λ (u : ℕ). eqb v u) w
    ∙ cases (eqb v w)
    (λ t. let e : v ≡ w = eqb-true v w t in rw (t, lt-ltb w 16 (omega arith)))
    (λ t. rw (t, and-false (ltb w 16)))

-- a higher place that is not zero
pub high_malformed : (W x : ℕ) → (x / 16 ^ W ≡ 0 → ⊥) → false ≡ not (malformed W x)
unfolding malformed
high_malformed W x n = rw (ne_eqb (x / 16 ^ W) 0 n, or-true)

-- where all are, no way may be missing among those that were seen
module _ (W x : ℕ) {seen all : ℕ} (small : W ≤ 16) (seen_lt : seen < 2 ^ 16) (seen_are : (w : ℕ) → bit seen w ≡ stands w (places W x))
    (e : all ≡ word 16 (λ (w : ℕ). ltb w W)) where
  least : seen ≡ all → (w : ℕ) → w < W → 1 ≤ times w (places W x)
  least same w h =
      let here : stands w (places W x) ≡ true =
      sym (seen_are w) ∙ ap (λ (n : ℕ). bit n w) (same ∙ e) ∙ bit_word_in 16 (λ (v : ℕ). ltb v W) w (omega arith) ∙ lt-ltb w W h in
      omega (arith, eqb-false (times w (places W x)) 0 (not-true (eqb (times w (places W x)) 0) here))

  once : (w : ℕ) → not (eqb (digit (ltb w W)) 0) ≡ ltb w W
  once w = cases (ltb w W) (λ t. rw t) (λ t. rw t)

  pub formed_is : x / 16 ^ W ≡ 0 → eqb seen all ≡ not (malformed W x)
  formed_is low =
      cases (malformed W x)
      (λ t. rw t (ne_eqb seen all (λ same. true≢false (sym t ∙ each_formed W x (none_missing W (places W x) (places_long W x) (least same)) low))))
      (λ t. rw t (eq-eqb seen all (from_bits 16 seen_lt (λ w h. seen_are w ∙ ap (λ (n : ℕ). not (eqb n 0)) (places_each W x t w) ∙ once w) ∙ sym e)))

-- The ways at the places below k have been seen.
pub record Seeing (W x seen rest k : ℕ) : Type 0 where
  pub within : k ≤ W
  pub seen_lt : seen < 2 ^ 16
  pub rest_is : rest ≡ x / 16 ^ k
  pub seen_are : (w : ℕ) → (bit seen w || stands w (places (W - k) rest)) ≡ stands w (places W x)

pub see_begin : {W x : ℕ} → Seeing W x 0 x 0
see_begin {W} {x} = record { within = omega arith; seen_lt = omega arith; rest_is = sym (div-one x); seen_are = λ w. rw (bit_none w, sub-zero W) }

pub see_turned : {W x seen rest k one : ℕ} → Seeing W x seen rest k → k < W → one ≡ word 16 (λ (w : ℕ). eqb (rest % 16) w)
    → Seeing W x (bit_or seen one) (rest / 16) (k + 1)
unfolding places
see_turned {W} {x} {seen} {rest} {k} {one} s h e = record {
  within = omega arith;
  seen_lt = or_lt 16 seen one s.seen_lt (rw e (word_lt 16 (λ (w : ℕ). eqb (rest % 16) w)));
  rest_is = ap (λ (n : ℕ). n / 16) s.rest_is ∙ next x k ∙ ap (λ (n : ℕ). x / 16 ^ n) (sym (add-one k));
  seen_are = λ w. rw (bit_or_lem seen one w, e, way_bit (rest % 16) w (omega arith)) (turned w);
}
  where
    more : W - k ≡ suc (W - (k + 1))
    more = omega arith

    turned : (w : ℕ) → (bit seen w || eqb (rest % 16) w || stands w (places (W - (k + 1)) (rest / 16))) ≡ stands w (places W x)
    turned w =
        or_assoc (bit seen w) (eqb (rest % 16) w) (stands w (places (W - (k + 1)) (rest / 16)))
        ∙ ap (λ (b : Bool). bit seen w || b)
        (sym (ap (λ (n : ℕ). stands w (places n rest)) more ∙ stands_cons (rest % 16) w (places (W - (k + 1)) (rest / 16))))
        ∙ s.seen_are w

-- at the end
module _ {W x seen rest k : ℕ} (s : Seeing W x seen rest k) (done : W ≤ k) where
  last_rest : rest ≡ x / 16 ^ W
  last_rest = s.rest_is ∙ ap (λ (n : ℕ). x / 16 ^ n) (omega (arith, s.within))

  all_seen : (w : ℕ) → bit seen w ≡ stands w (places W x)
  unfolding places times
  all_seen w =
      let none : W - k ≡ 0 = omega arith in
      sym (ap (λ (n : ℕ). bit seen w || stands w (places n rest)) none ∙ or-false (bit seen w)) ∙ s.seen_are w

  pub see_more : (rest ≡ 0 → ⊥) → false ≡ not (malformed W x)
  see_more n = high_malformed W x (λ e. n (last_rest ∙ e))

  pub see_ways : {all : ℕ} → W ≤ 16 → all ≡ word 16 (λ (w : ℕ). ltb w W) → rest ≡ 0 → eqb seen all ≡ not (malformed W x)
  see_ways small e z = formed_is W x small s.seen_lt all_seen e (sym last_rest ∙ z)
