-- A way brought to place 0 by shifts: its place is found, and what stands below it moves up.
use mathlib.Core.Path.{◌≡◌, refl, sym, ap, ◌∙◌}
use mathlib.Core.Bool.{true, false}
use mathlib.Core.List.{[], ◌∷◌}
use Prim.Native.Nat.{ℕ, suc, ◌+◌, ◌-◌, ◌*◌, ◌/◌, ◌%◌, ◌^◌, ◌≤◌, ◌<◌}
use native.Mathlib.Nat.{sub-zero, mod-lt, mod-add-div', mod-eq_of_lt, div-one, div-lt_iff_lt-mul}
use native.Mathlib.Nat.{mul-le-mul_right, add-mul, mul_assoc, mul_left_comm, pow-succ'}
use native.Mathlib.Numerals.{add-one}
use native.Mathlib.Omega.{arith}
use lib.Dec.{eqb}
use lib.ListN.{length}
use lib.Pow.{pow-add, pow_pos, shr_le}
use borrow.Author.Tests.{eq-eqb, ne_eqb}
use Rattle.waymap.specs.Bits.{digit}
use Rattle.waymap.proofs.Booleans.{cases}
use Rattle.waymap.proofs.MapLaws.{shifted_one}
use Rattle.lru_rule.specs.Lru.{Order, places, word_of, times, kept, others}
use Rattle.lru_rule.specs.Inside.{rank, lifted}
use Rattle.lru_rule.specs.Statements.{Below}
use Rattle.lru_rule.proofs.OrderLaws.{eqb_sym, below_head, below_tail}
use Rattle.lru_rule.proofs.PlaceLaws.{shifted}
use Rattle.lru_rule.proofs.BeforeLaws.{not_first}
use Rattle.lru_rule.proofs.LoopLaws.{four_bits, places_from}

-- ---- the place of a way

-- a way that stands in an order has a place in it
pub rank_lt : (w : ℕ) (o : Order) → (times w o ≡ 0 → ⊥) → rank w o < length o
unfolding rank times
rank_lt w [] n = absurd (n refl)
rank_lt w (v ∷ o) n =
    cases (eqb v w)
    (λ t. rw t (omega arith))
    (λ t. rw t (omega (arith, rank_lt w o (λ z. n (rw (t, z))))))

-- it does not stand below place k
pub record Seeking (W w x k : ℕ) : Type 0 where
  pub within : rank w (places W x) < W
  pub is : rank w (places W x) ≡ k + rank w (places (W - k) (x / 16 ^ k))

pub seek_begin : {W w x : ℕ} → rank w (places W x) < W → Seeking W w x 0
seek_begin {W} {w} {x} h = record { within = h; is = rw (sub-zero W, div-one x) (omega arith) }

pub seek_lt : {W w x k : ℕ} → Seeking W w x k → k < W
seek_lt s = omega (arith, s.within, s.is)

module _ {W w x k p : ℕ} (s : Seeking W w x k) (e : p ≡ x / 16 ^ k % 16) where
  pub seek_turned : (p ≡ w → ⊥) → Seeking W w x (k + 1)
  unfolding rank
  seek_turned n =
      let next : rank w (places (W - k) (x / 16 ^ k)) ≡ suc (rank w (places (W - suc k) (x / 16 ^ suc k))) =
      ap (rank w) (places_from W x k (seek_lt s)) ∙ rw (ne_eqb (x / 16 ^ k % 16) w (λ q. n (e ∙ q))) in
      record { within = s.within; is = rw (add-one k) (omega (arith, s.is, next)) }

  pub seek_end : p ≡ w → k ≡ rank w (places W x)
  unfolding rank
  seek_end same =
      let here : rank w (places (W - k) (x / 16 ^ k)) ≡ 0 =
      ap (rank w) (places_from W x k (seek_lt s)) ∙ rw (eq-eqb (x / 16 ^ k % 16) w (sym e ∙ same)) in
      omega (arith, s.is, here)

-- ---- shifts by a place

module _ (x k : ℕ) (low : k < 16) (fits : x < 2 ^ 64) where
  -- the places above k
  abbrev above : ℕ
  above = x / 16 ^ k / 16 * 16

  unit_pos : 0 < 16 ^ k
  unit_pos = rw (sym (four_bits k)) (pow_pos (4 * k))

  -- as many units of place k as 64 bits hold
  room : 16 ^ (15 - k) * 16 * 16 ^ k ≡ 2 ^ 64
  room =
      mul_assoc (16 ^ (15 - k)) 16 (16 ^ k) ∙ ap (λ (n : ℕ). 16 ^ (15 - k) * n) (sym (pow-succ' 16 k)) ∙ sym (pow-add 16 (15 - k) (suc k))
      ∙ ap (λ (n : ℕ). 16 ^ n) sixteen
    where
      sixteen : 15 - k + suc k ≡ 16
      sixteen = omega arith

  high_room : above * 16 ^ k + 16 * 16 ^ k ≤ 2 ^ 64
  high_room =
      let most : x / 16 ^ k < 16 ^ (15 - k) * 16 = (div-lt_iff_lt-mul unit_pos).1 (rw room fits) in
      let fewer : above + 16 ≤ 16 ^ (15 - k) * 16 = omega arith in
      omega (arith, mul-le-mul_right (16 ^ k) fewer, add-mul above 16 (16 ^ k), room)

  newer_lt : x % 16 ^ k < 16 ^ k
  newer_lt = mod-lt x unit_pos

  low_fits : (w : ℕ) → w < 16 → w + x % 16 ^ k * 16 < 2 ^ 64
  low_fits w h = omega (arith, newer_lt, high_room)

  all_fits : (w : ℕ) → w < 16 → w + x % 16 ^ k * 16 + above * 16 ^ k < 2 ^ 64
  all_fits w h = omega (arith, newer_lt, high_room)

  unit_shift : (1 * 2 ^ (4 * k)) % 2 ^ 64 ≡ 16 ^ k
  unit_shift = shifted_one 64 (4 * k) (omega arith) ∙ four_bits k

  -- the same of what the code computes
  pub unit_some : 0 < (1 * 2 ^ (4 * k)) % 2 ^ 64
  unit_some = rw unit_shift unit_pos

  newer_is : x % ((1 * 2 ^ (4 * k)) % 2 ^ 64) ≡ x % 16 ^ k
  newer_is = ap (λ (u : ℕ). x % u) unit_shift

  older_is : (x / 2 ^ (4 * k) / 16 * 16 * 2 ^ (4 * k)) % 2 ^ 64 ≡ above * 16 ^ k
  older_is = ap (λ (u : ℕ). (x / u / 16 * 16 * u) % 2 ^ 64) (four_bits k) ∙ mod-eq_of_lt (omega (arith, all_fits 0 (omega arith)))

  pub newer_fits : x % ((1 * 2 ^ (4 * k)) % 2 ^ 64) * 16 < 2 ^ 64
  newer_fits = rw newer_is (omega (arith, low_fits 0 (omega arith)))

  pub older_fits : x / 2 ^ (4 * k) / 16 * 16 < 2 ^ 64
  older_fits = omega (arith, shr_le x (4 * k))

  module _ (w : ℕ) (h : w < 16) where
    pub first_fits : w + x % ((1 * 2 ^ (4 * k)) % 2 ^ 64) * 16 < 2 ^ 64
    first_fits = rw newer_is (low_fits w h)

    pub lift_is : w + x % ((1 * 2 ^ (4 * k)) % 2 ^ 64) * 16 + (x / 2 ^ (4 * k) / 16 * 16 * 2 ^ (4 * k)) % 2 ^ 64 ≡ lifted w k x
    unfolding lifted
    lift_is = rw (newer_is, older_is)

    pub lift_fits : w + x % ((1 * 2 ^ (4 * k)) % 2 ^ 64) * 16 + (x / 2 ^ (4 * k) / 16 * 16 * 2 ^ (4 * k)) % 2 ^ 64 < 2 ^ 64
    lift_fits = rw (newer_is, older_is) (all_fits w h)

-- ---- the word of the order with the way in front

-- units of the next place
unit_more : (n k : ℕ) → n * 16 ^ suc k ≡ 16 * (n * 16 ^ k)
unit_more n k = ap (λ (u : ℕ). n * u) (pow-succ' 16 k) ∙ mul_left_comm n 16 (16 ^ k)

-- a place more: the places from it on are those of the rest, and below it the first one is added
module _ (v x k : ℕ) (h : v < 16) where
  div_more : (v + 16 * x) / 16 ^ suc k ≡ x / 16 ^ k
  div_more =
      let rest : (v + 16 * x) / 16 ≡ x = omega arith in
      shifted k (v + 16 * x) ∙ ap (λ (n : ℕ). n / 16 ^ k) rest

  mod_more : (v + 16 * x) % 16 ^ suc k ≡ v + 16 * (x % 16 ^ k)
  mod_more =
      let whole = mod-add-div' (v + 16 * x) (16 ^ suc k) in
      omega (arith, rw div_more at whole, mod-add-div' x (16 ^ k), unit_more (x / 16 ^ k) k)

-- all others are kept where the way does not stand
kept_others : (w : ℕ) (o : Order) → times w o ≡ 0 → kept (others (eqb w)) o ≡ o
unfolding kept
kept_others w [] e = refl
kept_others w (v ∷ o) e = let other = not_first v w o e in rw (eqb_sym w v, other.0, kept_others w o other.1)

moved : (w : ℕ) (o : Order) → times w o ≡ 1 → Below 16 o
    → word_of o % 16 ^ rank w o * 16 + word_of o / 16 ^ rank w o / 16 * 16 * 16 ^ rank w o ≡ 16 * word_of (kept (others (eqb w)) o)
unfolding rank word_of times kept
moved w [] e b = absurd (omega arith)
moved w (v ∷ o) e b =
    let small : v < 16 = below_head 16 v o b in
    let once : digit (eqb v w) + times w o ≡ 1 = e in
    cases (eqb v w)
    (λ t. let rest : digit true + times w o ≡ 1 = rw t at once in
    rw (eqb_sym w v, t, kept_others w o (omega arith)) (omega arith))
    (λ t. let rest : digit false + times w o ≡ 1 = rw t at once in
    rw (eqb_sym w v, t, mod_more v (word_of o) (rank w o) small, div_more v (word_of o) (rank w o) small)
    (omega (arith, moved w o (omega arith) (below_tail 16 v o b), unit_more (word_of o / 16 ^ rank w o / 16 * 16) (rank w o))))

pub lifted_word : (w : ℕ) (o : Order) → times w o ≡ 1 → Below 16 o → lifted w (rank w o) (word_of o) ≡ w + 16 * word_of (kept (others (eqb w)) o)
unfolding lifted
lifted_word w o once b = omega (arith, moved w o once b)
