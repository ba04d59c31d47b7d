-- The maps of one way and of the first ways, and maps that reach a number of ways, for every width.
use mathlib.Core.Path.{◌≡◌, sym, ap, ◌∙◌}
use mathlib.Core.Bool.{Bool, true, false, not, ◌&&◌, ◌||◌, and-true, and-false, and-or_distrib_right, false≢true}
use Prim.Native.Nat.{ℕ, ◌-◌, ◌*◌, ◌/◌, ◌%◌, ◌^◌, ◌≤◌, ◌<◌}
use native.Mathlib.Nat.{one-mul, div-eq_of_lt, div-lt_iff_lt-mul, lt_of_le_of_lt, lt_of_lt_of_le}
use native.Mathlib.Omega.{arith}
use lib.Dec.{eqb, leb, ltb}
use lib.Bits.{bit_and, bit_or, and_le_l, or_lt}
use lib.Pow.{pow_pos, pow-lt, shl_exact}
use borrow.Author.Tests.{eqb-true, ne_eqb, eq-eqb, lt-ltb, ltb-true, ltb-false, le-leb, leb-true}
use Rattle.waymap.specs.Bits.{bit, word, any, put, reaches}
use Rattle.waymap.proofs.Booleans.{cases, cleared, raised}
use Rattle.waymap.proofs.BitLaws.{bit_none, bit_pow, bit_ones, bit_and_lem, bit_or_lem, bit_not}
use Rattle.waymap.proofs.WordLaws.{word_lt, bit_word, bit_word_in, from_bits, bit_high, high_none}
use Rattle.waymap.proofs.WayLaws.{any_none, none_at, any_ext, any_or}

-- ---- one way, and the first ways

pub shifted_one : (n way : ℕ) → way < n → (1 * 2 ^ way) % 2 ^ n ≡ 2 ^ way
shifted_one n way h = shl_exact {a = 1} 1 way n (omega arith) (omega arith) ∙ one-mul (2 ^ way)

pub one_way : (n way : ℕ) → way < n → (1 * 2 ^ way) % 2 ^ n ≡ word n (λ (w : ℕ). eqb way w)
one_way n way h = shifted_one n way h ∙ from_bits n (pow-lt h) (λ i k. bit_pow way i)

pub no_way : (n way : ℕ) → n ≤ way → 0 ≡ word n (λ (w : ℕ). eqb way w)
no_way n way h = from_bits n (pow_pos n) (λ i k. bit_none i ∙ sym (ne_eqb way i (λ e. omega arith)))

pub first_ways : (n ways : ℕ) → ways < n → (1 * 2 ^ ways) % 2 ^ n - 1 ≡ word n (λ (w : ℕ). ltb w ways)
first_ways n ways h =
    ap (λ (x : ℕ). x - 1) (shifted_one n ways h)
    ∙ from_bits n (lt_of_le_of_lt (omega arith) (pow-lt h)) (λ i k. bit_ones ways i)

pub every_way : (n ways : ℕ) → n ≤ ways → 2 ^ n - 1 ≡ word n (λ (w : ℕ). ltb w ways)
every_way n ways h =
    from_bits n (omega (arith, pow_pos n)) (λ i k. bit_ones n i ∙ lt-ltb i n k ∙ sym (lt-ltb i ways (lt_of_lt_of_le k h)))

-- a map cut to the first ways
pub cut_bit : (n ways map i : ℕ) {all : ℕ} → map < 2 ^ n → all ≡ word n (λ (w : ℕ). ltb w ways) → bit (bit_and map all) i ≡ (bit map i && ltb i ways)
cut_bit n ways map i {all} h e =
    bit_and_lem map all i
    ∙ ap (λ (t : Bool). bit map i && t) (ap (λ (x : ℕ). bit x i) e ∙ bit_word n (λ (w : ℕ). ltb w ways) i)
    ∙ cases (ltb i n) (λ t. rw t) (λ t. rw (bit_high n map i h (ltb-false i n t)))

-- joining one way to a map, and taking it out
pub put_in : (way map : ℕ) {one : ℕ} → map < 2 ^ 16 → one ≡ word 16 (λ (w : ℕ). eqb way w) → bit_or map one ≡ put way true map
unfolding put
put_in way map {one} h e =
    from_bits 16 (or_lt 16 map one h (rw e (word_lt 16 (λ (w : ℕ). eqb way w))))
    (λ i k. bit_or_lem map one i ∙ rw (e, bit_word_in 16 (λ (w : ℕ). eqb way w) i k) (raised (eqb way i) (bit map i)))

pub put_out : (way map : ℕ) {one : ℕ} → map < 2 ^ 16 → one ≡ word 16 (λ (w : ℕ). eqb way w) → bit_and map (2 ^ 16 - 1 - one) ≡ put way false map
unfolding put
put_out way map {one} h e =
    from_bits 16 (lt_of_le_of_lt (and_le_l map (2 ^ 16 - 1 - one)) h)
    (λ i k.
    bit_and_lem map (2 ^ 16 - 1 - one) i
    ∙ ap (λ (t : Bool). bit map i && t)
    (bit_not 16 one i (rw e (word_lt 16 (λ (w : ℕ). eqb way w))) ∙ rw (lt-ltb i 16 k, e, bit_word_in 16 (λ (w : ℕ). eqb way w) i k))
    ∙ cleared (eqb way i) (bit map i))

-- the empty map has no way
pub none_empty : (n : ℕ) → any n (bit 0) ≡ false
none_empty n = any_none n (λ i h. bit_none i)

-- ---- reaching a number of ways

-- a map that reaches no way at `ways` or above is a number below 2 ^ ways
pub below_reach : (ways map : ℕ) → map < 2 ^ 16 → reaches ways map ≡ false → map < 2 ^ ways
unfolding reaches
below_reach ways map h e = high_none 16 ways map h absent
  where
    absent : (i : ℕ) → ways ≤ i → bit map i ≡ false
    absent i k =
        cases (ltb i 16)
        (λ t. let r : (bit map i && leb ways i) ≡ false = none_at 16 (λ (w : ℕ). bit map w && leb ways w) i e (ltb-true i 16 t) in
        sym (and-true (bit map i)) ∙ (rw (le-leb ways i k) at r))
        (λ t. bit_high 16 map i h (ltb-false i 16 t))

-- and a number below 2 ^ ways reaches none
pub reach_below : (ways map : ℕ) → map < 2 ^ ways → reaches ways map ≡ false
unfolding reaches
reach_below ways map h = any_none 16 (λ i k. absent i)
  where
    absent : (i : ℕ) → (bit map i && leb ways i) ≡ false
    absent i = cases (leb ways i) (λ t. rw (bit_high ways map i h (leb-true ways i t))) (λ t. rw t (and-false (bit map i)))

-- shifting the ways below `ways` out leaves nothing where none is at `ways` or above
pub shift_reach : (ways map : ℕ) → map < 2 ^ 16 → eqb (map / 2 ^ ways) 0 ≡ not (reaches ways map)
shift_reach ways map h =
    cases (reaches ways map)
    (λ t. rw t (cases (eqb (map / 2 ^ ways) 0) (λ z. absurd (false≢true (sym (reach_below ways map (small z)) ∙ t))) (λ z. z)))
    (λ t. rw t (eq-eqb (map / 2 ^ ways) 0 (div-eq_of_lt (below_reach ways map h t))))
  where
    small : eqb (map / 2 ^ ways) 0 ≡ true → map < 2 ^ ways
    small z = rw one-mul at ((div-lt_iff_lt-mul {k = 2 ^ ways} {x = map} {y = 1} (pow_pos ways)).0 (omega (arith, eqb-true (map / 2 ^ ways) 0 z)))

-- two maps joined reach where one of them does
pub reach_or : (ways a b : ℕ) → reaches ways (bit_or a b) ≡ (reaches ways a || reaches ways b)
unfolding reaches
reach_or ways a b =
    any_ext 16 (λ i k. ap (λ (t : Bool). t && leb ways i) (bit_or_lem a b i) ∙ and-or_distrib_right (bit a i) (bit b i) (leb ways i))
    ∙ any_or 16 (λ (i : ℕ). bit a i && leb ways i) (λ (i : ℕ). bit b i && leb ways i)
