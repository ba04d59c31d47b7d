-- The ways of a map one by one, the lowest first, for every width.
use mathlib.Core.Path.{◌≡◌, refl, sym, ap, ap₂, ◌∙◌}
use mathlib.Core.Bool.{Bool, true, false, cond, not, ◌&&◌, and_self, and-true, false≢true}
use Prim.Native.Nat.{ℕ, zero, suc, ◌+◌, ◌-◌, ◌/◌, ◌%◌, ◌^◌, ◌<◌}
use native.Mathlib.Nat.{pow-suc, lt_of_le_of_lt}
use native.Mathlib.Omega.{arith}
use lib.Dec.{eqb}
use lib.Bits.{bit_and, and_le_l}
use borrow.Author.Tests.{eqb-true, eqb-false, ne_eqb, eq-eqb}
use Rattle.waymap.specs.Bits.{Bits, bit, digit, any, lowest, count}
use Rattle.waymap.specs.Statements.{LowestIn, LowestLeast, RestBit, RestCount}
use Rattle.waymap.proofs.Booleans.{cases}
use Rattle.waymap.proofs.BitLaws.{bit_zero, bit_suc, digit_bit, bit_and_lem}
use Rattle.waymap.proofs.WayLaws.{any_bits, lowest_ext, lowest_found, lowest_first, count_ext}

-- one more on both sides
eqb_suc : (a b : ℕ) → eqb (suc a) (suc b) ≡ eqb a b
eqb_suc a b = cases (eqb a b)
    (λ t. rw t (eq-eqb (suc a) (suc b) (ap suc (eqb-true a b t))))
    (λ t. rw t (ne_eqb (suc a) (suc b) (λ e. eqb-false a b t (omega arith))))

-- A map and the number below it have in common all but its lowest way.
without_lowest : (n x i : ℕ) → 0 < x → x < 2 ^ n → bit (bit_and x (x - 1)) i ≡ (bit x i && not (eqb (lowest n (bit x)) i))
unfolding lowest
without_lowest zero x i pos h = absurd (omega arith)
without_lowest (suc n) x i pos h = bit_and_lem x (x - 1) i ∙ cases (bit x 0) (λ t. odd t i)
    (λ t. even t (λ j k l. without_lowest n (x / 2) j k l) i)
  where
    -- the lowest way is 0: the number below has the others
    odd : bit x 0 ≡ true → (j : ℕ) → (bit x j && bit (x - 1) j) ≡ (bit x j && not (eqb (cond (bit x 0) 0 (suc (lowest n (λ (k : ℕ). bit x (suc k))))) j))
    odd t zero =
        let one : x % 2 ≡ 1 = digit_bit x ∙ ap digit t in
        let none : bit (x - 1) 0 ≡ false = bit_zero (x - 1) ∙ ne_eqb ((x - 1) % 2) 1 (λ e. omega arith) in
        rw (t, none)
    odd t (suc j) =
        let one : x % 2 ≡ 1 = digit_bit x ∙ ap digit t in
        let half : (x - 1) / 2 ≡ x / 2 = omega arith in
        let same : bit (x - 1) (suc j) ≡ bit x (suc j) = bit_suc (x - 1) j ∙ ap (λ (y : ℕ). bit y j) half ∙ sym (bit_suc x j) in
        rw (same, t, ne_eqb 0 (suc j) (λ e. omega arith)) (and_self (bit x (suc j)) ∙ sym (and-true (bit x (suc j))))

    -- it is not: the same of the halves
    even : bit x 0 ≡ false
        → ((j : ℕ) → 0 < x / 2 → x / 2 < 2 ^ n → bit (bit_and (x / 2) (x / 2 - 1)) j ≡ (bit (x / 2) j && not (eqb (lowest n (bit (x / 2))) j)))
        → (j : ℕ) → (bit x j && bit (x - 1) j) ≡ (bit x j && not (eqb (cond (bit x 0) 0 (suc (lowest n (λ (k : ℕ). bit x (suc k))))) j))
    even f halves zero = rw f
    even f halves (suc j) =
        let none : x % 2 ≡ 0 = digit_bit x ∙ ap digit f in
        let half : (x - 1) / 2 ≡ x / 2 - 1 = omega arith in
        let low : lowest n (bit (x / 2)) ≡ lowest n (λ (k : ℕ). bit x (suc k)) = lowest_ext n (λ k l. sym (bit_suc x k)) in
        ap₂ ◌&&◌ (bit_suc x j) (bit_suc (x - 1) j ∙ ap (λ (y : ℕ). bit y j) half)
        ∙ sym (bit_and_lem (x / 2) (x / 2 - 1) j)
        ∙ halves j (omega arith) (omega (arith, pow-suc 2 n))
        ∙ ap₂ (λ (b : Bool) (l : ℕ). b && not (eqb l j)) (sym (bit_suc x j)) low
        ∙ rw (f, eqb_suc (lowest n (λ (k : ℕ). bit x (suc k))) j)

-- Without the lowest, one passes less.
count_lowest : (n : ℕ) (p : Bits) → any n p ≡ true → count n p ≡ suc (count n (λ (i : ℕ). p i && not (eqb (lowest n p) i)))
unfolding any lowest count
count_lowest zero p e = absurd (false≢true e)
count_lowest (suc n) p e = step (p 0) (lowest n rest) (λ f. count_lowest n rest (rw f at e))
  where
    rest : Bits
    rest = λ (i : ℕ). p (suc i)

    step : (b : Bool) (l : ℕ) → (b ≡ false → count n rest ≡ suc (count n (λ (i : ℕ). rest i && not (eqb l i))))
        → digit b + count n rest
        ≡ suc (digit (b && not (eqb (cond b 0 (suc l)) 0)) + count n (λ (i : ℕ). rest i && not (eqb (cond b 0 (suc l)) (suc i))))
    step true l less =
        let same : count n rest ≡ count n (λ (i : ℕ). rest i && not (eqb 0 (suc i))) = count_ext n (λ i h.
        rw (ne_eqb 0 (suc i) (λ k. omega arith)) (sym (and-true (rest i)))) in
        omega (arith, same)
    step false l less =
        let same : count n (λ (i : ℕ). rest i && not (eqb l i)) ≡ count n (λ (i : ℕ). rest i && not (eqb (suc l) (suc i))) = count_ext n (λ i h.
        rw (eqb_suc l i)) in
        omega (arith, less refl, same)

-- The lowest way of a map that is not empty, which the machine's count of trailing zeros gives, and the map without it, which `x & (x - 1)` is.
module _ (n : ℕ) {x way : ℕ} (h : x < 2 ^ n) (some : x ≡ 0 → ⊥) (low : way ≡ lowest n (bit x)) where
  has_way : any n (bit x) ≡ true
  has_way = any_bits n x h ∙ ap not (ne_eqb x 0 some)

  pub lowest_lt : way < n
  lowest_lt = rw low (lowest_found n (bit x) has_way).0

  pub rest_lt : bit_and x (x - 1) < 2 ^ n
  rest_lt = lt_of_le_of_lt (and_le_l x (x - 1)) h

-- it is a way of the map, and no lower one is
pub lowest_in : LowestIn
lowest_in n x way h some low = rw low (lowest_found n (bit x) (has_way n h some low)).1

pub lowest_least : LowestLeast
lowest_least n x way h some low i k = lowest_first n (bit x) i (rw (sym low) k)

-- what is left has the other ways, one less
pub rest_bit : RestBit
rest_bit n x way h some low i = without_lowest n x i (omega (arith, some)) h ∙ ap (λ (l : ℕ). bit x i && not (eqb l i)) (sym low)

pub rest_count : RestCount
rest_count n x way h some low =
    count_lowest n (bit x) (has_way n h some low) ∙ ap suc (count_ext n (λ i k. sym (without_lowest n x i (omega (arith, some)) h)))
