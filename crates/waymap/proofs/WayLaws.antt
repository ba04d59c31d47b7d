-- Whether some way passes a test, and the lowest that does; of a map, the test is its bit.
use mathlib.Core.Path.{◌≡◌, refl, sym, ap, ap₂, ◌∙◌}
use mathlib.Core.Bool.{Bool, true, false, cond, not, ◌&&◌, ◌||◌, and-false, or-false, or_assoc, false≢true}
use Prim.Native.Nat.{ℕ, zero, suc, ◌+◌, ◌/◌, ◌^◌, ◌≤◌, ◌<◌, zero-le, suc-le-suc}
use native.Mathlib.Nat.{not-suc-le-zero, le_of_suc-le-suc, lt_of_lt_of_le, le_of_eq, zero-add, pow-suc}
use native.Mathlib.Omega.{arith}
use lib.Dec.{eqb, ltb}
use lib.Count.{count_trailing_zeros, under, ones, ones_step, ones-le}
use lib.Pow.{pow_pos}
use borrow.Author.Tests.{eqb-true, eqb-false, eq-eqb, ltb-true, ltb-false, lt-ltb, le-ltb}
use Rattle.waymap.specs.Bits.{Bits, bit, digit, any, lowest, count}
use Rattle.waymap.specs.Statements.{TrailingLowest}
use Rattle.waymap.proofs.Booleans.{cases, or_interchange}
use Rattle.waymap.proofs.BitLaws.{digit_lt, digit_bit, bit_suc, bit_none}
use Rattle.waymap.proofs.WordLaws.{bits_equal}

-- ---- some way

pub any_at : (n : ℕ) (p : Bits) (i : ℕ) → i < n → p i ≡ true → any n p ≡ true
unfolding any
any_at zero p i h e = absurd (not-suc-le-zero h)
any_at (suc n) p zero h e = rw e
any_at (suc n) p (suc i) h e =
    let rest : any n (λ (j : ℕ). p (suc j)) ≡ true = any_at n (λ (j : ℕ). p (suc j)) i (le_of_suc-le-suc h) e in
    cases (p 0) (λ t. rw t) (λ t. rw (t, rest))

-- a way that passes, where there is one
pub any_found : (n : ℕ) (p : Bits) → any n p ≡ true → (i : ℕ) × (i < n) × (p i ≡ true)
unfolding any
any_found zero p e = absurd (false≢true e)
any_found (suc n) p e =
    cases (p 0)
    (λ t. (0, suc-le-suc zero-le, t))
    (λ t. let r : (i : ℕ) × (i < n) × (p (suc i) ≡ true) = any_found n (λ (j : ℕ). p (suc j)) (rw t at e) in
    (suc r.0, suc-le-suc r.1, r.2))

pub any_ext : (n : ℕ) {p q : Bits} → ((i : ℕ) → i < n → p i ≡ q i) → any n p ≡ any n q
unfolding any
any_ext zero e = refl
any_ext (suc n) e = ap₂ ◌||◌ (e 0 (omega arith)) (any_ext n (λ i h. e (suc i) (omega arith)))

-- none, where no way passes
pub any_none : (n : ℕ) {p : Bits} → ((i : ℕ) → i < n → p i ≡ false) → any n p ≡ false
unfolding any
any_none zero e = refl
any_none (suc n) e = rw (e 0 (omega arith)) (any_none n (λ i h. e (suc i) (omega arith)))

-- and no way passes where there is none
pub none_at : (n : ℕ) (p : Bits) (i : ℕ) → any n p ≡ false → i < n → p i ≡ false
none_at n p i e h = cases (p i) (λ t. absurd (false≢true (sym e ∙ any_at n p i h t))) (λ t. t)

pub any_or : (n : ℕ) (p q : Bits) → any n (λ (i : ℕ). p i || q i) ≡ (any n p || any n q)
unfolding any
any_or zero p q = refl
any_or (suc n) p q =
    ap (λ (r : Bool). p 0 || q 0 || r) (any_or n (λ (i : ℕ). p (suc i)) (λ (i : ℕ). q (suc i)))
    ∙ or_interchange (p 0) (q 0) (any n (λ (i : ℕ). p (suc i))) (any n (λ (i : ℕ). q (suc i)))

-- the last one apart
pub any_last : (n : ℕ) (p : Bits) → any (suc n) p ≡ (any n p || p n)
unfolding any
any_last zero p = or-false (p 0)
any_last (suc n) p = ap (λ (r : Bool). p 0 || r) (any_last n (λ (i : ℕ). p (suc i))) ∙ sym (or_assoc (p 0) (any n (λ (i : ℕ). p (suc i))) (p (suc n)))

-- the test of one way
pub any_one : (n : ℕ) (p : Bits) (v : ℕ) → v < n → any n (λ (i : ℕ). p i && eqb v i) ≡ p v
any_one n p v h =
    cases (p v)
    (λ t. any_at n (λ (i : ℕ). p i && eqb v i) v h (rw (t, eq-eqb v v refl)) ∙ sym t)
    (λ t. any_none n (λ i k. cases (eqb v i) (λ e. rw (← eqb-true v i e, t)) (λ e. rw (e, and-false (p i)))) ∙ sym t)

-- no way passes from k on
pub any_wider : (k n : ℕ) (p : Bits) → k ≤ n → ((i : ℕ) → k ≤ i → p i ≡ false) → any n p ≡ any k p
any_wider k n p h none =
    cases (any n p)
    (λ t. let r : (i : ℕ) × (i < n) × (p i ≡ true) = any_found n p t in
    t ∙ sym (any_at k p r.0 (inside r.0 r.2) r.2))
    (λ t. t ∙ sym (any_none k (λ i l. none_at n p i t (lt_of_lt_of_le l h))))
  where
    inside : (i : ℕ) → p i ≡ true → i < k
    inside i e = cases (ltb i k) (λ t. ltb-true i k t) (λ t. absurd (false≢true (sym (none i (ltb-false i k t)) ∙ e)))

-- ---- the lowest way

pub lowest_ext : (n : ℕ) {p q : Bits} → ((i : ℕ) → i < n → p i ≡ q i) → lowest n p ≡ lowest n q
unfolding lowest
lowest_ext zero e = refl
lowest_ext (suc n) e =
    ap₂ (λ (b : Bool) (r : ℕ). cond b 0 (suc r)) (e 0 (omega arith)) (lowest_ext n (λ i h. e (suc i) (omega arith)))

-- where some way passes, the lowest is one of them
pub lowest_found : (n : ℕ) (p : Bits) → any n p ≡ true → (lowest n p < n) × (p (lowest n p) ≡ true)
unfolding any lowest
lowest_found zero p e = absurd (false≢true e)
lowest_found (suc n) p e =
    cases (p 0)
    (λ t. rw t (suc-le-suc zero-le, t))
    (λ t. let r : (lowest n (λ (j : ℕ). p (suc j)) < n) × (p (suc (lowest n (λ (j : ℕ). p (suc j)))) ≡ true) = lowest_found n (λ (j : ℕ). p (suc j))
    (rw t at e) in
    rw t (suc-le-suc r.0, r.1))

-- no way below it passes
pub lowest_first : (n : ℕ) (p : Bits) (i : ℕ) → i < lowest n p → p i ≡ false
unfolding lowest
lowest_first zero p i h = absurd (not-suc-le-zero h)
lowest_first (suc n) p zero h = cases (p 0) (λ t. absurd (not-suc-le-zero (rw t at h))) (λ t. t)
lowest_first (suc n) p (suc i) h =
    cases (p 0)
    (λ t. absurd (not-suc-le-zero (rw t at h)))
    (λ t. lowest_first n (λ (j : ℕ). p (suc j)) i (le_of_suc-le-suc (rw t at h)))

-- the first way that passes is the lowest
pub lowest_is : (n : ℕ) (p : Bits) (i : ℕ) → i < n → ((k : ℕ) → k < i → p k ≡ false) → p i ≡ true → lowest n p ≡ i
unfolding lowest
lowest_is zero p i h none e = absurd (not-suc-le-zero h)
lowest_is (suc n) p zero h none e = rw e
lowest_is (suc n) p (suc i) h none e =
    rw (none 0 (suc-le-suc zero-le)) (ap suc (lowest_is n (λ (j : ℕ). p (suc j)) i (le_of_suc-le-suc h) (λ k l. none (suc k) (suc-le-suc l)) e))

pub lowest_none : (n : ℕ) (p : Bits) → ((k : ℕ) → k < n → p k ≡ false) → lowest n p ≡ n
unfolding lowest
lowest_none zero p none = refl
lowest_none (suc n) p none =
    rw (none 0 (suc-le-suc zero-le)) (ap suc (lowest_none n (λ (j : ℕ). p (suc j)) (λ k l. none (suc k) (suc-le-suc l))))

-- what a second test says above the lowest does not matter to it
pub lowest_same : (n : ℕ) (p q : Bits) → ((i : ℕ) → i < n → i ≤ lowest n p → q i ≡ p i) → lowest n q ≡ lowest n p
lowest_same n p q e =
    cases (any n p)
    (λ t. let f : (lowest n p < n) × (p (lowest n p) ≡ true) = lowest_found n p t in
    lowest_is n q (lowest n p) f.0 (λ k l. e k (omega (arith, f.0)) (omega arith) ∙ lowest_first n p k l)
    (e (lowest n p) f.0 (omega arith) ∙ f.1))
    (λ t. let end : lowest n p ≡ n = lowest_none n p (λ k l. none_at n p k t l) in
    lowest_ext n (λ i l. e i l (omega arith)))

-- some way passes if and only if there is a lowest
pub any_lowest : (n : ℕ) (p : Bits) → any n p ≡ ltb (lowest n p) n
any_lowest n p =
    cases (any n p)
    (λ t. t ∙ sym (lt-ltb (lowest n p) n (lowest_found n p t).0))
    (λ t. t ∙ sym (le-ltb (lowest n p) n (le_of_eq (sym (lowest_none n p (λ k l. none_at n p k t l))))))

-- A search from below: no way before `way` passes the test.
pub record Passed (p : Bits) (n way : ℕ) : Type 0 where
  pub within : way ≤ n
  pub none : (k : ℕ) → k < way → p k ≡ false

pub passed_none : (p : Bits) (n : ℕ) → Passed p n 0
passed_none p n = record { within = omega arith; none = λ k h. absurd (omega arith) }

pub passed_more : {p : Bits} {n way : ℕ} → Passed p n way → way < n → p way ≡ false → Passed p n (way + 1)
passed_more {p} {n} {way} l h e = record {
  within = omega arith;
  none = λ k m. cases (eqb k way) (λ t. rw (eqb-true k way t) e) (λ t. l.none k (omega (arith, eqb-false k way t)));
}

-- what it answers where it finds one, and where it finds none
pub passed_found : {p : Bits} {n way : ℕ} → Passed p n way → way < n → p way ≡ true → any n p ≡ true
passed_found {p} {n} {way} l h e = any_at n p way h e

pub passed_all : {p : Bits} {n way : ℕ} → Passed p n way → n ≤ way → any n p ≡ false
passed_all {p} {n} {way} l h = any_none n (λ i k. l.none i (lt_of_lt_of_le k h))

-- ---- how many ways

pub count_ext : (n : ℕ) {p q : Bits} → ((i : ℕ) → i < n → p i ≡ q i) → count n p ≡ count n q
unfolding count
count_ext zero e = refl
count_ext (suc n) e = ap₂ (λ (b : Bool) (r : ℕ). digit b + r) (e 0 (omega arith)) (count_ext n (λ i h. e (suc i) (omega arith)))

pub count_le : (n : ℕ) (p : Bits) → count n p ≤ n
unfolding count
count_le zero p = zero-le
count_le (suc n) p = omega (arith, digit_lt (p 0), count_le n (λ (i : ℕ). p (suc i)))

pub count_none : (n : ℕ) {p : Bits} → ((i : ℕ) → i < n → p i ≡ false) → count n p ≡ 0
unfolding count
count_none zero e = refl
count_none (suc n) {p} e = rw (e 0 (omega arith)) (omega (arith, count_none n {p = λ i. p (suc i)} (λ i h. e (suc i) (omega arith))))

-- no way passes from k on
pub count_wider : (k n : ℕ) (p : Bits) → k ≤ n → ((i : ℕ) → k ≤ i → p i ≡ false) → count n p ≡ count k p
unfolding count
count_wider zero zero p h none = refl
count_wider zero (suc n) p h none =
    rw (none 0 zero-le) (zero-add (count n (λ (i : ℕ). p (suc i))) ∙ count_wider zero n (λ (i : ℕ). p (suc i)) zero-le (λ i l. none (suc i) zero-le))
count_wider (suc k) zero p h none = absurd (not-suc-le-zero h)
count_wider (suc k) (suc n) p h none =
    ap (λ (r : ℕ). digit (p 0) + r) (count_wider k n (λ (i : ℕ). p (suc i)) (le_of_suc-le-suc h) (λ i l. none (suc i) (suc-le-suc l)))

-- tests that differ at one place alone
pub count_one : (n : ℕ) (p q : Bits) (w : ℕ) → w < n → ((i : ℕ) → i < n → (w ≡ i → ⊥) → p i ≡ q i) → count n p + digit (q w) ≡ count n q + digit (p w)
unfolding count
count_one zero p q w h e = absurd (omega arith)
count_one (suc n) p q zero h e =
    let rest : count n (λ (i : ℕ). p (suc i)) ≡ count n (λ (i : ℕ). q (suc i)) = count_ext n (λ i k. e (suc i) (omega arith) (λ z. omega arith)) in
    omega arith
count_one (suc n) p q (suc w) h e =
    let first : digit (p 0) ≡ digit (q 0) = ap digit (e 0 (omega arith) (λ z. omega arith)) in
    omega (
      arith,
      count_one n (λ (i : ℕ). p (suc i)) (λ (i : ℕ). q (suc i)) w (omega arith) (λ i k z. e (suc i) (omega arith) (λ y. z (omega arith))),
    )

-- a test in two parts
pub count_sum : (n : ℕ) (p q r : Bits) → ((i : ℕ) → i < n → digit (p i) + digit (q i) ≡ digit (r i)) → count n p + count n q ≡ count n r
unfolding count
count_sum zero p q r e = refl
count_sum (suc n) p q r e =
    omega (
      arith,
      e 0 (omega arith),
      count_sum n (λ (i : ℕ). p (suc i)) (λ (i : ℕ). q (suc i)) (λ (i : ℕ). r (suc i)) (λ i h. e (suc i) (omega arith)),
    )

-- a test that is passed wherever another is
pub count_mono : (n : ℕ) (p q : Bits) → ((i : ℕ) → i < n → p i ≡ true → q i ≡ true) → count n p ≤ count n q
unfolding count
count_mono zero p q e = omega arith
count_mono (suc n) p q e =
    let first : digit (p 0) ≤ digit (q 0) = digit_mono (p 0) (q 0) (e 0 (omega arith)) in
    omega (arith, count_mono n (λ (i : ℕ). p (suc i)) (λ (i : ℕ). q (suc i)) (λ i h. e (suc i) (omega arith)))
  where
    digit_mono : (a b : Bool) → (a ≡ true → b ≡ true) → digit a ≤ digit b
    digit_mono true b f = rw (f refl) (omega arith)
    digit_mono false b f = omega arith

-- ---- of a map

-- a map is empty if and only if it is zero
pub any_bits : (n x : ℕ) → x < 2 ^ n → any n (bit x) ≡ not (eqb x 0)
any_bits n x h =
    cases (eqb x 0)
    (λ t. rw (t, eqb-true x 0 t) (any_none n (λ i k. bit_none i)))
    (λ t. cases (any n (bit x))
    (λ a. rw (a, t))
    (λ a. absurd (eqb-false x 0 t (bits_equal n _ _ h (pow_pos n) (λ i k. none_at n (bit x) i a k ∙ sym (bit_none i))))))

-- the machine's count of trailing zeros is the lowest way, and the width where the map is empty
pub trailing_lowest : TrailingLowest
unfolding count_trailing_zeros lowest
trailing_lowest zero x = refl
trailing_lowest (suc n) x =
    ap₂ under (digit_bit x) (trailing_lowest n (x / 2) ∙ lowest_ext n (λ i h. sym (bit_suc x i)))
    ∙ pick (bit x 0) (lowest n (λ (i : ℕ). bit x (suc i)))
  where
    pick : (b : Bool) (r : ℕ) → under (digit b) r ≡ cond b 0 (suc r)
    pick true r = refl
    pick false r = refl

-- the machine's count of ones is the number of ways
pub ones_count : (n x : ℕ) → x < 2 ^ n → ones x ≡ count n (bit x)
unfolding count
ones_count zero x h = let e : x ≡ 0 = omega arith in rw e (omega (arith, ones-le 0 0 (omega arith)))
ones_count (suc n) x h =
    ones_step x
    ∙ ap₂ ◌+◌ (digit_bit x) (ones_count n (x / 2) (omega (arith, pow-suc 2 n)) ∙ count_ext n (λ i k. sym (bit_suc x i)))
