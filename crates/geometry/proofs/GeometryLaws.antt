-- The limits, powers of two, and how many rows there are.
use mathlib.Core.Path.{◌≡◌, sym, ap, ◌∙◌}
use mathlib.Core.Bool.{Bool, true, false, ◌&&◌, ◌||◌, and-false, or-false}
use Prim.Native.Nat.{ℕ, zero, suc, ◌-◌, ◌*◌, ◌/◌, ◌%◌, ◌^◌, ◌≤◌, ◌<◌}
use native.Mathlib.Nat.{suc-ne-zero, mul-le-mul_left, mul-le-mul_right, le_trans, pow-suc, lt_of_le_of_lt}
use native.Mathlib.Omega.{arith}
use lib.Dec.{eqb, leb, lit<}
use lib.Bits.{bit_and, and_step, and_self}
use lib.Pow.{pow_pos}
use borrow.Author.Tests.{eqb-true, eqb-false, eq-eqb, ne_eqb, le-leb, lt-leb, leb-true}
use Rattle.waymap.specs.Bits.{any}
use Rattle.waymap.proofs.Booleans.{cases, and_left, and_right}
use Rattle.waymap.proofs.WayLaws.{any_ext, any_none, any_found}
use Rattle.replacement.specs.Calls.{in_limits}
use Rattle.replacement.proofs.CallLaws as ReplacementLaws
use Rattle.geometry.specs.Geometry.{max_sets, is_power, within, Lengths, sized, sizes_of}
use Rattle.geometry.specs.Inside.{Limited}
use Rattle.geometry.specs.declared.Geometry.{Geometry}

-- ---- powers of two

-- x is twice its half, or one more
eqb_double : (x p : ℕ) → x % 2 ≡ 0 → eqb x (2 ^ suc p) ≡ eqb (x / 2) (2 ^ p)
eqb_double x p even =
    cases (eqb (x / 2) (2 ^ p))
    (λ t. rw t (eq-eqb x (2 ^ suc p) (omega (arith, eqb-true (x / 2) (2 ^ p) t, pow-suc 2 p))))
    (λ t. rw t (ne_eqb x (2 ^ suc p) (λ e. eqb-false (x / 2) (2 ^ p) t (omega (arith, pow-suc 2 p)))))

eqb_odd : (x p : ℕ) → x % 2 ≡ 1 → eqb x (2 ^ suc p) ≡ false
eqb_odd x p odd = ne_eqb x (2 ^ suc p) (λ e. omega (arith, pow-suc 2 p))

-- a number without its lowest one is zero if and only if it is a power of two
pub power_test : (n x : ℕ) → 0 < x → x < 2 ^ n → eqb (bit_and x (x - 1)) 0 ≡ any n (λ (k : ℕ). eqb x (2 ^ k))
unfolding any
power_test zero x pos h = absurd (omega arith)
power_test (suc n) x pos h =
    cases (eqb (x % 2) 0)
    (λ t. even (eqb-true (x % 2) 0 t) (power_test n (x / 2) (omega (arith, eqb-true (x % 2) 0 t)) (omega (arith, pow-suc 2 n))))
    (λ t. odd (omega (arith, eqb-false (x % 2) 0 t)))
  where
    even : x % 2 ≡ 0 → eqb (bit_and (x / 2) (x / 2 - 1)) 0 ≡ any n (λ (k : ℕ). eqb (x / 2) (2 ^ k))
        → eqb (bit_and x (x - 1)) 0 ≡ (eqb x 1 || any n (λ (k : ℕ). eqb x (2 ^ suc k)))
    even e ih =
        let half : (x - 1) / 2 ≡ x / 2 - 1 = omega arith in
        let twice : bit_and x (x - 1) ≡ bit_and (x / 2) (x / 2 - 1) * 2 = omega (arith, and_step x (x - 1), ap (λ (y : ℕ). bit_and (x / 2) y) half) in
        rw (ne_eqb x 1 (λ q. omega arith))
        (cases (eqb (bit_and (x / 2) (x / 2 - 1)) 0)
        (λ t. eq-eqb (bit_and x (x - 1)) 0 (omega (arith, eqb-true (bit_and (x / 2) (x / 2 - 1)) 0 t)) ∙ sym t)
        (λ t. ne_eqb (bit_and x (x - 1)) 0 (λ q. eqb-false (bit_and (x / 2) (x / 2 - 1)) 0 t (omega arith)) ∙ sym t)
        ∙ ih ∙ any_ext n (λ k l. sym (eqb_double x k e)))

    odd : x % 2 ≡ 1 → eqb (bit_and x (x - 1)) 0 ≡ (eqb x 1 || any n (λ (k : ℕ). eqb x (2 ^ suc k)))
    odd e =
        let half : (x - 1) / 2 ≡ x / 2 = omega arith in
        let same : bit_and x (x - 1) ≡ x / 2 * 2 = omega (arith, and_step x (x - 1), ap (λ (y : ℕ). bit_and (x / 2) y) half, and_self (x / 2)) in
        rw (any_none n {p = λ (k : ℕ). eqb x (2 ^ suc k)} (λ k l. eqb_odd x k e), or-false (eqb x 1))
        (cases (eqb x 1)
        (λ t. rw t (eq-eqb (bit_and x (x - 1)) 0 (omega (arith, eqb-true x 1 t))))
        (λ t. rw t (ne_eqb (bit_and x (x - 1)) 0 (λ q. eqb-false x 1 t (omega arith)))))

-- ---- the limits

pub limits_none : (g : Geometry) → g.sets ≡ 0 → within g ≡ false
unfolding within is_power
limits_none g e = rw (any_none 64 {p = λ (k : ℕ). eqb g.sets (2 ^ k)} (λ k l. ne_eqb g.sets (2 ^ k) (λ q. omega (arith, pow_pos k))))

pub limits_many : (g : Geometry) → max_sets < g.sets → within g ≡ false
unfolding within
limits_many g h = rw (lt-leb g.sets max_sets h, and-false (is_power g.sets))

-- a number of sets below 2 ^ 64, as the code tests it
module _ (g : Geometry) (some : g.sets ≡ 0 → ⊥) (most : g.sets ≤ max_sets) where
  power_is : is_power g.sets ≡ eqb (bit_and g.sets (g.sets - 1)) 0
  unfolding is_power
  power_is = sym (power_test 64 g.sets (omega (arith, some)) (lt_of_le_of_lt most (lit< tt)))

  pub limits_odd : (bit_and g.sets (g.sets - 1) ≡ 0 → ⊥) → within g ≡ false
  unfolding within
  limits_odd n = rw (power_is, ne_eqb (bit_and g.sets (g.sets - 1)) 0 n)

  pub limits_rule : {r : Bool} → bit_and g.sets (g.sets - 1) ≡ 0 → r ≡ in_limits g.ways g.rule → r ≡ within g
  unfolding within
  limits_rule e q = rw (power_is, e, le-leb g.sets max_sets most) q

-- what is within the limits
pub limited : (g : Geometry) → within g ≡ true → Limited g
unfolding within is_power
limited g e =
    let sets = and_left (is_power g.sets && leb g.sets max_sets) (in_limits g.ways g.rule) e in
    let rule = and_right (is_power g.sets && leb g.sets max_sets) (in_limits g.ways g.rule) e in
    let size = ReplacementLaws.sized g.ways g.rule rule in
    record {
      limits = rule;
      some_set = positive (any_found 64 (λ (k : ℕ). eqb g.sets (2 ^ k)) (and_left (is_power g.sets) (leb g.sets max_sets) sets));
      most_sets = leb-true g.sets max_sets (and_right (is_power g.sets) (leb g.sets max_sets) sets);
      some_way = omega (arith, size.least);
      most_ways = size.most;
    }
  where
    positive : (k : ℕ) × (k < 64) × (eqb g.sets (2 ^ k) ≡ true) → 0 < g.sets
    positive r = omega (arith, eqb-true g.sets (2 ^ r.0) r.2, pow_pos r.0)

-- ---- the rows of all sets

-- as many tags as a table for n sets has
pub rows_fit : {n : ℕ} (g : Geometry) → Limited g → g.sets ≤ n → g.sets * g.ways ≤ n * 16
rows_fit g l h = le_trans (mul-le-mul_left g.sets l.most_ways) (mul-le-mul_right 16 h)

pub rows_bound : (g : Geometry) → Limited g → g.sets * g.ways ≤ max_sets * 16
rows_bound g l = rows_fit g l l.most_sets

-- ---- numbers 1 and 2

-- numbers 1 and 2 let pass what is within the limits and of the right lengths
pub sizes_passed : (g : Geometry) (n : Lengths) {m : ℕ} → m ≡ sizes_of g n → m ≡ 0 → (within g ≡ true) × (sized g n ≡ true)
unfolding sizes_of
sizes_passed g n e z =
    let none : sizes_of g n ≡ 0 = sym e ∙ z in
    cases (within g)
    (λ w. cases (sized g n)
    (λ l. (w, l))
    (λ l. absurd (suc-ne-zero 1 (rw (w, l) at none))))
    (λ w. absurd (suc-ne-zero 0 (rw w at none)))
