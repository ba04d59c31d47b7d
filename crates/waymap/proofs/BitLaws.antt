-- The bits of a number, and of what `&`, `|`, `^`, `!`, shifts and remainders make of it, for every width.
use mathlib.Core.Path.{◌≡◌, refl, sym, ap, ap₂, ◌∙◌}
use mathlib.Core.Bool.{Bool, true, false, not, ◌&&◌, ◌||◌, xor, and-true}
use Prim.Native.Nat.{ℕ, zero, suc, ◌+◌, ◌-◌, ◌*◌, ◌/◌, ◌%◌, ◌^◌, ◌<◌, min, max}
use native.Mathlib.Nat.{div-one, zero-div, zero-sub, pow-suc, sub-zero, suc-sub-suc, mul-one}
use native.Mathlib.Numerals.{one-add}
use native.Mathlib.Omega.{arith}
use lib.Dec.{eqb, ltb, leb-zero, leb-suc-zero, leb-suc-suc, eqb-zero-suc, eqb-suc-zero, eqb-suc-suc}
use lib.Pow.{shr-shr, pow_pos}
use lib.Bits.{bit_and, bit_or, bit_xor, differ, and_step, or_step, xor_step, and_mask, shifted_even, shifted_half}
use Rattle.waymap.specs.Bits.{bit, digit}
use Rattle.waymap.specs.Statements.{BitAnd, BitOr, BitXor, BitNot, BitShr, BitShl, BitMod}

-- ---- a number's lowest bit, and the others as the bits of its half

pub digit_lt : (b : Bool) → digit b < 2
digit_lt true = omega arith
digit_lt false = omega arith

pub digit_odd : (b : Bool) → eqb (digit b) 1 ≡ b
digit_odd true = refl
digit_odd false = refl

pub bit_zero : (n : ℕ) → bit n 0 ≡ eqb (n % 2) 1
unfolding bit
bit_zero n = rw div-one

pub bit_suc : (n i : ℕ) → bit n (suc i) ≡ bit (n / 2) i
unfolding bit
bit_suc n i = ap (λ (x : ℕ). eqb (x % 2) 1) (sym (shr-shr n 1 i ∙ ap (λ (k : ℕ). n / 2 ^ k) (one-add i)))

remainder : (r : ℕ) → r < 2 → r ≡ digit (eqb r 1)
remainder zero h = refl
remainder (suc zero) h = refl
remainder (suc (suc r)) h = absurd (omega arith)

pub digit_bit : (n : ℕ) → n % 2 ≡ digit (bit n 0)
digit_bit n = remainder (n % 2) (omega arith) ∙ ap digit (sym (bit_zero n))

pub digit_at : (n i : ℕ) → n / 2 ^ i % 2 ≡ digit (bit n i)
unfolding bit
digit_at n i = remainder (n / 2 ^ i % 2) (omega arith)

pub bit_none : (i : ℕ) → bit 0 i ≡ false
unfolding bit
bit_none i = rw zero-div

-- ---- the digitwise operations, one law over the operation

module _ (op f : ℕ → ℕ → ℕ) (g : Bool → Bool → Bool) (step : (a b : ℕ) → op a b ≡ op (a / 2) (b / 2) * 2 + f (a % 2) (b % 2))
    (digits : (p q : Bool) → f (digit p) (digit q) ≡ digit (g p q)) where
  low : (a b : ℕ) → op a b ≡ op (a / 2) (b / 2) * 2 + digit (g (bit a 0) (bit b 0))
  low a b = step a b ∙ ap (λ (d : ℕ). op (a / 2) (b / 2) * 2 + d) (ap₂ f (digit_bit a) (digit_bit b) ∙ digits (bit a 0) (bit b 0))

  bit_op : (a b i : ℕ) → bit (op a b) i ≡ g (bit a i) (bit b i)
  bit_op a b zero =
      let d : ℕ = digit (g (bit a 0) (bit b 0)) in
      let odd : op a b % 2 ≡ d = omega (arith, low a b, digit_lt (g (bit a 0) (bit b 0))) in
      bit_zero (op a b) ∙ ap (λ (x : ℕ). eqb x 1) odd ∙ digit_odd (g (bit a 0) (bit b 0))
  bit_op a b (suc i) =
      let half : op a b / 2 ≡ op (a / 2) (b / 2) = omega (arith, low a b, digit_lt (g (bit a 0) (bit b 0))) in
      bit_suc (op a b) i ∙ ap (λ (x : ℕ). bit x i) half ∙ bit_op (a / 2) (b / 2) i ∙ ap₂ g (sym (bit_suc a i)) (sym (bit_suc b i))

and_digits : (p q : Bool) → min (digit p) (digit q) ≡ digit (p && q)
and_digits true true = refl
and_digits true false = refl
and_digits false true = refl
and_digits false false = refl

or_digits : (p q : Bool) → max (digit p) (digit q) ≡ digit (p || q)
or_digits true true = refl
or_digits true false = refl
or_digits false true = refl
or_digits false false = refl

xor_digits : (p q : Bool) → differ (digit p) (digit q) ≡ digit (xor p q)
unfolding xor
xor_digits true true = refl
xor_digits true false = refl
xor_digits false true = refl
xor_digits false false = refl

pub bit_and_lem : BitAnd
bit_and_lem = bit_op bit_and min ◌&&◌ and_step and_digits

pub bit_or_lem : BitOr
bit_or_lem = bit_op bit_or max ◌||◌ or_step or_digits

pub bit_xor_lem : BitXor
bit_xor_lem = bit_op bit_xor differ xor xor_step xor_digits

-- ---- complement, in n bits

odd_not : (r : ℕ) → r < 2 → eqb (1 - r) 1 ≡ not (eqb r 1)
odd_not zero h = refl
odd_not (suc zero) h = refl
odd_not (suc (suc r)) h = absurd (omega arith)

pub bit_not : BitNot
bit_not zero x i h = rw (zero-sub, bit_none, leb-suc-zero)
bit_not (suc n) x zero h =
    let e : (2 ^ suc n - 1 - x) % 2 ≡ 1 - x % 2 = omega (arith, pow-suc 2 n, pow_pos n) in
    bit_zero (2 ^ suc n - 1 - x) ∙ ap (λ (y : ℕ). eqb y 1) e ∙ odd_not (x % 2) (omega arith) ∙ ap not (sym (bit_zero x))
    ∙ ap (λ (t : Bool). t && not (bit x 0)) (sym (leb-suc-suc 0 n ∙ leb-zero n))
bit_not (suc n) x (suc i) h =
    let e : (2 ^ suc n - 1 - x) / 2 ≡ 2 ^ n - 1 - x / 2 = omega (arith, pow-suc 2 n, pow_pos n) in
    bit_suc (2 ^ suc n - 1 - x) i ∙ ap (λ (y : ℕ). bit y i) e ∙ bit_not n (x / 2) i (omega (arith, pow-suc 2 n))
    ∙ ap₂ ◌&&◌ (sym (leb-suc-suc (suc i) n)) (ap not (sym (bit_suc x i)))

-- ---- powers of two, and the number of n ones

pub bit_ones : (n i : ℕ) → bit (2 ^ n - 1) i ≡ ltb i n
bit_ones n i =
    ap (λ (x : ℕ). bit x i) (sym (sub-zero (2 ^ n - 1))) ∙ bit_not n 0 i (pow_pos n)
    ∙ ap (λ (t : Bool). ltb i n && not t) (bit_none i) ∙ and-true (ltb i n)

pub bit_pow : (w i : ℕ) → bit (2 ^ w) i ≡ eqb w i
bit_pow zero zero = bit_zero 1
bit_pow zero (suc i) = bit_suc 1 i ∙ bit_none i ∙ sym (eqb-zero-suc i)
bit_pow (suc w) zero =
    let e : 2 ^ suc w % 2 ≡ 0 = omega (arith, pow-suc 2 w) in
    bit_zero (2 ^ suc w) ∙ ap (λ (x : ℕ). eqb x 1) e ∙ sym (eqb-suc-zero w)
bit_pow (suc w) (suc i) =
    let e : 2 ^ suc w / 2 ≡ 2 ^ w = omega (arith, pow-suc 2 w) in
    bit_suc (2 ^ suc w) i ∙ ap (λ (x : ℕ). bit x i) e ∙ bit_pow w i ∙ sym (eqb-suc-suc w i)

-- ---- shifts and remainders

pub bit_shr : BitShr
unfolding bit
bit_shr a k i = ap (λ (x : ℕ). eqb (x % 2) 1) (shr-shr a k i)

pub bit_shl : BitShl
bit_shl a zero i = rw (mul-one, leb-zero, sub-zero)
bit_shl a (suc k) zero = bit_zero (a * 2 ^ suc k) ∙ rw (shifted_even, leb-suc-zero)
bit_shl a (suc k) (suc i) =
    bit_suc (a * 2 ^ suc k) i ∙ ap (λ (x : ℕ). bit x i) (shifted_half a k) ∙ bit_shl a k i
    ∙ ap₂ (λ (t : Bool) (j : ℕ). t && bit a j) (sym (leb-suc-suc k i)) (sym (suc-sub-suc i k))

pub bit_mod : BitMod
bit_mod a k i =
    ap (λ (x : ℕ). bit x i) (sym (and_mask a k)) ∙ bit_and_lem a (2 ^ k - 1) i ∙ ap (λ (t : Bool). bit a i && t) (bit_ones k i)
