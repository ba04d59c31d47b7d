-- A number of n bits is its bits: from bits to the number and back, and two words with equal bits are equal. For every n.
use mathlib.Core.Path.{◌≡◌, refl, sym, ap, ap₂, ◌∙◌}
use mathlib.Core.Bool.{Bool, false, ◌&&◌}
use Prim.Native.Nat.{ℕ, zero, suc, ◌+◌, ◌*◌, ◌/◌, ◌%◌, ◌^◌, ◌≤◌, ◌<◌}
use native.Mathlib.Nat.{pow-suc, lt_of_lt_of_le}
use native.Mathlib.Omega.{arith}
use lib.Dec.{eqb, ltb, leb-zero, leb-suc-zero, leb-suc-suc}
use lib.Pow.{pow_mono}
use borrow.Author.Tests.{lt-ltb, le-ltb, ltb-false}
use Rattle.waymap.specs.Bits.{Bits, bit, digit, word}
use Rattle.waymap.specs.Statements.{BitsEqual}
use Rattle.waymap.proofs.Booleans.{cases}
use Rattle.waymap.proofs.BitLaws.{digit_lt, digit_odd, digit_bit, bit_zero, bit_suc, bit_none}

-- ---- from bits to the number

pub word_lt : (n : ℕ) (f : Bits) → word n f < 2 ^ n
unfolding word
word_lt zero f = omega arith
word_lt (suc n) f = omega (arith, pow-suc 2 n, digit_lt (f 0), word_lt n (λ (i : ℕ). f (suc i)))

pub word_ext : (n : ℕ) {f g : Bits} → ((i : ℕ) → i < n → f i ≡ g i) → word n f ≡ word n g
unfolding word
word_ext zero e = refl
word_ext (suc n) e =
    ap₂ (λ (b : Bool) (r : ℕ). digit b + 2 * r) (e 0 (omega arith)) (word_ext n (λ i h. e (suc i) (omega arith)))

pub bit_word : (n : ℕ) (f : Bits) (i : ℕ) → bit (word n f) i ≡ (ltb i n && f i)
unfolding word
bit_word zero f i = bit_none i ∙ rw leb-suc-zero
bit_word (suc n) f zero =
    let odd : (digit (f 0) + 2 * word n (λ (j : ℕ). f (suc j))) % 2 ≡ digit (f 0) = omega (arith, digit_lt (f 0)) in
    bit_zero (digit (f 0) + 2 * word n (λ (j : ℕ). f (suc j))) ∙ ap (λ (x : ℕ). eqb x 1) odd ∙ digit_odd (f 0)
    ∙ ap (λ (t : Bool). t && f 0) (sym (leb-suc-suc 0 n ∙ leb-zero n))
bit_word (suc n) f (suc i) =
    let half : (digit (f 0) + 2 * word n (λ (j : ℕ). f (suc j))) / 2 ≡ word n (λ (j : ℕ). f (suc j)) = omega (arith, digit_lt (f 0)) in
    bit_suc (digit (f 0) + 2 * word n (λ (j : ℕ). f (suc j))) i ∙ ap (λ (x : ℕ). bit x i) half ∙ bit_word n (λ (j : ℕ). f (suc j)) i
    ∙ ap (λ (t : Bool). t && f (suc i)) (sym (leb-suc-suc (suc i) n))

-- below n the bits are the given ones
pub bit_word_in : (n : ℕ) (f : Bits) (i : ℕ) → i < n → bit (word n f) i ≡ f i
bit_word_in n f i h = bit_word n f i ∙ rw (lt-ltb i n h)

-- ---- from the number to its bits

pub word_bit : (n x : ℕ) → x < 2 ^ n → word n (bit x) ≡ x
unfolding word
word_bit zero x h = omega arith
word_bit (suc n) x h =
    let rest : word n (λ (i : ℕ). bit x (suc i)) ≡ x / 2 =
    word_ext n (λ i k. bit_suc x i) ∙ word_bit n (x / 2) (omega (arith, pow-suc 2 n)) in
    omega (arith, digit_bit x)

-- a word of n bits whose bits are the given ones is the number with those bits
pub from_bits : (n : ℕ) {x : ℕ} {f : Bits} → x < 2 ^ n → ((i : ℕ) → i < n → bit x i ≡ f i) → x ≡ word n f
from_bits n {x} h e = sym (word_bit n x h) ∙ word_ext n e

-- two words of n bits with equal bits are equal
pub bits_equal : BitsEqual
bits_equal n x y hx hy e = from_bits n hx e ∙ word_bit n y hy

-- ---- no bit at n or above

pub bit_high : (n x i : ℕ) → x < 2 ^ n → n ≤ i → bit x i ≡ false
bit_high n x i h k = ap (λ (y : ℕ). bit y i) (sym (word_bit n x h)) ∙ bit_word n (bit x) i ∙ rw (le-ltb i n k)

pub high_none : (k n x : ℕ) → x < 2 ^ k → ((i : ℕ) → n ≤ i → bit x i ≡ false) → x < 2 ^ n
high_none k n x h e = rw (bits_equal (k + n) _ _ below_x below_word same) (word_lt n (bit x))
  where
    below_x : x < 2 ^ (k + n)
    below_x = lt_of_lt_of_le h (pow_mono {i = k} {j = k + n} (omega arith))

    below_word : word n (bit x) < 2 ^ (k + n)
    below_word = lt_of_lt_of_le (word_lt n (bit x)) (pow_mono {i = n} {j = k + n} (omega arith))

    same : (i : ℕ) → i < k + n → bit x i ≡ bit (word n (bit x)) i
    same i _ =
        rw (bit_word n (bit x) i)
        (cases (ltb i n) (λ t. rw t) (λ t. rw t (e i (ltb-false i n t))))
