-- A number's bytes, and numbers put into bytes.
use mathlib.Core.Path.{◌≡◌, refl, ap, sym, ◌∙◌}
use mathlib.Core.List.{List, [], ◌∷◌, ◌++◌}
use Prim.Native.Nat.{ℕ, zero, suc, ◌+◌, ◌*◌, ◌/◌, ◌%◌, ◌^◌, ◌≤◌, ◌<◌}
use native.Mathlib.Nat.{zero-add, suc-add, pow-succ', mul_assoc, mod-add-div, div-one, div-div-eq-div-mul}
use native.Mathlib.Omega.{arith}
use lib.ListN.{length, set}
use lib.Seq.{sets}
use borrow.Author.Tests.{le-leb, lt-leb}
use Rattle.endian.specs.Bytes.{value, digits, put_field}

-- ---- a number's bytes

pub digits_long : (n v : ℕ) → length (digits n v) ≡ n
unfolding digits
digits_long zero v = refl
digits_long (suc n) v = ap suc (digits_long n (v / 256))

-- The low bytes do not see what is above them.
digits_low : (m x y : ℕ) → digits m (x + 256 ^ m * y) ≡ digits m x
unfolding digits
digits_low zero x y = refl
digits_low (suc m) x y =
    let high : ℕ = 256 ^ m * y in
    let far : 256 ^ suc m * y ≡ 256 * high = ap (λ (p : ℕ). p * y) (pow-succ' 256 m) ∙ mul_assoc 256 (256 ^ m) y in
    let head : (x + 256 * high) % 256 ≡ x % 256 = omega arith in
    let tail : (x + 256 * high) / 256 ≡ x / 256 + high = omega arith in
    rw (far, head, tail, digits_low m (x / 256) y)

digits_high : (m n v : ℕ) → digits (m + n) v ≡ digits m v ++ digits n (v / 256 ^ m)
unfolding digits
digits_high zero n v = rw (zero-add n, div-one v)
digits_high (suc m) n v =
    let far : v / 256 ^ suc m ≡ v / 256 / 256 ^ m = ap (λ (p : ℕ). v / p) (pow-succ' 256 m) ∙ sym (div-div-eq-div-mul v 256 (256 ^ m)) in
    rw (suc-add m n, far, digits_high m n (v / 256))

-- A number's bytes are those of its low part and of its high part.
pub digits_split : (m n v : ℕ) → digits (m + n) v ≡ digits m (v % 256 ^ m) ++ digits n (v / 256 ^ m)
digits_split m n v =
    digits_high m n v
    ∙ ap (λ (xs : List ℕ). xs ++ digits n (v / 256 ^ m))
    (ap (digits m) (sym (mod-add-div v (256 ^ m))) ∙ digits_low m (v % 256 ^ m) (v / 256 ^ m))

-- They give the number back, if they hold it, and it them, if each is a byte.
pub value_digits : (n v : ℕ) → v < 256 ^ n → value (digits n v) ≡ v
unfolding value digits
value_digits zero v h = omega arith
value_digits (suc n) v h =
    let less : v / 256 < 256 ^ n = omega (arith, rw (pow-succ' 256 n) at h) in
    rw (value_digits n (v / 256) less) (omega arith)

-- ---- put into bytes

pub sets_append : (l : List ℕ) (i : ℕ) (xs ys : List ℕ) → sets l i (xs ++ ys) ≡ sets (sets l i xs) (i + length xs) ys
sets_append l i [] ys = ap (λ (k : ℕ). sets l k ys) (omega arith)
sets_append l i (x ∷ xs) ys =
    sets_append (set l i x) (suc i) xs ys ∙ ap (λ (k : ℕ). sets (sets (set l i x) (suc i) xs) k ys) (omega arith)

-- By halves.
pub sets_halves : (m n at v : ℕ) (bytes : List ℕ)
    → sets (sets bytes at (digits m (v % 256 ^ m))) (at + m) (digits n (v / 256 ^ m)) ≡ sets bytes at (digits (m + n) v)
sets_halves m n at v bytes =
    ap (λ (k : ℕ). sets (sets bytes at (digits m (v % 256 ^ m))) (at + k) (digits n (v / 256 ^ m))) (sym (digits_long m (v % 256 ^ m)))
    ∙ sym (ap (sets bytes at) (digits_split m n v) ∙ sets_append bytes at (digits m (v % 256 ^ m)) (digits n (v / 256 ^ m)))

pub put_whole : (i n v : ℕ) (bytes : List ℕ) → i + n ≤ length bytes → put_field i n v bytes ≡ sets bytes i (digits n v)
unfolding put_field
put_whole i n v bytes h = rw (le-leb (i + n) (length bytes) h)

pub put_none : (i n v : ℕ) (bytes : List ℕ) → length bytes < i + n → put_field i n v bytes ≡ bytes
unfolding put_field
put_none i n v bytes h = rw (lt-leb (i + n) (length bytes) h)
