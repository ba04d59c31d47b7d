-- A number read, byte by byte and by halves.
use mathlib.Core.Path.{◌≡◌, refl, ap, ap₂, sym, ◌∙◌}
use mathlib.Core.List.{List, [], ◌∷◌}
use Prim.Native.Nat.{ℕ, zero, suc, ◌+◌, ◌-◌, ◌*◌, ◌^◌, ◌≤◌, ◌<◌}
use native.Mathlib.Nat.{zero-add, suc-add, pow-suc, pow-succ', pow-le-pow_right, mul_assoc}
use native.Mathlib.Omega.{arith}
use lib.ListN.{length, take, drop, get_or, length-drop, get_or-eq_default}
use lib.Seq.{take-nil, drop-nil, drop-drop, take_all}
use Rattle.endian.specs.Bytes.{value, field}
use Rattle.endian.proofs.CutLaws.{part_in}

-- ---- byte by byte

-- Behind the end there are no bytes.
drop_next : (bytes : List ℕ) (i m : ℕ) → value (take (suc m) (drop i bytes)) ≡ get_or bytes i 0 + 256 * value (take m (drop (suc i) bytes))
unfolding value
drop_next [] i m =
    rw (drop-nil {A = ℕ} i, drop-nil {A = ℕ} (suc i), take-nil {A = ℕ} m, get_or-eq_default {A = ℕ} [] 0 {n = i} (omega arith))
drop_next (b ∷ bytes) zero m = refl
drop_next (b ∷ bytes) (suc i) m = drop_next bytes i m

pub field_next : (bytes : List ℕ) (i m : ℕ) → field i (suc m) bytes ≡ get_or bytes i 0 + 256 * field (suc i) m bytes
unfolding field
field_next bytes i m = drop_next bytes i m

pub field_none : (bytes : List ℕ) (i : ℕ) → field i 0 bytes ≡ 0
unfolding field value
field_none bytes i = refl

pub field_one : (bytes : List ℕ) (i : ℕ) → field i 1 bytes ≡ get_or bytes i 0
field_one bytes i = field_next bytes i 0 ∙ rw (field_none bytes (suc i)) (omega arith)

-- ---- by parts

value_split : (m n : ℕ) (bytes : List ℕ) → value (take (m + n) bytes) ≡ value (take m bytes) + 256 ^ m * value (take n (drop m bytes))
unfolding value
value_split zero n bytes = rw (zero-add n) (omega arith)
value_split (suc m) n [] = rw (take-nil {A = ℕ} n, take-nil {A = ℕ} (suc m + n)) (omega arith)
value_split (suc m) n (b ∷ bytes) =
    let rest : ℕ = value (take n (drop m bytes)) in
    let far : 256 ^ suc m * rest ≡ 256 * (256 ^ m * rest) = ap (λ (p : ℕ). p * rest) (pow-succ' 256 m) ∙ mul_assoc 256 (256 ^ m) rest in
    rw (suc-add m n, value_split m n bytes, far) (omega arith)

-- A number is its low part and, weighed, its high part.
pub field_split : (m n i : ℕ) (bytes : List ℕ) → field i (m + n) bytes ≡ field i m bytes + 256 ^ m * field (i + m) n bytes
unfolding field
field_split m n i bytes = rw (← drop-drop m i bytes) (value_split m n (drop i bytes))

pub field_two : (bytes : List ℕ) (i : ℕ) → field i 2 bytes ≡ get_or bytes i 0 + 256 * get_or bytes (i + 1) 0
field_two bytes i = field_split 1 1 i bytes ∙ rw (field_one bytes i, field_one bytes (i + 1))

-- Of a number that reaches past the end only what is left is read.
pub field_short : (n i : ℕ) (bytes : List ℕ) → length bytes - i ≤ n → field i n bytes ≡ field i (length bytes - i) bytes
unfolding field
field_short n i bytes h =
    let long : length (drop i bytes) ≡ length bytes - i = length-drop i bytes in
    ap value (take_all n (drop i bytes) (omega arith) ∙ sym (take_all (length bytes - i) (drop i bytes) (omega arith)))

-- Behind the end there is none.
pub field_behind : (n i : ℕ) (bytes : List ℕ) → length bytes ≤ i → 0 ≡ field i n bytes
field_behind n i bytes h =
    let none : length bytes - i ≡ 0 = omega arith in
    sym (field_short n i bytes (omega arith) ∙ ap (λ (k : ℕ). field i k bytes) none ∙ field_none bytes i)

-- A number sees no byte behind it.
pub field_front : (i n k : ℕ) (bytes : List ℕ) → i + n ≤ k → field i n (take k bytes) ≡ field i n bytes
unfolding field
field_front i n k bytes h = ap value (part_in n i k bytes h)

-- of a part that lies from byte k on
pub field_within : (n k m : ℕ) (bytes : List ℕ) → n ≤ m → field 0 n (take m (drop k bytes)) ≡ field k n bytes
unfolding field
field_within n k m bytes h = field_front 0 n m (drop k bytes) (omega (arith, h))

-- ---- a loop over what is left

-- With the bytes from k on read: their value.
pub record Reading (bytes : List ℕ) (at n value k : ℕ) : Type 0 where
  pub inside : k ≤ n
  pub is : value ≡ field (at + k) (n - k) bytes
  pub bound : value < 256 ^ (n - k)

pub read_begin : (bytes : List ℕ) (at n : ℕ) → Reading bytes at n 0 n
unfolding field value
read_begin bytes at n =
    let none : n - n ≡ 0 = omega arith in
    record { inside = omega arith; is = rw none; bound = rw none (omega arith) }

-- The value leaves room for one byte more.
pub read_room : {bytes : List ℕ} {at n v k : ℕ} → Reading bytes at n v k → n < 8 → v < 72057594037927936
read_room {bytes} {at} {n} {v} {k} p h =
    let few : n - k ≤ 7 = omega arith in
    let most : 256 ^ (n - k) ≤ 256 ^ 7 = pow-le-pow_right {n = 256} (omega arith) few in
    omega (arith, p.bound)

pub read_turned : {bytes : List ℕ} {at n v k b : ℕ} → Reading bytes at n v k → 0 < k → b ≡ get_or bytes (at + (k - 1)) 0 → b < 256
    → Reading bytes at n (b + 256 * v) (k - 1)
read_turned {bytes} {at} {n} {v} {k} {b} p h e l =
    let more : n - (k - 1) ≡ suc (n - k) = omega (arith, p.inside) in
    let next : suc (at + (k - 1)) ≡ at + k = omega arith in
    record {
      inside = omega (arith, p.inside);
      is = rw (more, field_next bytes (at + (k - 1)) (n - k), next) (ap₂ (λ (x y : ℕ). x + 256 * y) e p.is);
      bound = rw (more, pow-suc 256 (n - k)) (omega (arith, p.bound));
    }

pub read_end : {bytes : List ℕ} {at n v k : ℕ} → Reading bytes at n v k → k ≤ 0 → (v ≡ field at n bytes) × (v < 256 ^ n)
read_end {bytes} {at} {n} {v} {k} p h =
    let none : k ≡ 0 = omega arith in
    let all : n - k ≡ n = omega arith in
    let here : at + k ≡ at = omega arith in
    let is : v ≡ field (at + k) (n - k) bytes = p.is in
    let bound : v < 256 ^ (n - k) = p.bound in
    (rw (all, here) at is, rw all at bound)

-- Fewer bytes hold less.
pub bound_most : {v k : ℕ} (n : ℕ) → v < 256 ^ k → k ≤ n → v < 256 ^ n
bound_most {v} {k} n h l =
    let most : 256 ^ k ≤ 256 ^ n = pow-le-pow_right {n = 256} (omega arith) l in
    omega arith
