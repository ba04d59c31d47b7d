-- What the types of numbers read and write, and what a part of the bytes holds.
use mathlib.Core.Path.{◌≡◌, refl, ap, ap₂, sym, ◌∙◌}
use mathlib.Core.Bool.{Bool, true, false}
use mathlib.Core.List.{List, [], ◌∷◌, ◌++◌}
use Prim.Native.Nat.{ℕ, zero, suc, ◌+◌, ◌-◌, ◌*◌, ◌/◌, ◌%◌, ◌^◌, ◌≤◌, ◌<◌}
use native.Mathlib.Nat.{pow-suc, div-one, div-div-eq-div-mul}
use native.Mathlib.Omega.{arith}
use lib.ListN.{length, take, drop, get_or, replicate, take-append-drop, length-drop}
use lib.Seq.{sets, sets-eq, take-nil, take_all, drop-drop, drop-length}
use borrow.Author.Tests.{leb-true, leb-false}
use lib.Dec.{leb}
use borrow.Rule.Slice.PartMut.{put_mid}
use Rattle.std.proofs.lemmas.List.{append-nil}
use Rattle.std.specs.Int.{w8, w16, w32, w64, from_le_bytes, byte_at, bytes_low_first}
use Rattle.std.specs.List.{slice_range}
use Rattle.endian.specs.Bytes.{value, digits, field, put_field}
use Rattle.endian.proofs.CutLaws.{take_sets_in, take_sets_out, drop_sets_in, drop_sets_out}
use Rattle.endian.proofs.DigitLaws.{digits_long, put_none, put_whole}
use Rattle.endian.proofs.FieldLaws.{field_none, field_next, field_one, field_behind}

-- ---- read

-- A byte is its number; two bytes in a row give theirs, and so do four, and eight.
pub field_of_one : (bytes : List ℕ) (r : ℕ) → r ≡ from_le_bytes w8 (get_or bytes 0 0 ∷ []) → r ≡ field 0 1 bytes
field_of_one bytes r e = e ∙ sym (field_one bytes 0)

pub field_of_two : (bytes : List ℕ) (r : ℕ)
    → r ≡ from_le_bytes w16 (get_or bytes 0 0 ∷ get_or bytes 1 0 ∷ [])
    → r ≡ field 0 2 bytes
field_of_two bytes r e =
    rw (field_next bytes 0 1, field_next bytes 1 0, field_none bytes 2) (omega (arith, e))

pub field_of_four : (bytes : List ℕ) (r : ℕ)
    → r ≡ from_le_bytes w32 (get_or bytes 0 0 ∷ get_or bytes 1 0 ∷ get_or bytes 2 0 ∷ get_or bytes 3 0 ∷ [])
    → r ≡ field 0 4 bytes
field_of_four bytes r e =
    rw (field_next bytes 0 3, field_next bytes 1 2, field_next bytes 2 1, field_next bytes 3 0, field_none bytes 4)
    (omega (arith, e))

pub field_of_eight : (bytes : List ℕ) (r : ℕ)
    → r ≡ from_le_bytes w64
    (get_or bytes 0 0 ∷ get_or bytes 1 0 ∷ get_or bytes 2 0 ∷ get_or bytes 3 0
    ∷ get_or bytes 4 0 ∷ get_or bytes 5 0 ∷ get_or bytes 6 0 ∷ get_or bytes 7 0 ∷ [])
    → r ≡ field 0 8 bytes
field_of_eight bytes r e =
    rw (field_next bytes 0 7, field_next bytes 1 6, field_next bytes 2 5, field_next bytes 3 4)
    (rw (field_next bytes 4 3, field_next bytes 5 2, field_next bytes 6 1, field_next bytes 7 0, field_none bytes 8)
    (omega (arith, e)))

-- Zeros behind some bytes add nothing to their number.
value_zeros : (n m : ℕ) → value (take n (replicate m 0)) ≡ 0
unfolding value
value_zeros zero m = refl
value_zeros (suc n) zero = refl
value_zeros (suc n) (suc m) = omega (arith, value_zeros n m)

value_padded : (n m : ℕ) (bytes : List ℕ) → value (take n (bytes ++ replicate m 0)) ≡ value (take n bytes)
unfolding value
value_padded n m [] = value_zeros n m ∙ sym (rw (take-nil {A = ℕ} n))
value_padded zero m (b ∷ bytes) = refl
value_padded (suc n) m (b ∷ bytes) = ap (λ (x : ℕ). b + 256 * x) (value_padded n m bytes)

pub field_padded : (n m : ℕ) (bytes : List ℕ) → field 0 n (bytes ++ replicate m 0) ≡ field 0 n bytes
unfolding field
field_padded n m bytes = value_padded n m bytes

pub field_of_padded : (n m : ℕ) (bytes : List ℕ) {whole : List ℕ} → whole ≡ bytes ++ replicate m 0 → field 0 n whole ≡ field 0 n bytes
field_of_padded n m bytes e = ap (field 0 n) e ∙ field_padded n m bytes

-- ---- written

-- A number's bytes, as a type's own call gives them.
byte_power : (i v : ℕ) → byte_at i v ≡ v / 256 ^ i % 256
byte_power zero v = ap (λ (x : ℕ). x % 256) (sym (div-one v))
byte_power (suc i) v = refl

low_first : (i n v : ℕ) → bytes_low_first i n v ≡ digits n (v / 256 ^ i)
unfolding digits
low_first i zero v = refl
low_first i (suc n) v =
    let next : v / 256 ^ suc i ≡ v / 256 ^ i / 256 = ap (λ (p : ℕ). v / p) (pow-suc 256 i) ∙ sym (div-div-eq-div-mul v (256 ^ i) 256) in
    ap₂ (λ (b : ℕ) (bs : List ℕ). b ∷ bs) (byte_power i v) (low_first (suc i) n v ∙ ap (digits n) next)

-- Written over the first bytes.
pub written : (n v : ℕ) (bytes new : List ℕ) → n ≤ length bytes → new ≡ bytes_low_first 0 n v
    → new ++ drop n bytes ≡ sets bytes 0 (digits n v)
written n v bytes new h e =
    let same : new ≡ digits n v = e ∙ low_first 0 n v ∙ ap (digits n) (div-one v) in
    let long : 0 + length (digits n v) ≡ n = omega (arith, digits_long n v) in
    sym (sets-eq (digits n v) bytes 0 (omega arith) ∙ rw (long, same))

pub put_written : (n v : ℕ) (bytes new : List ℕ) → n ≤ length bytes → new ≡ bytes_low_first 0 n v
    → new ++ drop n bytes ≡ put_field 0 n v bytes
put_written n v bytes new h e = written n v bytes new h e ∙ sym (put_whole 0 n v bytes (omega arith))

-- Put into what lies from a place on.
pub put_from : (i : ℕ) (bytes part vs : List ℕ) → i ≤ length bytes → part ≡ sets (drop i bytes) 0 vs
    → put_mid i (length bytes - i) bytes part ≡ sets bytes i vs
put_from i bytes part vs h e =
    let rest : i + (length bytes - i) ≡ length bytes = omega arith in
    let none : drop (length bytes - i) (drop i bytes) ≡ [] = drop-drop (length bytes - i) i bytes ∙ rw rest (drop-length bytes) in
    let behind : drop i (sets bytes i vs) ≡ part = ap (λ (k : ℕ). drop i (sets bytes k vs)) (omega arith) ∙ drop_sets_out i 0 vs bytes ∙ sym e in
    rw (none, append-nil part)
    (ap (λ (xs : List ℕ). take i bytes ++ xs) (sym behind)
    ∙ ap (λ (xs : List ℕ). xs ++ drop i (sets bytes i vs)) (sym (take_sets_out i i vs bytes (omega arith)))
    ∙ take-append-drop i (sets bytes i vs))

-- Put into a part that has room for it.
pub put_within : (i k : ℕ) (bytes part vs : List ℕ) → length vs ≤ k → part ≡ sets (take k (drop i bytes)) 0 vs
    → put_mid i k bytes part ≡ sets bytes i vs
put_within i k bytes part vs h e =
    let rest : List ℕ = drop i bytes in
    let behind : drop i (sets bytes i vs) ≡ sets rest 0 vs = ap (λ (m : ℕ). drop i (sets bytes m vs)) (omega arith) ∙ drop_sets_out i 0 vs bytes in
    let front : part ≡ take k (sets rest 0 vs) = e ∙ sym (take_sets_in k 0 vs rest (omega (arith, h))) in
    ap₂ (λ (xs ys : List ℕ). take i bytes ++ (xs ++ ys)) front (sym (drop_sets_in k 0 vs rest (omega (arith, h))))
    ∙ ap (λ (xs : List ℕ). take i bytes ++ xs) (take-append-drop k (sets rest 0 vs) ∙ sym behind)
    ∙ ap (λ (xs : List ℕ). xs ++ drop i (sets bytes i vs)) (sym (take_sets_out i i vs bytes (omega arith)))
    ∙ take-append-drop i (sets bytes i vs)

pub put_part : (i n v : ℕ) (bytes part : List ℕ) → i + n ≤ length bytes → part ≡ sets (drop i bytes) 0 (digits n v)
    → put_mid i (length bytes - i) bytes part ≡ put_field i n v bytes
put_part i n v bytes part h e = put_from i bytes part (digits n v) (omega arith) e ∙ sym (put_whole i n v bytes h)

-- Where there is no room in it, there is none in the whole.
pub put_rest : (i n v : ℕ) (bytes part : List ℕ) → i ≤ length bytes → part ≡ put_field 0 n v (drop i bytes)
    → put_mid i (length bytes - i) bytes part ≡ put_field i n v bytes
put_rest i n v bytes part h e =
    decided (leb (i + n) (length bytes)) refl
  where
    long : length (drop i bytes) ≡ length bytes - i
    long = length-drop i bytes

    decided : (t : Bool) → leb (i + n) (length bytes) ≡ t → put_mid i (length bytes - i) bytes part ≡ put_field i n v bytes
    decided true r =
        let room : i + n ≤ length bytes = leb-true (i + n) (length bytes) r in
        put_part i n v bytes part room (e ∙ put_whole 0 n v (drop i bytes) (omega (arith, long)))
    decided false r =
        let none : length bytes < i + n = leb-false (i + n) (length bytes) r in
        put_from i bytes part [] h (e ∙ put_none 0 n v (drop i bytes) (omega (arith, long))) ∙ sym (put_none i n v bytes none)

-- What lies from a place on has at its front what the whole has there.
pub field_rest : (n i : ℕ) (bytes rest : List ℕ) → rest ≡ slice_range bytes i (length bytes) → field 0 n rest ≡ field i n bytes
unfolding field
field_rest n i bytes rest e =
    ap (λ (xs : List ℕ). value (take n xs)) (e ∙ take_all (length bytes - i) (drop i bytes) (omega (arith, length-drop i bytes)))

-- Behind the end nothing is read.
pub field_of_none : (n i : ℕ) (bytes : List ℕ) → length bytes ≤ i → field 0 n [] ≡ field i n bytes
field_of_none n i bytes h = sym (field_behind n 0 [] (omega arith)) ∙ field_behind n i bytes h
