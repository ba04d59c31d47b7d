-- A run of numbers of n bytes each, taken out of bytes one after the other and put back.
use mathlib.Core.Path.{◌≡◌, refl, sym, ap, ap₂, ◌∙◌}
use mathlib.Core.List.{List, [], ◌∷◌, ◌++◌, map, append_assoc}
use Prim.Native.Nat.{ℕ, ◌+◌, ◌-◌, ◌*◌, ◌/◌, ◌≤◌, ◌<◌}
use native.Mathlib.Nat.{zero-add, mul-suc, mul_comm, mul-zero, add-zero, mul-le-mul, le-div_iff_mul-le, div-lt_iff_lt-mul}
use native.Mathlib.Numerals.{add-one}
use native.Mathlib.Omega.{arith}
use lib.Dec.{eqb}
use lib.ListN.{length, get_or, take, drop, set, length-set, drop_of_length-le}
use lib.Seq.{sets, sets-eq, length-sets, drop-cons, ext_get_or, get_or-set_same, get_or-set_other}
use borrow.Author.Tests.{eqb-true, eqb-false, le-leb, lt-leb}
use borrow.Rule.Slice.PartMut.{put_mid, mid_len, Post-is}
use Rattle.std.proofs.lemmas.List.{map-id}
use Rattle.waymap.proofs.Booleans.{cases}
use Rattle.endian.specs.Bytes.{digits, field, put_field, cut, joined}
use Rattle.runs.specs.Runs.{numbers, bytes_of, read_run, put_run}
use Rattle.endian.proofs.DigitLaws.{digits_long, sets_append, put_whole}
use Rattle.endian.proofs.CutLaws.{sets_all}
use Rattle.endian.proofs.NumberLaws.{put_within}
use Rattle.runs.proofs.TableLaws.{number_at, numbers_long, numbers_front, bytes_long}

-- ---- taken out

-- The first i are there.
pub record Loading (n : ℕ) (bytes : List ℕ) (k : ℕ) (xs : List ℕ) (i : ℕ) : Type 0 where
  pub long : length xs ≡ k
  pub is : (j : ℕ) → j < i → get_or xs j 0 ≡ field (n * j) n bytes

pub load_begin : (n : ℕ) (bytes xs : List ℕ) → Loading n bytes (length xs) xs 0
load_begin n bytes xs = record { long = refl; is = λ j h. absurd (omega arith) }

pub load_turned : {n : ℕ} {bytes : List ℕ} {k : ℕ} {xs : List ℕ} {i v : ℕ} → Loading n bytes k xs i → i < length xs → v ≡ field (n * i) n bytes
    → Loading n bytes k (set xs i v) (i + 1)
load_turned {n} {bytes} {k} {xs} {i} {v} l h e = record {
  long = length-set xs i v ∙ l.long;
  is = λ j b.
      cases (eqb j i)
      (λ t. rw (eqb-true j i t) (get_or-set_same xs i v 0 h ∙ e))
      (λ t. get_or-set_other xs i j v 0 (eqb-false j i t) ∙ l.is j (omega (arith, eqb-false j i t)));
}

pub load_end : {n : ℕ} {bytes : List ℕ} {k : ℕ} {xs : List ℕ} {i : ℕ} → Loading n bytes k xs i → length xs ≤ i → xs ≡ numbers n k bytes
load_end {n} {bytes} {k} {xs} {i} l h = ext_get_or 0 xs (numbers n k bytes) (l.long ∙ sym (numbers_long n k bytes)) same
  where
    same : (j : ℕ) → j < length xs → get_or xs j 0 ≡ get_or (numbers n k bytes) j 0
    same j b = l.is j (omega arith) ∙ sym (number_at n k bytes j (omega (arith, l.long)) ∙ rw (mul_comm j n))

-- ---- put back

-- What was put and what is left to put make the whole.
pub record Storing (n : ℕ) (before : List ℕ) (at : ℕ) (xs bytes : List ℕ) (i : ℕ) : Type 0 where
  pub within : i ≤ length xs
  pub long : length bytes ≡ length before
  pub is : sets bytes (at + n * i) (bytes_of n (drop i xs)) ≡ sets before at (bytes_of n xs)

pub store_begin : (n : ℕ) (bytes : List ℕ) (at : ℕ) (xs : List ℕ) → Storing n bytes at xs bytes 0
store_begin n bytes at xs = record { within = omega arith; long = refl; is = rw (mul-zero n, add-zero at) }

pub store_turned : {n : ℕ} {before : List ℕ} {at : ℕ} {xs bytes : List ℕ} {i : ℕ} {after : List ℕ} → Storing n before at xs bytes i
    → i < length xs → after ≡ sets bytes (at + n * i) (digits n (get_or xs i 0))
    → Storing n before at xs after (i + 1)
unfolding bytes_of joined
store_turned {n} {before} {at} {xs} {bytes} {i} {after} l h put =
    let v : ℕ = get_or xs i 0 in
    let place : ℕ = at + n * i in
    let more : n * (i + 1) ≡ n * i + n = rw (add-one i, mul-suc n i) in
    let next : at + n * (i + 1) ≡ place + n = omega arith in
    let rest : List ℕ = bytes_of n (drop (i + 1) xs) in
    let split : drop i xs ≡ v ∷ drop (i + 1) xs = rw (add-one i) (drop-cons xs i 0 h) in
    record {
      within = omega arith;
      long = ap length put ∙ length-sets bytes place (digits n v) ∙ l.long;
      is =
          ap (λ (p : ℕ). sets after p rest) next
          ∙ ap (λ (b : List ℕ). sets b (place + n) rest) put
          ∙ ap (λ (m : ℕ). sets (sets bytes place (digits n v)) (place + m) rest) (sym (digits_long n v))
          ∙ sym (sets_append bytes place (digits n v) rest)
          ∙ ap (λ (ys : List ℕ). sets bytes place (bytes_of n ys)) (sym split)
          ∙ l.is;
    }

-- By one number more, put into a part that begins at its place and has room for it.
pub stored_next : {n : ℕ} {before xs bytes : List ℕ} {i : ℕ} (k e : ℕ) (part : List ℕ) → Storing n before 0 xs bytes i → i < length xs
    → k ≡ n * i → n * (i + 1) ≤ e → e ≤ length bytes
    → part ≡ put_field 0 n (get_or xs i 0) (take (e - k) (drop k bytes))
    → Storing n before 0 xs (put_mid k (e - k) bytes part) (i + 1)
stored_next {n} {before} {xs} {bytes} {i} k e part l h start room end put =
    let v : ℕ = get_or xs i 0 in
    let next : n * (i + 1) ≡ n * i + n = rw (add-one i, mul-suc n i) in
    let long : length (take (e - k) (drop k bytes)) ≡ e - k = mid_len k e bytes end in
    let here : part ≡ sets (take (e - k) (drop k bytes)) 0 (digits n v) = put ∙ put_whole 0 n v (take (e - k) (drop k bytes)) (omega (arith, long)) in
    let whole : put_mid k (e - k) bytes part ≡ sets bytes k (digits n v) =
    put_within k (e - k) bytes part (digits n v) (omega (arith, digits_long n v)) here in
    store_turned l h (whole ∙ ap (λ (p : ℕ). sets bytes p (digits n v)) (start ∙ sym (zero-add (n * i))))

pub store_end : {n : ℕ} {before : List ℕ} {at : ℕ} {xs bytes : List ℕ} {i : ℕ} → Storing n before at xs bytes i → length xs ≤ i
    → bytes ≡ sets before at (bytes_of n xs)
unfolding bytes_of joined
store_end {n} {before} {at} {xs} {bytes} {i} l h =
    let last : sets bytes (at + n * i) (bytes_of n (drop i xs)) ≡ bytes = rw (drop_of_length-le xs h) in
    sym last ∙ l.is

-- ---- where there is room

module _ (i n : ℕ) (bytes xs : List ℕ) where
  pub run_read : n * length xs ≤ length bytes - i → read_run i n bytes xs ≡ numbers n (length xs) (drop i bytes)
  unfolding read_run
  run_read h = rw (le-leb (n * length xs) (length bytes - i) h)

  pub run_unread : length bytes - i < n * length xs → read_run i n bytes xs ≡ xs
  unfolding read_run
  run_unread h = rw (lt-leb (n * length xs) (length bytes - i) h)

  pub run_put : n * length xs ≤ length bytes - i → put_run i n xs bytes ≡ sets bytes i (bytes_of n xs)
  unfolding put_run
  run_put h = rw (le-leb (n * length xs) (length bytes - i) h)

  pub run_left : length bytes - i < n * length xs → put_run i n xs bytes ≡ bytes
  unfolding put_run
  run_left h = rw (lt-leb (n * length xs) (length bytes - i) h)

  -- by the bytes from i up to e alone
  pub run_loaded : {e : ℕ} → e ≡ i + n * length xs → e ≤ length bytes → numbers n (length xs) (take (e - i) (drop i bytes)) ≡ read_run i n bytes xs
  run_loaded {e} p h =
      let swapped : length xs * n ≡ n * length xs = mul_comm (length xs) n in
      numbers_front n (length xs) (e - i) (drop i bytes) (omega arith) ∙ sym (run_read (omega arith))

  pub run_stored : {e : ℕ} → e ≡ i + n * length xs → e ≤ length bytes
      → put_mid i (e - i) bytes (sets (take (e - i) (drop i bytes)) 0 (bytes_of n xs)) ≡ put_run i n xs bytes
  run_stored {e} p h =
      let part : List ℕ = take (e - i) (drop i bytes) in
      let run : List ℕ = bytes_of n xs in
      let long : length run ≡ n * length xs = bytes_long n xs ∙ mul_comm (length xs) n in
      let filled : length run ≡ length part = omega (arith, mid_len i e bytes h) in
      let behind : e ≡ i + length run = omega arith in
      ap₂ (λ (ys zs : List ℕ). take i bytes ++ (ys ++ zs)) (sets_all run part filled)
      (Post-is i e bytes (omega arith) ∙ ap (λ (k : ℕ). drop k bytes) behind)
      ∙ sym (append_assoc (take i bytes) run (drop (i + length run) bytes))
      ∙ sym (sets-eq run bytes i (omega arith)) ∙ sym (run_put (omega arith))

-- No numbers at all.
pub none_read : (i n : ℕ) (bytes xs : List ℕ) → length xs ≡ 0 → read_run i n bytes xs ≡ xs
unfolding numbers cut
none_read i n bytes [] e = run_read i n bytes [] (rw (mul-zero n) (omega arith))
none_read i n bytes (x ∷ xs) e = absurd (omega arith)

pub none_put : (i n : ℕ) (bytes xs : List ℕ) → length xs ≡ 0 → put_run i n xs bytes ≡ bytes
unfolding bytes_of joined
none_put i n bytes [] e = run_put i n bytes [] (rw (mul-zero n) (omega arith))
none_put i n bytes (x ∷ xs) e = absurd (omega arith)

-- ---- in what lies from a place on

-- There is room for so many numbers, or there is not.
pub room : (n k all : ℕ) → 1 ≤ n → k ≤ all / n → n * k ≤ all
room n k all h l = rw (mul_comm n k) ((le-div_iff_mul-le {k = n} {x = k} {y = all} (omega arith)).0 l)

pub no_room : (n k all : ℕ) → 1 ≤ n → all / n < k → all < n * k
no_room n k all h l = rw (mul_comm n k) ((div-lt_iff_lt-mul {k = n} {x = all} {y = k} (omega arith)).0 l)

module _ (i n : ℕ) (bytes xs : List ℕ) where
  -- Behind the end nothing is read, and nothing put.
  pub read_behind : 1 ≤ n → length bytes ≤ i → xs ≡ read_run i n bytes xs
  read_behind h l =
      cases (eqb (length xs) 0)
      (λ t. sym (none_read i n bytes xs (eqb-true (length xs) 0 t)))
      (λ t.
      let some : 1 ≤ length xs = omega (arith, eqb-false (length xs) 0 t) in
      let more : 1 * 1 ≤ n * length xs = mul-le-mul h some in
      sym (run_unread i n bytes xs (omega arith)))

  pub put_behind : 1 ≤ n → length bytes ≤ i → bytes ≡ put_run i n xs bytes
  put_behind h l =
      cases (eqb (length xs) 0)
      (λ t. sym (none_put i n bytes xs (eqb-true (length xs) 0 t)))
      (λ t.
      let some : 1 ≤ length xs = omega (arith, eqb-false (length xs) 0 t) in
      let more : 1 * 1 ≤ n * length xs = mul-le-mul h some in
      sym (run_left i n bytes xs (omega arith)))

-- At numbers that are themselves.
pub read_plain : (i n : ℕ) (bytes xs ys : List ℕ) → map (λ x. x) ys ≡ read_run i n bytes (map (λ x. x) xs) → ys ≡ read_run i n bytes xs
read_plain i n bytes xs ys e = sym (map-id ys) ∙ e ∙ ap (read_run i n bytes) (map-id xs)

pub put_plain : (i n : ℕ) (bytes xs after : List ℕ) → after ≡ put_run i n (map (λ x. x) xs) bytes → after ≡ put_run i n xs bytes
put_plain i n bytes xs after e = e ∙ ap (λ (ys : List ℕ). put_run i n ys bytes) (map-id xs)
