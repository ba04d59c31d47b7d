-- Tables of numbers in bytes: what stands at a place, a number or a run of numbers put, and that bytes and numbers give each other back.
use mathlib.Core.Path.{◌≡◌, refl, ap, ap₂, sym, ◌∙◌}
use mathlib.Core.List.{List, [], ◌∷◌, ◌++◌, map}
use Prim.Native.Nat.{ℕ, zero, suc, ◌+◌, ◌-◌, ◌*◌, ◌/◌, ◌%◌, ◌^◌, ◌≤◌, ◌<◌}
use native.Mathlib.Nat.{zero-add, suc-add, zero-mul, suc-mul, mul-le-mul_right, le_trans, min-le_left, sub-zero}
use native.Mathlib.Omega.{arith}
use lib.ListN.{length, get_or, take, drop, set, replicate, length-map, length-replicate, get_or-replicate, length-take, length-drop, length-append}
use lib.ListN.{take-append-drop, get_or-map, get_or-eq_default}
use lib.Dec.{ltb}
use lib.Seq.{sets, length-sets, drop-drop, take-take, length-take-le, get_or-drop, get_or-take, take-nil, take_at, drop_at}
use borrow.Author.Tests.{ltb-true, ltb-false}
use Rattle.waymap.proofs.Booleans.{cases}
use Rattle.endian.specs.Bytes.{value, digits, field, cut, sum, joined}
use Rattle.runs.specs.Runs.{Bytes, numbers, bytes_of}
use Rattle.endian.proofs.DigitLaws.{digits_long, value_digits, sets_append}
use Rattle.endian.proofs.CutLaws.{sets_all, part_in, cut_long, cut_part, cut_sets}

-- ---- equal sizes

pub sum_same : (n i k : ℕ) → i ≤ k → sum (take i (replicate k n)) ≡ i * n
sum_same n zero k h = sym (zero-mul n)
sum_same n (suc i) zero h = absurd (omega arith)
sum_same n (suc i) (suc k) h = rw (suc-mul i n, sum_same n i k (omega arith)) (omega arith)

pub map_set : {A B : Type 0} (f : A → B) (l : List A) (i : ℕ) (y : A) → map f (set l i y) ≡ set (map f l) i (f y)
map_set f [] i y = refl
map_set f (x ∷ l) zero y = refl
map_set {A} {B} f (x ∷ l) (suc i) y = ap (λ (xs : List B). f x ∷ xs) (map_set f l i y)

-- ---- a number of a table

pub numbers_long : (n k : ℕ) (bytes : List ℕ) → length (numbers n k bytes) ≡ k
unfolding numbers
numbers_long n k bytes = length-map (cut (replicate k n) bytes) value ∙ cut_long (replicate k n) bytes ∙ length-replicate k n

pub chunk : (n k : ℕ) (bytes : List ℕ) (i : ℕ) → i < k → get_or (cut (replicate k n) bytes) i [] ≡ take n (drop (i * n) bytes)
chunk n k bytes i h =
    cut_part (replicate k n) bytes i (rw (length-replicate k n) h)
    ∙ rw (get_or-replicate k i n 0 h, sum_same n i k (omega arith))

-- a chunk is whole where the table is
pub chunk_long : (n k : ℕ) (bytes : List ℕ) (i : ℕ) → i < k → k * n ≤ length bytes → length (get_or (cut (replicate k n) bytes) i []) ≡ n
chunk_long n k bytes i h l =
    let room : suc i * n ≤ length bytes = le_trans (mul-le-mul_right n h) l in
    let more : i * n + n ≤ length bytes = rw (← suc-mul i n) room in
    ap length (chunk n k bytes i h) ∙ length-take-le n (drop (i * n) bytes) (rw (length-drop (i * n) bytes) (omega arith))

pub number_at : (n k : ℕ) (bytes : List ℕ) (i : ℕ) → i < k → get_or (numbers n k bytes) i 0 ≡ field (i * n) n bytes
unfolding numbers field value
number_at n k bytes i h = get_or-map value (cut (replicate k n) bytes) i [] ∙ ap value (chunk n k bytes i h)

-- of a table that lies from byte o on
pub number_in : (n k o : ℕ) (bytes : List ℕ) (i : ℕ) {size : ℕ} → size ≡ k * n → i < k
    → get_or (numbers n k (take size (drop o bytes))) i 0 ≡ field (o + i * n) n bytes
unfolding field
number_in n k o bytes i {size} e h =
    let room : i * n + n ≤ size = rw e (within i k n h) in
    number_at n k (take size (drop o bytes)) i h
    ∙ ap value (part_in n (i * n) size (drop o bytes) room ∙ ap (take n) (drop-drop (i * n) o bytes))
  where
    within : (i k n : ℕ) → i < k → i * n + n ≤ k * n
    within i k n h = rw (← suc-mul i n) (mul-le-mul_right n h)

-- ---- numbers put

-- a chunk put in the place of another
pub chunks_put : (n k : ℕ) (bytes : List ℕ) (i : ℕ) (vs : List ℕ) → i < k → k * n ≤ length bytes → length vs ≡ n
    → cut (replicate k n) (sets bytes (i * n) vs) ≡ set (cut (replicate k n) bytes) i vs
chunks_put n k bytes i vs h l e =
    let place : i * n ≡ sum (take i (replicate k n)) + 0 = rw (sum_same n i k (omega arith)) (omega arith) in
    let inside : 0 + length vs ≤ get_or (replicate k n) i 0 = rw (e, get_or-replicate k i n 0 h) (omega arith) in
    let whole : sets (get_or (cut (replicate k n) bytes) i []) 0 vs ≡ vs =
    sets_all vs (get_or (cut (replicate k n) bytes) i []) (e ∙ sym (chunk_long n k bytes i h l)) in
    ap (λ (p : ℕ). cut (replicate k n) (sets bytes p vs)) place
    ∙ cut_sets (replicate k n) bytes i 0 vs (rw (length-replicate k n) h) inside
    ∙ ap (λ (xs : List ℕ). set (cut (replicate k n) bytes) i xs) whole

pub numbers_put : (n k : ℕ) (bytes : List ℕ) (i v : ℕ) → i < k → k * n ≤ length bytes → v < 256 ^ n
    → numbers n k (sets bytes (i * n) (digits n v)) ≡ set (numbers n k bytes) i v
unfolding numbers
numbers_put n k bytes i v h l b =
    ap (map value) (chunks_put n k bytes i (digits n v) h l (digits_long n v))
    ∙ map_set value (cut (replicate k n) bytes) i (digits n v)
    ∙ ap (λ (x : ℕ). set (map value (cut (replicate k n) bytes)) i x) (value_digits n v b)

-- a run of them, from number i on
pub numbers_puts : (n k : ℕ) (vs bytes : List ℕ) (i : ℕ) → i + length vs ≤ k → k * n ≤ length bytes → ((j : ℕ) → get_or vs j 0 < 256 ^ n)
    → numbers n k (sets bytes (i * n) (bytes_of n vs)) ≡ sets (numbers n k bytes) i vs
unfolding bytes_of joined
numbers_puts n k [] bytes i h l b = refl
numbers_puts n k (v ∷ vs) bytes i h l b =
    let next : i * n + length (digits n v) ≡ suc i * n = rw (digits_long n v, suc-mul i n) in
    let first : List ℕ = sets bytes (i * n) (digits n v) in
    ap (numbers n k) (sets_append bytes (i * n) (digits n v) (bytes_of n vs) ∙ ap (λ (p : ℕ). sets first p (bytes_of n vs)) next)
    ∙ numbers_puts n k vs first (suc i) (omega arith) (rw (length-sets bytes (i * n) (digits n v)) l) (λ j. b (suc j))
    ∙ ap (λ (xs : List ℕ). sets xs (suc i) vs) (numbers_put n k bytes i v (omega arith) l (b 0))

-- ---- a run of them read

-- The numbers behind the first i, and the first of them.
numbers_drop : (n i k : ℕ) (bytes : List ℕ) → drop i (numbers n (i + k) bytes) ≡ numbers n k (drop (i * n) bytes)
unfolding numbers cut
numbers_drop n zero k bytes = rw (zero-add k, zero-mul n)
numbers_drop n (suc i) k bytes =
    let place : n + i * n ≡ i * n + n = omega arith in
    rw (suc-add i k, suc-mul i n) (numbers_drop n i k (drop n bytes) ∙ ap (numbers n k) (drop-drop (i * n) n bytes ∙ ap (λ (p : ℕ). drop p bytes) place))

numbers_take : (n k m : ℕ) (bytes : List ℕ) → take k (numbers n (k + m) bytes) ≡ numbers n k bytes
unfolding numbers cut
numbers_take n zero m bytes = refl
numbers_take n (suc k) m bytes = rw (suc-add k m) (ap (λ (xs : List ℕ). value (take n bytes) ∷ xs) (numbers_take n k m (drop n bytes)))

-- The k numbers of a table from number i on.
pub numbers_part : (n i k all : ℕ) (bytes : List ℕ) → i + k ≤ all → take k (drop i (numbers n all bytes)) ≡ numbers n k (drop (i * n) bytes)
numbers_part n i k all bytes h =
    let rest : ℕ = all - (i + k) in
    let whole : all ≡ i + (k + rest) = omega arith in
    ap (λ (a : ℕ). take k (drop i (numbers n a bytes))) whole
    ∙ ap (take k) (numbers_drop n i (k + rest) bytes) ∙ numbers_take n k rest (drop (i * n) bytes)

drop_take : (n size : ℕ) (xs : List ℕ) → drop n (take size xs) ≡ take (size - n) (drop n xs)
drop_take zero size xs = rw (sub-zero size)
drop_take (suc n) size [] = rw (take-nil {A = ℕ} size, take-nil {A = ℕ} (size - suc n))
drop_take (suc n) zero (x ∷ xs) = rw (none n)
  where
    none : (n : ℕ) → 0 - suc n ≡ 0
    none n = omega arith
drop_take (suc n) (suc size) (x ∷ xs) = rw (same n size) (drop_take n size xs)
  where
    same : (n size : ℕ) → suc size - suc n ≡ size - n
    same n size = omega arith

-- Numbers see no byte behind them.
pub numbers_front : (n k size : ℕ) (bytes : List ℕ) → k * n ≤ size → numbers n k (take size bytes) ≡ numbers n k bytes
unfolding numbers cut
numbers_front n zero size bytes h = refl
numbers_front n (suc k) size bytes h =
    let more : k * n + n ≤ size = rw (suc-mul k n) at h in
    let split : drop n (take size bytes) ≡ take (size - n) (drop n bytes) = drop_take n size bytes in
    ap₂ (λ (x : ℕ) (xs : List ℕ). x ∷ xs) (ap value (take-take n size bytes (omega arith)))
    (ap (numbers n k) split ∙ numbers_front n k (size - n) (drop n bytes) (omega arith))

-- of a table that lies from byte o on
pub numbers_in : (n k o j size : ℕ) (bytes : List ℕ) → j + k * n ≤ size → numbers n k (drop j (take size (drop o bytes))) ≡ numbers n k (drop (o + j) bytes)
numbers_in n k o j size bytes h =
    ap (numbers n k) (drop_take j size (drop o bytes))
    ∙ numbers_front n k (size - j) (drop j (drop o bytes)) (omega arith) ∙ ap (numbers n k) (drop-drop j o bytes)

-- ---- bytes and numbers give each other back

pub bytes_take : (n : ℕ) (xs : List ℕ) → Bytes xs → Bytes (take n xs)
bytes_take n xs b i =
    cases (ltb i n)
    (λ e. rw (get_or-take n xs i 0 (ltb-true i n e)) (b i))
    (λ e. rw (get_or-eq_default (take n xs) 0 {n = i} (short n xs i (ltb-false i n e))) (omega arith))
  where
    short : (n : ℕ) (xs : List ℕ) (i : ℕ) → n ≤ i → length (take n xs) ≤ i
    short n xs i h = rw (length-take n xs) (le_trans (min-le_left n (length xs)) h)

pub bytes_drop : (n : ℕ) (xs : List ℕ) → Bytes xs → Bytes (drop n xs)
bytes_drop n xs b i = rw (get_or-drop n xs i 0) (b (n + i))

pub digits_value : (n : ℕ) (p : List ℕ) → length p ≡ n → Bytes p → digits n (value p) ≡ p
unfolding digits value
digits_value zero [] e b = refl
digits_value zero (x ∷ p) e b = absurd (omega arith)
digits_value (suc n) [] e b = absurd (omega arith)
digits_value (suc n) (x ∷ p) e b =
    let low : (x + 256 * value p) % 256 ≡ x = omega (arith, b 0) in
    let high : (x + 256 * value p) / 256 ≡ value p = omega (arith, b 0) in
    rw (low, high, digits_value n p (omega arith) (λ i. b (suc i)))

pub bytes_numbers : (n k : ℕ) (bytes : List ℕ) → length bytes ≡ k * n → Bytes bytes → bytes_of n (numbers n k bytes) ≡ bytes
unfolding numbers bytes_of cut joined
bytes_numbers n zero [] e b = refl
bytes_numbers n zero (x ∷ bytes) e b = absurd (omega (arith, rw (zero-mul n) at e))
bytes_numbers n (suc k) bytes e b =
    let more : length bytes ≡ k * n + n = rw (suc-mul k n) at e in
    ap₂ ◌++◌ (digits_value n (take n bytes) (length-take-le n bytes (omega arith)) (bytes_take n bytes b))
    (bytes_numbers n k (drop n bytes) (length-drop n bytes ∙ omega arith) (bytes_drop n bytes b))
    ∙ take-append-drop n bytes

pub numbers_bytes : (n : ℕ) (vs : List ℕ) → ((i : ℕ) → get_or vs i 0 < 256 ^ n) → numbers n (length vs) (bytes_of n vs) ≡ vs
unfolding numbers bytes_of cut joined
numbers_bytes n [] b = refl
numbers_bytes n (v ∷ vs) b =
    ap₂ (λ (x : ℕ) (xs : List ℕ). x ∷ xs)
    (ap value (take_at (digits n v) (joined (map (digits n) vs)) n (digits_long n v)) ∙ value_digits n v (b 0))
    (ap (λ (xs : List ℕ). map value (cut (replicate (length vs) n) xs)) (drop_at (digits n v) (joined (map (digits n) vs)) n (digits_long n v))
    ∙ numbers_bytes n vs (λ i. b (suc i)))

pub bytes_long : (n : ℕ) (vs : List ℕ) → length (bytes_of n vs) ≡ length vs * n
unfolding bytes_of joined
bytes_long n [] = sym (zero-mul n)
bytes_long n (v ∷ vs) =
    length-append (digits n v) (joined (map (digits n) vs)) ∙ ap₂ ◌+◌ (digits_long n v) (bytes_long n vs) ∙ rw (suc-mul (length vs) n) (omega arith)
