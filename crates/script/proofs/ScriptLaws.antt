-- Laws of lines and numbers: for each loop what a turn keeps and what its ends give, and that a line has a byte at least.
use mathlib.Core.Path.{◌≡◌, refl, sym, ap, ◌∙◌}
use mathlib.Core.Bool.{Bool, true, false, cond, not}
use mathlib.Core.List.{List, [], ◌∷◌, ◌++◌, append-nil, append_assoc}
use Prim.Native.Nat.{ℕ, zero, suc, ◌+◌, ◌-◌, ◌*◌, ◌≤◌, ◌<◌, min}
use native.Mathlib.Nat.{not-suc-le-zero, le_of_suc-le-suc}
use native.Mathlib.Numerals.{add-one}
use native.Mathlib.Omega.{arith}
use lib.Dec.{eqb, ltb}
use lib.ListN.{length, drop, get_or, set, take, length-set, length-drop, drop_of_length-le}
use lib.Seq.{drop-cons, drop-nil, take_all, take-suc-set}
use borrow.Author.Tests.{eq-eqb, ne_eqb, lt-ltb, le-ltb, ltb-true, ltb-false}
use Rattle.std.proofs.Common.{Some, None, position}
use Rattle.std.specs.List.{position_or_len}
use Rattle.script.specs.Script.{behind_first, line_after, with_byte, number_from, number_at, numbers_from, numbers_of}

-- ---- the place behind a byte

-- The byte is looked for in what lies from the place on.
behind_drop : (stop : ℕ) (bytes : List ℕ) (from : ℕ)
    → behind_first stop bytes from ≡ min from (length bytes) + behind_first stop (drop from bytes) 0
unfolding behind_first
behind_drop stop [] from = rw (drop-nil {A = ℕ} from) (omega arith)
behind_drop stop (b ∷ bytes) zero = omega arith
behind_drop stop (b ∷ bytes) (suc from) = omega (arith, behind_drop stop bytes from)

abbrev first_place : ℕ → List ℕ → ℕ
first_place stop bytes = position_or_len (λ b. eqb b stop) bytes

either_place : (t : Bool) (f p n : ℕ) → f ≡ min (p + 1) n → cond t 1 (suc f) ≡ min (cond (not t) (1 + p) 0 + 1) (suc n)
either_place true f p n e = omega arith
either_place false f p n e = omega arith

behind_first_place : (stop : ℕ) (bytes : List ℕ) → behind_first stop bytes 0 ≡ min (first_place stop bytes + 1) (length bytes)
unfolding behind_first
behind_first_place stop [] = omega arith
behind_first_place stop (b ∷ bytes) =
    either_place (eqb b stop) (behind_first stop bytes 0) (first_place stop bytes) (length bytes) (behind_first_place stop bytes)

some_is : (t : Bool) (p m : ℕ) → cond t (Some p) None ≡ Some m → (t ≡ true) × (p ≡ m)
some_is true p m e = (refl, cc)
some_is false p m e = absurd cc

none_is : (t : Bool) (p : ℕ) → cond t (Some p) None ≡ None → t ≡ false
none_is true p e = absurd cc
none_is false p e = refl

pub found_behind : (stop : ℕ) (bytes : List ℕ) (from : ℕ) {m : ℕ} → position (λ b. eqb b stop) (drop from bytes) ≡ Some m
    → from + m + 1 ≡ behind_first stop bytes from
found_behind stop bytes from {m} e =
    let rest : List ℕ = drop from bytes in
    let found = some_is (ltb (first_place stop rest) (length rest)) (first_place stop rest) m e in
    let within : first_place stop rest < length rest = ltb-true (first_place stop rest) (length rest) found.0 in
    omega (arith, within, found.1, behind_drop stop bytes from, behind_first_place stop rest, length-drop from bytes)

pub none_behind : (stop : ℕ) (bytes : List ℕ) (from : ℕ) → position (λ b. eqb b stop) (drop from bytes) ≡ None → length bytes ≡ behind_first stop bytes from
none_behind stop bytes from e =
    let rest : List ℕ = drop from bytes in
    let beyond : length rest ≤ first_place stop rest = ltb-false (first_place stop rest) (length rest)
    (none_is (ltb (first_place stop rest) (length rest)) (first_place stop rest) e) in
    omega (arith, beyond, behind_drop stop bytes from, behind_first_place stop rest, length-drop from bytes)

either_short : (t : Bool) (m n : ℕ) → m ≤ n → cond t 1 (suc m) ≤ suc n
either_short true m n h = omega arith
either_short false m n h = omega arith

either_grows : (t : Bool) (m : ℕ) → 0 < cond t 1 (suc m)
either_grows true m = omega arith
either_grows false m = omega arith

behind_short : (stop : ℕ) (bytes : List ℕ) (from : ℕ) → behind_first stop bytes from ≤ length bytes
unfolding behind_first
behind_short stop [] from = omega arith
behind_short stop (b ∷ bytes) zero = either_short (eqb b stop) _ _ (behind_short stop bytes zero)
behind_short stop (b ∷ bytes) (suc from) = omega (arith, behind_short stop bytes from)

behind_grows : (stop : ℕ) (bytes : List ℕ) (from : ℕ) → from < length bytes → from < behind_first stop bytes from
unfolding behind_first
behind_grows stop [] from h = absurd (not-suc-le-zero h)
behind_grows stop (b ∷ bytes) zero h = either_grows (eqb b stop) (behind_first stop bytes zero)
behind_grows stop (b ∷ bytes) (suc from) h = omega (arith, behind_grows stop bytes from (le_of_suc-le-suc h))

-- ---- lines

-- A line ends within the bytes.
pub line_short : (bytes : List ℕ) (from : ℕ) → line_after bytes from ≤ length bytes
unfolding line_after
line_short bytes from = behind_short 10 bytes from

-- The next line begins further on, as long as there are bytes: who goes from line to line comes to the end.
pub line_grows : (bytes : List ℕ) (from : ℕ) → from < length bytes → from < line_after bytes from
unfolding line_after
line_grows bytes from h = behind_grows 10 bytes from h

pub line_is : (bytes : List ℕ) (from : ℕ) {r : ℕ} → r ≡ behind_first 10 bytes from → (r ≡ line_after bytes from) × (r ≤ length bytes)
unfolding line_after
line_is bytes from e = (e, rw e (behind_short 10 bytes from))

-- ---- a number's digits

pub no_digit_below : (n b : ℕ) → b < 48 → n ≡ with_byte n b
unfolding with_byte
no_digit_below n b h = rw (lt-ltb b 48 h)

pub no_digit_above : (n b : ℕ) → 57 < b → n ≡ with_byte n b
unfolding with_byte
no_digit_above n b h = rw (le-ltb b 48 (omega arith), lt-ltb 57 b h)

pub digit_joined : (n b : ℕ) {d : ℕ} → 48 ≤ b → b ≤ 57 → n < 1844674407370955161 → d ≡ b - 48 → 10 * n + d ≡ with_byte n b
unfolding with_byte
digit_joined n b low high room e = rw (le-ltb b 48 low, le-ltb 57 b high, lt-ltb n 1844674407370955161 room, e)

pub no_room : (n b : ℕ) → 48 ≤ b → b ≤ 57 → 1844674407370955161 ≤ n → n ≡ with_byte n b
unfolding with_byte
no_room n b low high full = rw (le-ltb b 48 low, le-ltb 57 b high, le-ltb n 1844674407370955161 full)

-- ---- the number at a place

-- Before byte i: the bytes to come make the whole.
pub record Reading (line : List ℕ) (from n i : ℕ) : Type 0 where
  pub is : number_from n (drop i line) ≡ number_at line from

pub read_begin : (line : List ℕ) (from : ℕ) → Reading line from 0 from
unfolding number_at
read_begin line from = record { is = refl }

next_byte : (n : ℕ) (line : List ℕ) (i : ℕ) → i < length line
    → number_from n (drop i line) ≡ number_from n (get_or line i 0 ∷ drop (i + 1) line)
next_byte n line i h = ap (number_from n) (drop-cons line i 0 h ∙ rw (add-one i))

pub read_turned : {line : List ℕ} {from n i next : ℕ} → Reading line from n i → i < length line → (get_or line i 0 ≡ 32 → ⊥)
    → next ≡ with_byte n (get_or line i 0) → Reading line from next (i + 1)
unfolding number_from
read_turned {line} {from} {n} {i} p h e j = record { is = rw j (sym (next_byte n line i h ∙ rw (ne_eqb (get_or line i 0) 32 e)) ∙ p.is) }

pub read_space : {line : List ℕ} {from n i : ℕ} → Reading line from n i → i < length line → get_or line i 0 ≡ 32 → n ≡ number_at line from
unfolding number_from
read_space {line} {from} {n} {i} p h e = sym (next_byte n line i h ∙ rw (eq-eqb (get_or line i 0) 32 e)) ∙ p.is

pub read_end : {line : List ℕ} {from n i : ℕ} → Reading line from n i → length line ≤ i → n ≡ number_at line from
unfolding number_from
read_end {line} {from} {n} {i} p h = sym (ap (number_from n) (drop_of_length-le line h)) ∙ p.is

-- By what lies from the place on.
pub number_rest : (line : List ℕ) (place : ℕ) {rest : List ℕ} → rest ≡ drop place line → number_at rest 0 ≡ number_at line place
unfolding number_at
number_rest line place e = ap (number_from 0) e

-- ---- the numbers of a line

-- The first i are there, and those to come make the whole.
pub record Gathered (line numbers : List ℕ) (place i : ℕ) : Type 0 where
  pub long : length numbers ≡ 5
  pub is : take i numbers ++ numbers_from (5 - i) line place ≡ numbers_of line

pub gather_begin : (line numbers : List ℕ) → length numbers ≡ 5 → Gathered line numbers 0 0
unfolding numbers_of
gather_begin line numbers e = record { long = e; is = refl }

pub gather_turned : {line numbers : List ℕ} {place i v next : ℕ} → Gathered line numbers place i → i < 5 → v ≡ number_at line place
    → next ≡ behind_first 32 line place → Gathered line (set numbers i v) next (i + 1)
unfolding numbers_from
gather_turned {line} {numbers} {place} {i} {v} {next} g h e n =
    let left : ℕ = 5 - (i + 1) in
    let one : 5 - i ≡ suc left = omega (arith, g.long) in
    let now : take i numbers ++ (number_at line place ∷ numbers_from left line (behind_first 32 line place)) ≡ numbers_of line = rw one at g.is in
    record {
      long = length-set numbers i v ∙ g.long;
      is =
          ap (λ (k : ℕ). take k (set numbers i v) ++ numbers_from left line next) (add-one i)
          ∙ ap (λ (xs : List ℕ). xs ++ numbers_from left line next) (take-suc-set numbers i v (omega (arith, g.long)))
          ∙ append_assoc (take i numbers) (v ∷ []) (numbers_from left line next)
          ∙ rw (e, n) now;
    }

pub gather_end : {line numbers : List ℕ} {place i : ℕ} → Gathered line numbers place i → 5 ≤ i → numbers ≡ numbers_of line
unfolding numbers_from
gather_end {line} {numbers} {place} {i} g h =
    let none : 5 - i ≡ 0 = omega (arith, g.long) in
    sym (append-nil numbers) ∙ (rw (none, take_all i numbers (omega (arith, g.long))) at g.is)
