-- Text put into an output, piece after piece.
use mathlib.Core.Path.{◌≡◌, refl, sym, ap, ap₂, ◌∙◌}
use mathlib.Core.List.{List, [], ◌∷◌, ◌++◌, map, append_assoc, append-nil}
use Prim.Native.Nat.{ℕ, zero, suc, ◌+◌, ◌-◌, ◌*◌, ◌/◌, ◌%◌, ◌^◌, ◌≤◌, ◌<◌}
use native.Mathlib.Nat.{add-zero, pow-suc, pow-le-pow_right, not-suc-le-zero, le_of_suc-le-suc, one-le-pow, mod-eq_of_lt}
use native.Mathlib.Numerals.{add-one}
use native.Mathlib.Omega.{arith}
use mir.Syntax.{w64}
use mir.Val.{Fits}
use lib.Dec.{ltb}
use lib.ListN.{length, take, drop, set, get_or, length-append, length-drop, length-map, drop_of_length-le, length-set}
use lib.Seq.{sets, sets-eq, length-sets}
use borrow.Rule.Slice.PartMut.{put_mid, Post-is}
use borrow.Author.Tests.{ltb-true, ltb-false, lt-ltb, le-ltb}
use Rattle.waymap.proofs.Booleans.{cases}
use Rattle.io.specs.Digits.{last_digits as digits, IsDigitCount}
use Rattle.command.proofs.ListLaws.{drop_next}
use Rattle.listing.specs.Listing.{decimal_by, decimal, line}
use Rattle.trace.specs.Inside.{Written, written_of, append, end_of}

-- ---- pieces

next_place : (i n : ℕ) → i + suc n ≡ suc i + n
next_place i n = omega arith

sets_append : (l : List ℕ) (i : ℕ) (xs ys : List ℕ) → sets (sets l i xs) (i + length xs) ys ≡ sets l i (xs ++ ys)
sets_append l i [] ys = rw (add-zero i)
sets_append l i (x ∷ xs) ys = rw (next_place i (length xs)) (sets_append (set l i x) (suc i) xs ys)

-- One piece after another is the two joined.
pub append_append : (xs ys : List ℕ) (w : Written) → append ys (append xs w) ≡ append (xs ++ ys) w
unfolding append
append_append xs ys w = ap₂ written_of (omega (arith, length-append xs ys)) (sets_append w.out w.at xs ys)

pub append_none : (w : Written) → append [] w ≡ w
unfolding append
append_none w = ap (λ (n : ℕ). written_of n w.out) (add-zero w.at)

-- A byte is a piece.
pub append_byte : (x at : ℕ) (out : List ℕ) → append (x ∷ []) (written_of at out) ≡ written_of (at + 1) (set out at x)
unfolding append
append_byte x at out = refl

-- Where a piece ends; and the output is as long as before.
pub piece_end : (xs : List ℕ) (w : Written) {next : ℕ} {out : List ℕ} → written_of next out ≡ append xs w → next ≡ w.at + length xs
unfolding append
piece_end xs w e = ap (λ (v : Written). v.at) e

pub piece_long : (xs : List ℕ) (w : Written) {next : ℕ} {out : List ℕ} → written_of next out ≡ append xs w → length out ≡ length w.out
unfolding append
piece_long xs w e = ap (λ (v : Written). length v.out) e ∙ length-sets w.out w.at xs

-- ---- bytes

-- A part of the output that is written whole is a piece.
pub put_is : (at : ℕ) (bytes out : List ℕ) {new : List ℕ} → at + length bytes ≤ length out → new ≡ bytes
    → written_of (at + length bytes) (put_mid at (at + length bytes - at) out new) ≡ append bytes (written_of at out)
unfolding append
put_is at bytes out fits e =
    rw e
    (ap (written_of (at + length bytes))
    (ap (λ (behind : List ℕ). take at out ++ (bytes ++ behind)) (Post-is at (at + length bytes) out (omega arith))
    ∙ sym (append_assoc (take at out) bytes (drop (at + length bytes) out)) ∙ sym (sets-eq bytes out at fits)))

-- ---- numbers

-- The fewest digits are document 01's.
digits_decimal : (k r n : ℕ) → r ≤ k → IsDigitCount 10 1 n r → digits 10 r n ≡ decimal_by k n
unfolding decimal_by
digits_decimal k zero n h f = absurd (not-suc-le-zero f.0)
digits_decimal zero (suc r) n h f = absurd (not-suc-le-zero h)
digits_decimal (suc k) (suc zero) n h f = rw (lt-ltb n 10 f.1, lt-ltb (n % 10) 10 (omega arith))
digits_decimal (suc k) (suc (suc r)) n h f =
    let fewer : suc (suc r) - 1 ≡ suc r = omega arith in
    let many : 10 ^ suc r ≤ n = (rw fewer at f).2 (omega arith) in
    let some : 1 ≤ 10 ^ r = one-le-pow r 10 (omega arith) in
    let fewest : suc r - 1 ≡ r = omega arith in
    rw (le-ltb n 10 (omega (arith, many, some, pow-suc 10 r)), lt-ltb (n % 10) 10 (omega arith))
    (ap (λ (xs : List ℕ). xs ++ (48 + n % 10) ∷ [])
    (digits_decimal k (suc r) (n / 10) (le_of_suc-le-suc h)
    (omega arith, omega (arith, f.1, pow-suc 10 (suc r)), λ more. rw fewest (omega (arith, many, pow-suc 10 r)))))

-- Twenty digits are enough for 64 bits.
pub few_digits : (n r : ℕ) → Fits w64 n → IsDigitCount 10 1 n r → r ≤ 20
few_digits n r b f = cases (ltb 20 r)
    (λ y.
    let more : 20 < r = ltb-true 20 r y in
    let long : 20 ≤ r - 1 = omega arith in
    let most : 10 ^ 20 ≤ 10 ^ (r - 1) = pow-le-pow_right {n = 10} (omega arith) long in
    omega (arith, b.fits, f.2 (omega arith)))
    (λ y. ltb-false 20 r y)

pub decimal_is : (n r : ℕ) → r ≤ 20 → IsDigitCount 10 1 n r → digits 10 r n ≡ decimal n
decimal_is n r h f = digits_decimal 20 r n h f

-- ---- lines

line_cons : (x : List ℕ) (rest : List (List ℕ)) → line (x ∷ rest) ≡ (x ++ end_of 0 (suc (length rest)) ∷ []) ++ line rest
unfolding line end_of
line_cons x [] = sym (append-nil (x ++ 10 ∷ []))
line_cons x (y ∷ rest) = rw (lt-ltb 1 (suc (suc (length rest))) (omega arith)) (sym (append_assoc x (32 ∷ []) (line (y ∷ rest))))

-- A piece and a byte behind it.
pub put_byte : (xs : List ℕ) (w : Written) {out : List ℕ} {next : ℕ} (x : ℕ) → written_of next out ≡ append xs w
    → written_of (next + 1) (set out next x) ≡ append (xs ++ x ∷ []) w
put_byte xs w {out} {next} x e = sym (append_byte x next out) ∙ ap (append (x ∷ [])) e ∙ append_append xs (x ∷ []) w

-- A number below 10 is one digit.
digit_is : (n : ℕ) → n < 10 → decimal n ≡ (48 + n) ∷ []
unfolding decimal_by
digit_is n h = rw (lt-ltb n 10 h, mod-eq_of_lt h)

pub digit_put : (at n end : ℕ) (out : List ℕ) → n < 10
    → written_of (at + 2) (set (set out at (48 + n)) (at + 1) end) ≡ append (decimal n ++ end ∷ []) (written_of at out)
digit_put at n end out h =
    let w : Written = written_of at out in
    let next : at + 2 ≡ at + 1 + 1 = omega arith in
    ap (λ (k : ℕ). written_of k (set (set out at (48 + n)) (at + 1) end)) next
    ∙ put_byte ((48 + n) ∷ []) w end (sym (append_byte (48 + n) at out))
    ∙ ap (λ (ds : List ℕ). append (ds ++ end ∷ []) w) (sym (digit_is n h))

-- A number from 10 to 99 is two digits.
two_are : (n : ℕ) → 10 ≤ n → n < 100 → decimal n ≡ (48 + n / 10) ∷ (48 + n % 10) ∷ []
unfolding decimal_by
two_are n h k =
    let tens : n / 10 < 10 = omega arith in
    rw (le-ltb n 10 h, lt-ltb (n / 10) 10 tens, mod-eq_of_lt tens)

pub two_put : (at n end : ℕ) (out : List ℕ) → 10 ≤ n → n < 100
    → written_of (at + 3) (set (set (set out at (48 + n / 10)) (at + 1) (48 + n % 10)) (at + 2) end) ≡ append (decimal n ++ end ∷ []) (written_of at out)
two_put at n end out h k =
    let w : Written = written_of at out in
    let second : at + 2 ≡ at + 1 + 1 = omega arith in
    let third : at + 3 ≡ at + 1 + 1 + 1 = omega arith in
    ap₂ (λ (i j : ℕ). written_of i (set (set (set out at (48 + n / 10)) (at + 1) (48 + n % 10)) j end)) third second
    ∙ put_byte ((48 + n / 10) ∷ (48 + n % 10) ∷ []) w end
    (put_byte ((48 + n / 10) ∷ []) w (48 + n % 10) (sym (append_byte (48 + n / 10) at out)))
    ∙ ap (λ (ds : List ℕ). append (ds ++ end ∷ []) w) (sym (two_are n h k))

pub third_inside : (at u v : ℕ) (out : List ℕ) → at + 21 ≤ length out → at + 2 < length (set (set out at u) (at + 1) v)
third_inside at u v out h = rw (length-set (set out at u) (at + 1) v, length-set out at u) (omega arith)

pub second_inside : (at v : ℕ) (out : List ℕ) → at + 21 ≤ length out → at + 1 < length (set out at v)
second_inside at v out h = rw (length-set out at v) (omega arith)

-- At most twenty digits, put from `at` on, and a byte behind them.
module _ (at : ℕ) {digits bytes long : ℕ} (few : digits ≤ 20) (all : digits ≡ bytes) (room : at + 21 ≤ long) where
  pub digits_fit : at + bytes ≤ long
  digits_fit = omega arith

  pub end_inside : {next now : ℕ} → next ≡ at + bytes → now ≡ long → next < now
  end_inside e l = omega arith

  pub number_short : {next : ℕ} → next ≡ at + bytes → next + 1 ≤ at + 21
  number_short e = omega arith

pub number_is : (w : Written) {bytes out : List ℕ} {n r next : ℕ} (end : ℕ) → r ≤ 20 → IsDigitCount 10 1 n r → bytes ≡ digits 10 r n
    → written_of next out ≡ append bytes w → written_of (next + 1) (set out next end) ≡ append (decimal n ++ end ∷ []) w
number_is w {bytes} {out} {n} {r} {next} end h f b e =
    put_byte (decimal n) w end (e ∙ ap (λ (xs : List ℕ). append xs w) (b ∙ decimal_is n r h f))

-- ---- a line of numbers

-- After i numbers: the numbers to come make the whole.
pub record Lining (values out₀ : List ℕ) (at : ℕ) (out : List ℕ) (next i : ℕ) : Type 0 where
  pub inside : i ≤ length values
  pub fits : at + 21 * length values ≤ length out₀
  pub behind : next ≤ at + 21 * i
  pub long : length out ≡ length out₀
  pub is : append (line (map decimal (drop i values))) (written_of next out) ≡ append (line (map decimal values)) (written_of at out₀)

pub line_begin : (values out : List ℕ) (at : ℕ) → at + 21 * length values ≤ length out → Lining values out at out at 0
line_begin values out at h = record { inside = omega arith; fits = h; behind = omega arith; long = refl; is = refl }

-- Room for the next number.
pub line_room : {values out₀ out : List ℕ} {at next i : ℕ} → Lining values out₀ at out next i → i < length values → next + 21 ≤ length out
line_room p h = omega arith

pub line_short : {values out₀ out : List ℕ} {at next i : ℕ} → Lining values out₀ at out next i → next ≤ at + 21 * length values
line_short p = omega arith

-- What stands after number i, by the numbers to come.
end_after : (values : List ℕ) (i : ℕ) → i < length values → end_of 0 (suc (length (map decimal (drop (i + 1) values)))) ≡ end_of i (length values)
unfolding end_of
end_after values i h =
    let n : length (map decimal (drop (i + 1) values)) ≡ length values - (i + 1) = length-map (drop (i + 1) values) decimal ∙ length-drop (i + 1) values in
    rw n
    (cases (ltb (i + 1) (length values))
    (λ y. rw (y, lt-ltb 1 (suc (length values - (i + 1))) (omega (arith, ltb-true (i + 1) (length values) y))))
    (λ y. rw (y, le-ltb 1 (suc (length values - (i + 1))) (omega (arith, ltb-false (i + 1) (length values) y)))))

pub line_turned : {values out₀ out new : List ℕ} {at next after i end : ℕ} (z : ℕ) → Lining values out₀ at out next i → i < length values
    → end ≡ end_of i (length values) → written_of after new ≡ append (decimal (get_or values i z) ++ end ∷ []) (written_of next out)
    → after ≤ next + 21 → length new ≡ length out → Lining values out₀ at new after (i + 1)
line_turned {values} {out₀} {out} {new} {at} {next} {after} {i} z p h ends e b l =
    let v : ℕ = get_or values i z in
    let rest : List (List ℕ) = map decimal (drop (i + 1) values) in
    let w : Written = written_of next out in
    record {
      inside = omega arith;
      fits = p.fits;
      behind = omega (arith, p.behind);
      long = l ∙ p.long;
      is =
          ap (append (line rest)) (e ∙ ap (λ (x : ℕ). append (decimal v ++ x ∷ []) w) ends)
          ∙ append_append (decimal v ++ end_of i (length values) ∷ []) (line rest) w
          ∙ ap (λ (x : ℕ). append ((decimal v ++ x ∷ []) ++ line rest) w) (sym (end_after values i h))
          ∙ ap (λ (xs : List ℕ). append xs w) (sym (line_cons (decimal v) rest))
          ∙ ap (λ (xs : List ℕ). append (line (map decimal xs)) w) (sym (drop_next i values z h))
          ∙ p.is;
    }

pub line_end : {values out₀ out : List ℕ} {at next i : ℕ} → Lining values out₀ at out next i → length values ≤ i
    → written_of next out ≡ append (line (map decimal values)) (written_of at out₀)
unfolding line
line_end {values} {out₀} {out} {at} {next} {i} p h =
    sym (ap (λ (xs : List ℕ). append (line (map decimal xs)) (written_of next out)) (drop_of_length-le values h) ∙ append_none (written_of next out))
    ∙ p.is

-- ---- a line of a word and numbers

pub told_is : (word values : List ℕ) (w : Written) {out last : List ℕ} {next r end : ℕ} → written_of next out ≡ append word w
    → end ≡ end_of 0 (length values + 1) → written_of r last ≡ append (line (map decimal values)) (written_of (next + 1) (set out next end))
    → written_of r last ≡ append (line (word ∷ map decimal values)) w
told_is word values w {out} {last} {next} {r} {end} e ends f =
    let rest : List (List ℕ) = map decimal values in
    let n : length values + 1 ≡ suc (length rest) = add-one (length values) ∙ ap suc (sym (length-map values decimal)) in
    f
    ∙ ap (append (line rest)) (put_byte word w end e)
    ∙ append_append (word ++ end ∷ []) (line rest) w
    ∙ ap (λ (x : ℕ). append ((word ++ x ∷ []) ++ line rest) w) (ends ∙ ap (end_of 0) n)
    ∙ ap (λ (xs : List ℕ). append xs w) (sym (line_cons word rest))

-- A word, the byte behind it, and the numbers' room.
module _ (at word count : ℕ) {next now long : ℕ} (put : next ≡ at + word) (same : now ≡ long)
    (room : at + (word + (1 + 21 * count)) ≤ long) where
  pub word_inside : next < now
  word_inside = omega arith

  pub numbers_room : {then : ℕ} → then ≡ now → next + 1 + 21 * count ≤ then
  numbers_room e = omega arith

  pub told_short : {r : ℕ} → r ≤ next + 1 + 21 * count → r ≤ at + (word + (1 + 21 * count))
  told_short h = omega arith
