-- The lines that a set has in some ways, and how an access or a flush moves their number: lines in, lines out.
use mathlib.Core.Path.{◌≡◌, refl, sym, ap, ◌∙◌}
use mathlib.Core.Bool.{Bool, true, false, cond, not, ◌&&◌}
use Prim.Native.Nat.{ℕ, ◌+◌, ◌≤◌, ◌<◌}
use native.Mathlib.Nat.{lt_of_lt_of_le}
use native.Mathlib.Omega.{arith}
use lib.Dec.{eqb}
use lib.ListN.{length, length-set}
use borrow.Author.Tests.{eq-eqb, ne_eqb}
use Rattle.waymap.specs.Bits.{Bits, bit, digit, put}
use Rattle.waymap.specs.Encoder.{encode}
use Rattle.waymap.proofs.Booleans.{cases, and_left, and_right, not_both}
use Rattle.waymap.proofs.EncoderLaws.{encode_found}
use Rattle.waymap.proofs.WayLaws.{none_at, count_ext, count_none, count_le, count_one, count_mono}
use Rattle.replacement.specs.Rule.{Rule}
use Rattle.replacement.specs.Isolates.{Isolates}
use Rattle.policy.specs.declared.Maps.{Maps}
use Rattle.policy.specs.Policy.{Cut}
use Rattle.lookup.proofs.LookupLaws.{hit_lt, hit_own, hit_valid}
use Rattle.command.specs.declared.Answer.{Answer}
use Rattle.command.specs.declared.Answer.TheVariants.{Hit, Fill, Evict, Pass, Flush, Absent, Policy, Refused}
use Rattle.row.specs.Row.{Row, ways, lines_in, is_hit, hit_way, hit_at, vacant, filled, fill_at, evict_at, access, flush_at, flush}
use Rattle.row.specs.Statements.{came, went, AccessLines, FlushLines}
use Rattle.row.proofs.LineLaws.{put_bit, access_cases}

-- ---- lines in some ways

-- no more than there are ways
pub lines_most : (map : Bits) (r : Row) → lines_in map r ≤ ways r
unfolding lines_in
lines_most map r = count_le (ways r) (λ (w : ℕ). map w && bit r.valid w)

-- none where none of these ways is valid
pub lines_none : (map : Bits) (r : Row) → ((w : ℕ) → w < ways r → map w ≡ true → bit r.valid w ≡ false) → lines_in map r ≡ 0
unfolding lines_in
lines_none map r e = count_none (ways r) (λ w h. cases (map w) (λ t. rw t (e w h t)) (λ t. rw t))

-- they go by the valid bits of these ways
pub lines_same : (map : Bits) (r q : Row) → ways r ≡ ways q → ((w : ℕ) → w < ways q → map w ≡ true → bit r.valid w ≡ bit q.valid w)
    → lines_in map r ≡ lines_in map q
unfolding lines_in
lines_same map r q long e = rw long (count_ext (ways q) (λ w h. cases (map w) (λ t. rw t (e w h t)) (λ t. rw t)))

-- of valid lines in other ways there are no more, if these ways have them too
pub lines_mono : (map other : Bits) (r : Row) → ((w : ℕ) → w < ways r → map w ≡ true → bit r.valid w ≡ true → other w ≡ true)
    → lines_in map r ≤ lines_in other r
unfolding lines_in
lines_mono map other r e =
    count_mono (ways r) (λ (w : ℕ). map w && bit r.valid w) (λ (w : ℕ). other w && bit r.valid w)
    (λ w h t.
    let valid : bit r.valid w ≡ true = and_right (map w) (bit r.valid w) t in
    rw (valid, e w h (and_left (map w) (bit r.valid w) t) valid))

-- one of these ways is made valid or invalid
pub lines_put : (map : Bits) (r q : Row) (w : ℕ) (on : Bool) → ways q ≡ ways r → ways r ≤ 16 → q.valid ≡ put w on r.valid → w < ways r → map w ≡ true
    → lines_in map q + digit (bit r.valid w) ≡ lines_in map r + digit on
unfolding lines_in
lines_put map r q w on long few e h t =
    let made : (i : ℕ) → i < ways r → bit q.valid i ≡ cond (eqb w i) on (bit r.valid i) =
    λ i k. rw e (put_bit w on r.valid i (lt_of_lt_of_le k few)) in
    let here : bit q.valid w ≡ on = made w h ∙ rw (eq-eqb w w refl) in
    let one = count_one (ways r) (λ (i : ℕ). map i && bit q.valid i) (λ (i : ℕ). map i && bit r.valid i) w h
    (λ i k n. ap (λ (b : Bool). map i && b) (made i k ∙ rw (ne_eqb w i n))) in
    rw long (rw (t, here) at one)

-- what an answer brings in is one line at most
pub came_one : (a : Answer) → came a ≤ 1
came_one (Fill w) = omega arith
came_one (Evict w tag dirty) = omega arith
came_one (Hit w) = omega arith
came_one Pass = omega arith
came_one (Flush w dirty) = omega arith
came_one Absent = omega arith
came_one (Policy dropped dirty) = omega arith
came_one (Refused n) = omega arith

-- ---- an access and a flush: the lines before with those that came are the lines after with those that went

module _ {W : ℕ} {R : Rule} (I : Isolates W R) (few : W ≤ 16) (p : Maps) (c : Cut W p) (tag : ℕ) (r : Row) (long : length r.tags ≡ W) where
  narrow : ways r ≤ 16
  narrow = rw long few

  -- a way of the fill map is filled, and was valid or not
  filled_lines : (store : Bool) (w x : ℕ) (was : Bool) → w < ways r → bit p.fill w ≡ true → bit r.valid w ≡ was
      → lines_in (bit p.hit) (filled R p.fill tag store w x r) + digit was ≡ lines_in (bit p.hit) r + 1
  unfolding filled
  filled_lines store w x was h t e =
      rw (← e)
      (lines_put (bit p.hit) r (filled R p.fill tag store w x r) w true (length-set r.tags w tag) narrow refl h (c.part w t))

  access_lines_in : (store : Bool) → lines_in (bit p.hit) r + came (access R p tag store r).answer
      ≡ lines_in (bit p.hit) (access R p tag store r).row + went (access R p tag store r).answer
  unfolding hit_at fill_at evict_at vacant lines_in
  access_lines_in store =
      access_cases R p tag store r r
      (λ e f. lines_in (bit p.hit) r + came e.answer ≡ lines_in (bit p.hit) e.row + went e.answer) refl refl refl
      (λ t. refl)
      refl
      (λ t. let w : ℕ = encode (ways r) (vacant r p.fill) in
      let found = encode_found (ways r) (vacant r p.fill) t in
      omega (
        arith,
        filled_lines store w r.word false found.0 (and_left (bit p.fill w) (not (bit r.valid w)) found.1)
            (not_true (bit r.valid w) (and_right (bit p.fill w) (not (bit r.valid w)) found.1)),
      ))
      (λ t u. let w : ℕ = R.victim p.fill r.word in
      let chosen = I.victim_in p.fill r.word (rw long at t) in
      omega (
        arith,
        filled_lines store w (R.before p.fill r.word) true (rw long chosen.0) chosen.1
            (not_false (bit r.valid w)
            (not_both (bit p.fill w) (not (bit r.valid w)) (none_at (ways r) (vacant r p.fill) w u (rw long chosen.0)) chosen.1)),
      ))
    where
      not_true : (b : Bool) → not b ≡ true → b ≡ false
      not_true true e = sym e
      not_true false e = refl

      not_false : (b : Bool) → not b ≡ false → b ≡ true
      not_false true e = refl
      not_false false e = sym e

  flush_lines_in : lines_in (bit p.hit) r + came (flush p tag r).answer ≡ lines_in (bit p.hit) (flush p tag r).row + went (flush p tag r).answer
  unfolding flush flush_at
  flush_lines_in =
      cases (is_hit r p.hit tag)
      (λ t. let w : ℕ = hit_way r p.hit tag in
      let gone = lines_put (bit p.hit) r (flush_at true w r).row w false refl narrow refl (hit_lt r.tags r.valid p.hit tag t)
      (hit_own r.tags r.valid p.hit tag t) in
      rw t (omega (arith, rw (hit_valid r.tags r.valid p.hit tag t) at gone)))
      (λ t. rw t)

pub access_lines : AccessLines
access_lines W R = access_lines_in

pub flush_lines : FlushLines
flush_lines W R = flush_lines_in
