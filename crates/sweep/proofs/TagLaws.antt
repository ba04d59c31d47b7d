-- The tags of a set: a search among them, and some of them made zero.
use Rattle.std.proofs.Common.{◌≡◌, ℕ, zero, suc, ◌-◌, ◌^◌, ◌<◌, Bool, true, false, cond, not, ◌&&◌, eqb, ltb, List, [], ◌∷◌, length, get_or, set, sym, refl, ap, ◌∙◌, arith, length-set, get_or-set_other, get_or-set_same, ext_get_or, ltb-false, ltb-true, eqb-true}
use mathlib.Core.Bool.{and-true, and-false, false≢true}
use lib.Bits.{bit_and}
use borrow.Author.Tests.{eqb-false}
use Rattle.waymap.specs.Bits.{Bits, bit, lowest}
use Rattle.waymap.proofs.Booleans.{cases, and_left}
use Rattle.waymap.proofs.BitLaws.{bit_none}
use Rattle.waymap.proofs.WordLaws.{bit_high}
use Rattle.waymap.proofs.LowestLaws.{lowest_in, rest_bit, rest_lt}
use Rattle.sweep.specs.Clean.{wiped}

pub wiped_length : (gone : Bits) (ts : List ℕ) → length (wiped gone ts) ≡ length ts
unfolding wiped
wiped_length gone [] = refl
wiped_length gone (t ∷ ts) = ap suc (wiped_length (λ (w : ℕ). gone (suc w)) ts)

pub wiped_at : (gone : Bits) (ts : List ℕ) (w : ℕ) → get_or (wiped gone ts) w 0 ≡ cond (gone w) 0 (get_or ts w 0)
unfolding wiped
wiped_at gone [] w = cases (gone w) (λ t. rw t) (λ t. rw t)
wiped_at gone (t ∷ ts) zero = refl
wiped_at gone (t ∷ ts) (suc w) = wiped_at (λ (v : ℕ). gone (suc v)) ts w

-- What is left of the map is still to be done; its other ways' tags are zero, and all others as they were.
pub record Wiping (map : ℕ) (old new : List ℕ) (rest : ℕ) : Type 0 where
  pub long : length new ≡ length old
  pub small : map < 2 ^ 16
  pub within : map < 2 ^ length old
  pub part : (w : ℕ) → bit rest w ≡ true → bit map w ≡ true
  pub rest_lt : rest < 2 ^ 16
  pub is : (w : ℕ) → get_or new w 0 ≡ cond (bit map w && not (bit rest w)) 0 (get_or old w 0)

pub begin : (map : ℕ) (old : List ℕ) → map < 2 ^ 16 → map < 2 ^ length old → Wiping map old old map
begin map old h k = record {
  long = refl;
  small = h;
  within = k;
  part = λ w e. e;
  rest_lt = h;
  is = λ w. rw (and_not (bit map w));
}
  where
    and_not : (b : Bool) → (b && not b) ≡ false
    and_not true = refl
    and_not false = refl

module _ {map : ℕ} {old new : List ℕ} {rest way : ℕ} (l : Wiping map old new rest) (some : rest ≡ 0 → ⊥) (low : way ≡ lowest 16 (bit rest)) where
  -- the way is one of the tags'
  pub way_lt : way < length new
  way_lt =
      cases (ltb way (length new))
      (λ t. ltb-true way (length new) t)
      (λ t. absurd (false≢true
      (sym (bit_high (length old) map way l.within (omega (arith, l.long, ltb-false way (length new) t)))
      ∙ l.part way (lowest_in 16 _ _ l.rest_lt some low))))

  pub turned : Wiping map old (set new way 0) (bit_and rest (rest - 1))
  turned = record {
    long = length-set new way 0 ∙ l.long;
    small = l.small;
    within = l.within;
    part = λ w e. l.part w (and_left (bit rest w) (not (eqb way w)) (sym (rest_bit 16 _ _ l.rest_lt some low w) ∙ e));
    rest_lt = rest_lt 16 l.rest_lt some low;
    is = λ w.
        rw (rest_bit 16 _ _ l.rest_lt some low w)
        (cases (eqb way w)
        (λ t. let same : way ≡ w = eqb-true way w t in
        rw (t, and-false (bit rest w), ← same, l.part way (lowest_in 16 _ _ l.rest_lt some low)) (get_or-set_same new way 0 0 way_lt))
        (λ t. rw (t, and-true (bit rest w)) (get_or-set_other new way w 0 0 (λ e. eqb-false way w t (sym e)) ∙ l.is w)));
  }

pub end : {map : ℕ} {old new : List ℕ} {rest : ℕ} → Wiping map old new rest → rest ≡ 0 → new ≡ wiped (bit map) old
end {map} {old} {new} {rest} l e =
    ext_get_or 0 new (wiped (bit map) old) (l.long ∙ sym (wiped_length (bit map) old))
    (λ i k. l.is i ∙ rw (e, bit_none i, and-true (bit map i)) (sym (wiped_at (bit map) old i)))
