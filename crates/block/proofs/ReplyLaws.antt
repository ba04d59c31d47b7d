-- The answer as bytes.
use Rattle.std.proofs.Common.{◌≡◌, ℕ, Bool, true, false, refl, cond, eqb, List, length, get_or, take, sym, ap, ◌∙◌, arith, eq-eqb, ne_eqb}
use Rattle.command.specs.Answer.{answer_of}
use Rattle.command.specs.declared.Answer.{Answer}
use Rattle.command.specs.declared.Answer.TheVariants.{Hit, Fill, Evict, Pass, Flush, Absent, Policy, Refused}
use mir.Val.{bool_byte}
use Rattle.runs.specs.Runs.{bytes_of, put_run}
use Rattle.endian.proofs.CutLaws.{sets_all}
use Rattle.runs.proofs.RunLaws.{run_put}
use Rattle.runs.proofs.TableLaws.{bytes_long}
use Rattle.block.specs.Block.{answer_bytes, padded, number_in, filled}
use Rattle.block.specs.Inside.{replied_of, replied}

-- A truth as a number.
pub digit_is : (t : Bool) {n : ℕ} → n ≡ bool_byte t → n ≡ cond t 1 0
digit_is true e = e
digit_is false e = e

-- What is not refused has no number.
pub no_number : (a : Answer) → ((n : ℕ) → a ≡ Refused n → ⊥) → 0 ≡ number_in (answer_of a)
unfolding number_in
no_number (Hit w) other = refl
no_number (Fill w) other = refl
no_number (Evict w t d) other = refl
no_number Pass other = refl
no_number (Flush w d) other = refl
no_number Absent other = refl
no_number (Policy d e) other = refl
no_number (Refused n) other = absurd (other n refl)

module _ (told answer : List ℕ) {n : ℕ} (number_is : n ≡ number_in told) where
  -- an answer of a wrong length
  pub reply_other : (length answer ≡ answer_bytes → ⊥) → replied_of n answer ≡ replied told answer
  unfolding filled
  reply_other h = rw (ne_eqb (length answer) answer_bytes h) (ap (λ (k : ℕ). replied_of k answer) number_is)

  pub reply_written : {fields last : List ℕ} → fields ≡ padded told → length answer ≡ answer_bytes → last ≡ put_run 0 8 fields answer
      → replied_of n last ≡ replied told answer
  unfolding filled padded
  reply_written {fields} {last} are h e =
      let whole : last ≡ bytes_of 8 (padded told) =
      e ∙ ap (λ (xs : List ℕ). put_run 0 8 xs answer) are
      ∙ run_put 0 8 answer (padded told) (omega (arith, h))
      ∙ sets_all (bytes_of 8 (padded told)) answer (bytes_long 8 (padded told) ∙ sym h) in
      rw (eq-eqb (length answer) answer_bytes h) (λ i. replied_of (number_is i) (whole i))
