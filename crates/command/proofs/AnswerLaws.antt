-- Document 01's words and values tell any two answers apart.
use mathlib.Core.Path.{◌≡◌, refl, ap}
use mathlib.Core.Bool.{true, false, cond}
use mathlib.Core.List.{List, [], ◌∷◌}
use mathlib.Core.Logic.{◌⊎◌, inl, inr}
use Prim.Native.Nat.{ℕ}
use native.Mathlib.Omega.{arith}
use lib.Dec.{eqb}
use denote.Enum.Declared.{tag_of}
use lib.ListN.{get_or}
use Rattle.command.specs.Answer.{answer_of}
use Rattle.command.specs.contracts.Answer.{the_type}
use Rattle.command.specs.declared.Answer.{Answer}
use Rattle.command.specs.declared.Answer.TheVariants.{Hit, Fill, Evict, Pass, Flush, Absent, Policy, Refused}
use Rattle.command.specs.Statements.{AnswerInjective}

-- The answer that a word and values tell.
answer_in : List ℕ → Answer
answer_in l =
    let word = get_or l 0 0 in
    let first = get_or l 1 0 in
    let second = get_or l 2 0 in
    cond (eqb word 0) (Hit first)
    (cond (eqb word 1) (Fill first)
    (cond (eqb word 2) (Evict first second (eqb (get_or l 3 0) 1))
    (cond (eqb word 3) Pass
    (cond (eqb word 4) (Flush first (eqb second 1))
    (cond (eqb word 5) Absent (cond (eqb word 6) (Policy first second) (Refused first)))))))

answer_again : (a : Answer) → answer_in (answer_of a) ≡ a
unfolding answer_in
answer_again (Hit w) = refl
answer_again (Fill w) = refl
answer_again (Evict w tag true) = refl
answer_again (Evict w tag false) = refl
answer_again Pass = refl
answer_again (Flush w true) = refl
answer_again (Flush w false) = refl
answer_again Absent = refl
answer_again (Policy n d) = refl
answer_again (Refused n) = refl

-- So a contract that equates words and values settles the whole answer.
pub answer_injective : AnswerInjective
answer_injective a b e = rw (← (answer_again a), ← (answer_again b), e)

-- An answer without fields is its word's number alone.
pub bare : (a : Answer) (n : ℕ) → tag_of the_type a ≡ n → (n ≡ 3) ⊎ (n ≡ 5) → answer_of a ≡ n ∷ []
bare Pass n e h = ap (λ (k : ℕ). k ∷ []) e
bare Absent n e h = ap (λ (k : ℕ). k ∷ []) e
bare (Hit w) n e (inl h) = absurd (omega arith)
bare (Hit w) n e (inr h) = absurd (omega arith)
bare (Fill w) n e (inl h) = absurd (omega arith)
bare (Fill w) n e (inr h) = absurd (omega arith)
bare (Evict w tag dirty) n e (inl h) = absurd (omega arith)
bare (Evict w tag dirty) n e (inr h) = absurd (omega arith)
bare (Flush w dirty) n e (inl h) = absurd (omega arith)
bare (Flush w dirty) n e (inr h) = absurd (omega arith)
bare (Policy dropped dirty) n e (inl h) = absurd (omega arith)
bare (Policy dropped dirty) n e (inr h) = absurd (omega arith)
bare (Refused m) n e (inl h) = absurd (omega arith)
bare (Refused m) n e (inr h) = absurd (omega arith)
