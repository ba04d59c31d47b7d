-- A condition on every answer of a run, as `locking` has it, and step by step.
use mathlib.Core.Path.{◌≡◌, refl, sym, ap, subst}
use mathlib.Core.Bool.{Bool, true}
use mathlib.Core.List.{List, [], ◌∷◌, ◌++◌}
use Prim.Native.Nat.{ℕ}
use Rattle.command.specs.Command.{Command}
use Rattle.geometry.specs.declared.Geometry.{Geometry}
use Rattle.steps.specs.Step.{State}
use Rattle.steps.specs.Run.{step_on, finally}
use Rattle.locking.specs.Locking.{Answered}
use Rattle.claims.specs.Points.{EachAnswer}

module _ (g : Geometry) (p : Command → Bool) (said : List ℕ → Type 0) where
  split : (xs ys : List Command) (c : Command) (s : State) → Answered g p said (xs ++ c ∷ ys) s → p c ≡ true → said (step_on g c (finally g xs s)).answer
  unfolding Answered finally
  split [] ys c s all t = all.0 t
  split (x ∷ xs) ys c s all t = split xs ys c (step_on g x s).state all.1 t

  pub each_answer : (cs : List Command) (s : State) → Answered g p said cs s → EachAnswer g p said cs s
  each_answer cs s all xs ys c e t = split xs ys c s (subst (λ (l : List Command). Answered g p said l s) e all) t

  pub all_answered : (cs : List Command) (s : State) → EachAnswer g p said cs s → Answered g p said cs s
  unfolding Answered finally
  all_answered [] s each = tt
  all_answered (c ∷ cs) s each =
      (each [] cs c refl, all_answered cs (step_on g c s).state (λ xs ys b e t. each (c ∷ xs) ys b (ap (λ (l : List Command). c ∷ l) e) t))
