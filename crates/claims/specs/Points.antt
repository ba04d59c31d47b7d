-- What holds of a list of steps, step by step.
use Rattle.std.specs.Prelude.{◌≡◌, Bool, true, List, ◌∷◌, ◌++◌, ℕ}
use Rattle.command.specs.Command.{Command}
use Rattle.geometry.specs.declared.Geometry.{Geometry}
use Rattle.steps.specs.Step.{State}
use Rattle.steps.specs.Run.{step_on, finally}

-- Of the run of a list from a state: wherever a step of it passes a test, its answer is as said. The steps before it are xs, those after it ys.
abbrev pub EachAnswer : Geometry → (Command → Bool) → (List ℕ → Type 0) → List Command → State → Type 0
EachAnswer g p said cs s =
    (xs ys : List Command) (c : Command) → cs ≡ xs ++ c ∷ ys → p c ≡ true → said (step_on g c (finally g xs s)).answer
