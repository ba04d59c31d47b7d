-- A run: steps one after another, "each later step gets those that the step before it left, turned down or not".
use Rattle.std.specs.Prelude.{List, [], ◌∷◌, ℕ}
use Rattle.command.specs.Command.{Command}
use Rattle.geometry.specs.declared.Geometry.{Geometry}
use Rattle.steps.specs.Step.{State, Outcome, step}

abbrev pub step_on : Geometry → Command → State → Outcome
step_on g c s = step g c.domain c.kind c.argument s

-- The answers of a list of steps, and the state after the last.
unfoldable pub answers_of : Geometry → List Command → State → List (List ℕ)
answers_of g [] s = []
answers_of g (c ∷ cs) s = (step_on g c s).answer ∷ answers_of g cs (step_on g c s).state

unfoldable pub finally : Geometry → List Command → State → State
finally g [] s = s
finally g (c ∷ cs) s = finally g cs (step_on g c s).state
