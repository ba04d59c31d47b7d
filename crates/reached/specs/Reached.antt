-- The states that a run from a fresh cache reaches, and domains that are separate.
use Rattle.std.specs.Prelude.{◌≡◌, false, List, ℕ, ◌<◌}
use Rattle.replacement.specs.Rule.{rule_of}
use Rattle.replacement.specs.Isolates.{Apart}
use Rattle.policy.specs.declared.Maps.{Maps}
use Rattle.command.specs.Command.{Command}
use Rattle.geometry.specs.declared.Geometry.{Geometry}
use Rattle.steps.specs.Step.{State}
use Rattle.steps.specs.Run.{finally}
use Rattle.steps.specs.Fresh.{fresh}

-- A state that a run reaches: a past, and that the state is the one after it.
pub record Reached (g : Geometry) (s : State) : Type 0 where
  pub past : List Command
  pub is : s ≡ finally g past (fresh g)

-- No two domains have a way in common, and number 9 lets every two stand.
pub record Separate (g : Geometry) (policy : ℕ → Maps) : Type 0 where
  pub ways_apart : (e f : ℕ) → e < 16 → f < 16 → (e ≡ f → ⊥) → Apart (policy e).hit (policy f).hit
  pub nodes_apart : (e f : ℕ) → e < 16 → f < 16 → (e ≡ f → ⊥) → (rule_of g.rule g.ways).shares (policy e).fill (policy f).fill ≡ false
