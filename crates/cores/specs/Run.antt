-- A run where core records are lent: each step gets the tables, domains and records that the step before it left.
use Rattle.std.specs.Prelude.{List, [], ◌∷◌, ℕ}
use Rattle.command.specs.Command.{Command}
use Rattle.geometry.specs.declared.Geometry.{Geometry}
use Rattle.selectors.specs.Selectors.{fresh_cores}
use Rattle.steps.specs.Fresh.{fresh}
use Rattle.cores.specs.Step.{Lent, core_step}

-- The answers of a list of steps, and what the last leaves.
unfoldable pub core_answers : Geometry → List Command → Lent → List (List ℕ)
core_answers g [] x = []
core_answers g (c ∷ cs) x = (core_step g c x).answer ∷ core_answers g cs (core_step g c x).lent

unfoldable pub core_finally : Geometry → List Command → Lent → Lent
core_finally g [] x = x
core_finally g (c ∷ cs) x = core_finally g cs (core_step g c x).lent

-- A fresh cache, lent n fresh records.
unfoldable pub fresh_lent : Geometry → ℕ → Lent
fresh_lent g n = record { cache = fresh g; cores = fresh_cores n }
