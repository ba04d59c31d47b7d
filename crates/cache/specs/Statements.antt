-- What is claimed of the contract of `step`, as a closed statement. The theorem has its name in small letters, stands in proofs/, and is of exactly that
-- type.
use Rattle.std.specs.Prelude.{◌≡◌}
use Rattle.steps.specs.Tables.{Tables}
use Rattle.cache.specs.Calls.{outcome}
use Rattle.cache.specs.declared.Stepped.{Stepped}

-- What the contract equates tells any two answers, domains and tables apart, and so settles all of them whole.
abbrev pub OutcomeInjective : Type 0
OutcomeInjective = (r s : Stepped) (t u : Tables) → outcome r t ≡ outcome s u → (r ≡ s) × (t ≡ u)
