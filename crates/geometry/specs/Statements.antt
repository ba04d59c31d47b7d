-- What is claimed of the set of an address, as closed statements. The theorem of each has its name in small letters, stands in proofs/, and is of exactly
-- that type.
use Rattle.std.specs.Prelude.{ℕ, ◌<◌}
use Rattle.geometry.specs.Geometry.{max_sets}
use Rattle.geometry.specs.Address.{set_of}
use Rattle.geometry.specs.Inside.{Limited}
use Rattle.geometry.specs.declared.Geometry.{Geometry}

-- Within the limits the set is one of the cache's.
abbrev pub SetBelow : Type 0
SetBelow = (g : Geometry) (address : ℕ) → Limited g → set_of g address < g.sets

-- And so it is below the most that there are: "a set below 4,096".
abbrev pub SetMost : Type 0
SetMost = (g : Geometry) (address : ℕ) → Limited g → set_of g address < max_sets
