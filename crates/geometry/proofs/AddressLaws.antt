-- The set and tag of an address.
use mathlib.Core.Path.{◌≡◌}
use Prim.Native.Nat.{ℕ, ◌/◌}
use native.Mathlib.Nat.{mod-lt, mod-zero, div-zero, lt_of_lt_of_le}
use Rattle.geometry.specs.Address.{set_of, tag_of, place_of}
use Rattle.geometry.specs.declared.Geometry.{Geometry}
use Rattle.geometry.specs.Statements.{SetBelow, SetMost}

-- by no sets
pub no_sets : (g : Geometry) (address : ℕ) → g.sets ≡ 0 → record { set = address / 64; tag = 0 } ≡ place_of g address
unfolding place_of set_of tag_of
no_sets g address e = rw (e, mod-zero (address / 64), div-zero (address / 64))

-- within the limits the set is one of the cache's
pub set_below : SetBelow
unfolding set_of
set_below g address l = mod-lt (address / 64) l.some_set

-- and so below the most that there are: "a set below 4,096"
pub set_most : SetMost
set_most g address l = lt_of_lt_of_le (set_below g address l) l.most_sets
