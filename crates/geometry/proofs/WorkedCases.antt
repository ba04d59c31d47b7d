-- Case J of document 01, as document 02's job 3 has it, by computing.
use mathlib.Core.Path.{◌≡◌, refl}
use Prim.Native.Nat.{ℕ, ◌*◌}
use Rattle.waymap.specs.Bits.{any}
use Rattle.waymap.specs.Ways.{is_ways}
use Rattle.replacement.specs.Calls.{in_limits}
use Rattle.geometry.specs.Geometry.{is_power, within, sized, sizes_of}

-- Numbers 1 and 2 of a call on tables for so many sets of 2 ways, under rule 0.
abbrev number_of : ℕ → ℕ
number_of S = sizes_of (record { sets = S; ways = 2; rule = 0 }) (record { tags = S * 2; valid = S; dirty = S; words = S })

-- J: "4,096 stands, 257 and 8,192 are refused 1 by a call"
case_j : (number_of 4096 ≡ 0) × (number_of 257 ≡ 1) × (number_of 8192 ≡ 1)
unfolding sizes_of within sized is_power any in_limits is_ways
case_j = (refl, refl, refl)
