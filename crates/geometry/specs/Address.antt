-- Where an address's line can be.
use Rattle.std.specs.Prelude.{ℕ, ◌/◌, ◌%◌}
use Rattle.geometry.specs.declared.Geometry.{Geometry}
use Rattle.geometry.specs.declared.Place.{Place}

-- "Lines have 64 bytes." "Line = address / 64; set = line mod S; tag = line / S (whole division)."
abbrev pub line_of : ℕ → ℕ
line_of address = address / 64

unfoldable pub set_of : Geometry → ℕ → ℕ
set_of g address = line_of address % g.sets

unfoldable pub tag_of : Geometry → ℕ → ℕ
tag_of g address = line_of address / g.sets

-- Both together.
unfoldable pub place_of : Geometry → ℕ → Place
place_of g address = record { set = set_of g address; tag = tag_of g address }
