-- The geometry that bytes name: the first four of a trace file, and of a block.
use Rattle.std.specs.Prelude.{List, ℕ}
use Rattle.endian.specs.Bytes.{field}
use Rattle.geometry.specs.declared.Geometry.{Geometry}

-- "sets (2 bytes), ways (1), rule (1)"
abbrev pub geometry_of : List ℕ → Geometry
geometry_of bytes = record { sets = field 0 2 bytes; ways = field 2 1 bytes; rule = field 3 1 bytes }
