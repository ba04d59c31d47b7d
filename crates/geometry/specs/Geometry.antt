-- Document 01, "Geometry and tables": the limits, and how long the tables are: "tags, S × W words of 64 bits, the W tags of a set side by
-- side; valid and dirty, one 16-bit map per set each; replacement, one 64-bit word per set."
use Rattle.std.specs.Prelude.{Bool, cond, not, ◌&&◌, ℕ, ◌*◌, ◌^◌, eqb, leb}
use Rattle.waymap.specs.Bits.{any}
use Rattle.replacement.specs.Calls.{in_limits}
use Rattle.geometry.specs.declared.Geometry.{Geometry}

-- "Sets S: a power of two", from 1 up; document 02, job 3: "S goes up to 4,096."
abbrev pub max_sets : ℕ
max_sets = 4096

unfoldable pub is_power : ℕ → Bool
is_power n = any 64 (λ k. eqb n (2 ^ k))

-- The geometry is within the limits; those of ways and rule are the replacement rules' own.
unfoldable pub within : Geometry → Bool
within g = is_power g.sets && leb g.sets max_sets && in_limits g.ways g.rule

-- How long the four tables are.
pub record Lengths : Type 0 where
  pub tags : ℕ
  pub valid : ℕ
  pub dirty : ℕ
  pub words : ℕ

-- Each is exactly as long as above.
unfoldable pub sized : Geometry → Lengths → Bool
sized g n = eqb n.tags (g.sets * g.ways) && eqb n.valid g.sets && eqb n.dirty g.sets && eqb n.words g.sets

-- "1: geometry outside the limits", "2: a table whose length is not exactly the one above", 0 for neither.
unfoldable pub sizes_of : Geometry → Lengths → ℕ
sizes_of g n = cond (not (within g)) 1 (cond (not (sized g n)) 2 0)
