-- What the crate's inner functions go by: they are called within the limits.
use Rattle.std.specs.Prelude.{◌≡◌, true, ◌≤◌, ◌<◌}
use Rattle.replacement.specs.Calls.{in_limits}
use Rattle.geometry.specs.Geometry.{max_sets}
use Rattle.geometry.specs.declared.Geometry.{Geometry}

-- A geometry within the limits.
pub record Limited (g : Geometry) : Type 0 where
  pub limits : in_limits g.ways g.rule ≡ true
  pub some_set : 0 < g.sets
  pub most_sets : g.sets ≤ max_sets
  pub some_way : 0 < g.ways
  pub most_ways : g.ways ≤ 16
