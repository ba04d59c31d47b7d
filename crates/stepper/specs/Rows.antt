-- Tables and their rows.
use Rattle.std.specs.Prelude.{ℕ, ◌*◌, ◌≤◌, ◌<◌}
use Rattle.tracefile.specs.File.{max_file_sets}

-- A geometry within the limits of a file.
pub record Small (sets ways : ℕ) : Type 0 where
  pub some_set : 0 < sets
  pub few_sets : sets ≤ max_file_sets
  pub few_ways : ways ≤ 16

-- Tables of these lengths have the rows of the sets below `sets`.
pub record Rows (sets ways tags valid dirty words : ℕ) : Type 0 where
  pub tags_long : sets * ways ≤ tags
  pub valid_long : sets ≤ valid
  pub dirty_long : sets ≤ dirty
  pub words_long : sets ≤ words
