-- What is claimed of a trace file, as a closed statement. The theorem is `accepted`, stands in proofs/, and is of exactly that type.
use Rattle.std.specs.Prelude.{◌≡◌, true, List, ℕ, ◌+◌, ◌*◌, ◌≤◌, length}
use Rattle.geometry.specs.Geometry.{within}
use Rattle.geometry.specs.Named.{geometry_of}
use Rattle.tracefile.specs.File.{step_count, max_steps, max_file_sets, file_refusal}

-- What a file that is not refused has: its head and its length, no more steps and sets than a file may have, and a geometry within the limits.
pub record Accepted (file : List ℕ) : Type 0 where
  pub long : 8 ≤ length file
  pub whole : length file ≡ 8 + 10 * step_count file
  pub short : step_count file ≤ max_steps
  pub few_sets : (geometry_of file).sets ≤ max_file_sets
  pub limits : within (geometry_of file) ≡ true

abbrev pub FileAccepted : Type 0
FileAccepted = (file : List ℕ) → file_refusal file ≡ 0 → Accepted file
