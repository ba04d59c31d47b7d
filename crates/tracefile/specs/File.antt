-- What a trace file says. A file is its bytes, each a number below 256.
use Rattle.std.specs.Prelude.{Bool, cond, not, ◌||◌, List, [], ◌∷◌, ℕ, zero, suc, ◌+◌, ◌*◌, eqb, ltb, length}
use Rattle.endian.specs.Bytes.{field}
use Rattle.geometry.specs.Geometry.{within}
use Rattle.geometry.specs.Named.{geometry_of}
use Rattle.command.specs.Command.{Command, command_of}

-- "sets (2 bytes), ways (1), rule (1)" are `geometry_of`; then "number of steps n (4)".
abbrev pub step_count : List ℕ → ℕ
step_count file = field 4 4 file

-- "then n codes of 2 bytes (domain, kind); then n arguments of 8 bytes": step i of n.
abbrev pub command_at : List ℕ → ℕ → ℕ → Command
command_at file n i = command_of (field (8 + 2 * i) 2 file) (field (8 + 2 * n + 8 * i) 8 file)

-- Of n steps, the k from step i on.
unfoldable pub last_steps : List ℕ → ℕ → ℕ → ℕ → List Command
last_steps file n i zero = []
last_steps file n i (suc k) = command_at file n i ∷ last_steps file n (i + 1) k

abbrev pub steps_of : List ℕ → List Command
steps_of file = last_steps file (step_count file) 0 (step_count file)

-- The most steps of a file.
abbrev pub max_steps : ℕ
max_steps = 4096

-- The most sets that a file may name; a call takes as many as `max_sets` of the geometry.
abbrev pub max_file_sets : ℕ
max_file_sets = 256

-- Refusal 10: "trace file under 8 bytes, not of its length, or with more than 4,096 steps"; "its length is 8 + 10 × n". Document 02, job 3: "10
-- also covers a file naming more than 256 sets."
unfoldable pub bad_file : List ℕ → Bool
bad_file file =
    ltb (length file) 8
    || not (eqb (length file) (8 + 10 * step_count file))
    || ltb max_steps (step_count file)
    || ltb max_file_sets (geometry_of file).sets

-- The number by which a file is refused, or 0: 10 "comes before all others", then the geometry's 1.
unfoldable pub file_refusal : List ℕ → ℕ
file_refusal file = cond (bad_file file) 10 (cond (not (within (geometry_of file))) 1 0)
