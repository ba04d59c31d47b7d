-- That a domain has no line twice.
use Rattle.std.specs.Prelude.{◌≡◌, true, ℕ, ◌^◌, ◌≤◌, ◌<◌, List, get_or}
use Rattle.waymap.specs.Bits.{bit}
use Rattle.row.specs.Row.{Row}
use Rattle.domains.specs.Domains.{domain_of, policies}
use Rattle.reached.specs.Reached.{Reached}
use Rattle.geometry.specs.Geometry.{within}
use Rattle.geometry.specs.declared.Geometry.{Geometry}
use Rattle.steps.specs.Tables.{row_at}
use Rattle.steps.specs.Step.{State}
use Rattle.steps.specs.Run.{finally}
use Rattle.steps.specs.Fresh.{fresh}
use Rattle.command.specs.Command.{Command}

-- A way of a hit map is valid with a tag.
pub record Has (hit : ℕ) (r : Row) (tag w : ℕ) : Type 0 where
  pub in_map : bit hit w ≡ true
  pub is_valid : bit r.valid w ≡ true
  pub has_tag : get_or r.tags w 0 ≡ tag

-- No two valid ways of a hit map in one set have one tag.
abbrev pub OnceIn : ℕ → Row → Type 0
OnceIn hit r = (tag v w : ℕ) → Has hit r tag v → Has hit r tag w → v ≡ w

-- So it is for every domain in every set: no domain has a line twice.
abbrev pub Once : Geometry → State → Type 0
Once g s = (d i : ℕ) → d < 16 → i < g.sets → OnceIn (policies g.ways s.domains d).hit (row_at g.ways i s.tables)

-- So it is after every list of steps from a fresh cache, under every geometry within the limits.
abbrev pub NoLineTwice : Type 0
NoLineTwice = (g : Geometry) → within g ≡ true → (cs : List Command) → Once g (finally g cs (fresh g))

-- Beside it, of every state that a run from a fresh cache reaches: each domain's hits fit 32 bits, and every replacement word has 64.
abbrev pub HitsFit : Type 0
HitsFit = (g : Geometry) → within g ≡ true → (s : State) → Reached g s → (d : ℕ) → d < 16 → (domain_of s.domains d).counts.hits ≤ 4294967295

abbrev pub ReachedFits : Type 0
ReachedFits = (g : Geometry) → within g ≡ true → (s : State) → Reached g s → (i : ℕ) → i < g.sets → (row_at g.ways i s.tables).word < 2 ^ 64
