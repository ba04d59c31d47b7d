-- What is claimed of blocks, as closed statements. The theorem of each has its name in small letters, stands in proofs/, and is of exactly that type.
use Rattle.std.specs.Prelude.{◌≡◌, ℕ, ◌^◌, ◌<◌, ◌≤◌, List, length, take, ◌≢◌, slice_index, slice_index_or}
use Rattle.runs.specs.Runs.{Bytes}
use Rattle.geometry.specs.Named.{geometry_of}
use Rattle.geometry.specs.declared.Geometry.{Geometry}
use Rattle.domains.specs.Domains.{no_domain}
use Rattle.domains.specs.declared.Counts.{Counts}
use Rattle.domains.specs.declared.Domain.{Domain}
use Rattle.steps.specs.Step.{State}
use Rattle.steps.specs.Inside.{Whole}
use Rattle.block.specs.Layout.{block_bytes, zeros_in, state_of, head_of, state_bytes, block_of}
use Rattle.block.specs.Block.{block_refusal, fresh_call, step_call}
use Rattle.block.specs.Inside.{Blocked, contents}

-- ---- "a refused call leaves the block unchanged"

-- Of a step, for every block whose elements are bytes, every answer and all numbers.
abbrev pub StepRefusedLeaves : Type 0
StepRefusedLeaves =
    (block answer : List ℕ) (d kind arg : ℕ) → Bytes block → ((step_call block answer d kind arg).result ≢ 0)
    → (step_call block answer d kind arg).block ≡ block

-- Of a call that makes a fresh block, for every block and geometry.
abbrev pub FreshRefusedLeaves : Type 0
FreshRefusedLeaves = (g : Geometry) (block : List ℕ) → ((fresh_call g block).result ≢ 0) → (fresh_call g block).block ≡ block

-- ---- Read and written again

-- A block of its length whose elements are bytes, read and written again behind its head, is itself.
abbrev pub BlockAgain : Type 0
BlockAgain =
    (g : Geometry) (block : List ℕ) → Blocked g block → Bytes block → state_bytes (contents g block).head (contents g block).state ≡ block

-- Its head is that of the geometry that it names, if its zero bytes are zero.
abbrev pub HeadAgain : Type 0
HeadAgain = (block : List ℕ) → 8 ≤ length block → Bytes block → zeros_in block ≡ 0 → head_of (geometry_of block) ≡ take 8 block

-- So a block that a step is let onto, read and written again, is itself.
abbrev pub PassedAgain : Type 0
PassedAgain =
    (block : List ℕ) (n : ℕ) → Bytes block → block_refusal block n ≡ 0 → block_of (geometry_of block) (state_of (geometry_of block) block) ≡ block

-- ---- Written and read again

-- Counts have 32 bits.
pub record CountsFit (c : Counts) : Type 0 where
  pub hits : c.hits < 256 ^ 4
  pub misses : c.misses < 256 ^ 4
  pub evicted : c.evicted < 256 ^ 4
  pub written : c.written < 256 ^ 4
  pub flushed : c.flushed < 256 ^ 4
  pub fills : c.fills < 256 ^ 4
  pub dropped : c.dropped < 256 ^ 4

-- A domain's maps have 16 bits, its counts 32.
pub record DomainFits (x : Domain) : Type 0 where
  pub hit : x.hit < 256 ^ 2
  pub fill : x.fill < 256 ^ 2
  pub counts : CountsFit x.counts

-- All numbers of a state have the widths of a block's.
pub record StateFits (s : State) : Type 0 where
  pub tags : (i : ℕ) → slice_index s.tables.tags i < 256 ^ 8
  pub valid : (i : ℕ) → slice_index s.tables.valid i < 256 ^ 2
  pub dirty : (i : ℕ) → slice_index s.tables.dirty i < 256 ^ 2
  pub words : (i : ℕ) → slice_index s.tables.words i < 256 ^ 8
  pub domain : (d : ℕ) → DomainFits (slice_index_or s.domains.records d no_domain)

-- A state of its geometry with such numbers, written and read again, is itself.
abbrev pub StateAgain : Type 0
StateAgain = (g : Geometry) (s : State) → Whole g s → StateFits s → state_of g (block_of g s) ≡ s

-- What is written has its length, names its geometry and has its zero bytes.
abbrev pub BlockLong : Type 0
BlockLong = (g : Geometry) (s : State) → Whole g s → length (block_of g s) ≡ block_bytes g

abbrev pub GeometryAgain : Type 0
GeometryAgain = (g : Geometry) (s : State) → Whole g s → g.rule < 256 → geometry_of (block_of g s) ≡ g

abbrev pub ZerosAgain : Type 0
ZerosAgain = (g : Geometry) (s : State) → Whole g s → zeros_in (block_of g s) ≡ 0
