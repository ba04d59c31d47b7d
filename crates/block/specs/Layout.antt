-- What a block holds: document 02, job 7. "It holds sets (2 bytes), ways (1), rule (1), four zero bytes; then 16 hit maps and 16 fill maps of 2
-- bytes; 16 records of seven 4-byte counts; then the valid, dirty, replacement and tag tables, all little-endian."
use Rattle.std.specs.Prelude.{ℕ, ◌*◌, List, [], ◌∷◌, ◌++◌, map, replicate, slice_index, slice_index_or}
use Rattle.endian.specs.Bytes.{digits, field, cut, sum, joined}
use Rattle.runs.specs.Runs.{numbers, bytes_of}
use Rattle.geometry.specs.declared.Geometry.{Geometry}
use Rattle.domains.specs.Domains.{max_domains}
use Rattle.domains.specs.declared.Counts.{Counts}
use Rattle.domains.specs.declared.Domain.{Domain}
use Rattle.steps.specs.Step.{State}

-- The sizes of its eight parts, which lie side by side.
unfoldable pub sizes : Geometry → List ℕ
sizes g =
    -- 0: sets, ways, rule and four zero bytes
    8
    -- 1 and 2: the hit maps, the fill maps
    ∷ max_domains * 2
    ∷ max_domains * 2
    -- 3: the records of counts
    ∷ max_domains * 28
    -- 4 to 7: the valid, dirty, replacement and tag tables
    ∷ g.sets * 2
    ∷ g.sets * 2
    ∷ g.sets * 8
    ∷ g.sets * g.ways * 8
    ∷ []

-- How long it is.
abbrev pub block_bytes : Geometry → ℕ
block_bytes g = sum (sizes g)

-- ---- Read

-- "four zero bytes": their value.
abbrev pub zeros_in : List ℕ → ℕ
zeros_in block = field 4 4 block

-- "seven 4-byte counts"
unfoldable pub counts_from : List ℕ → Counts
counts_from c = record {
  hits = slice_index c 0;
  misses = slice_index c 1;
  evicted = slice_index c 2;
  written = slice_index c 3;
  flushed = slice_index c 4;
  fills = slice_index c 5;
  dropped = slice_index c 6;
}

unfoldable pub counts_in : List ℕ → Counts
counts_in bytes = counts_from (numbers 4 7 bytes)

-- The domains of hit maps, fill maps and counts, one after the other.
unfoldable pub domains_from : List ℕ → List ℕ → List Counts → List Domain
domains_from (h ∷ hs) (f ∷ fs) (c ∷ cs) = record { hit = h; fill = f; counts = c } ∷ domains_from hs fs cs
domains_from (h ∷ hs) (f ∷ fs) [] = []
domains_from (h ∷ hs) [] cs = []
domains_from [] fs cs = []

-- The tables and domains in the parts of a block.
unfoldable pub state_in : Geometry → List (List ℕ) → State
state_in g parts = record {
  tables = record {
    tags = numbers 8 (g.sets * g.ways) (slice_index_or parts 7 []);
    valid = numbers 2 g.sets (slice_index_or parts 4 []);
    dirty = numbers 2 g.sets (slice_index_or parts 5 []);
    words = numbers 8 g.sets (slice_index_or parts 6 []);
  };
  domains = record {
    records =
        domains_from (numbers 2 max_domains (slice_index_or parts 1 [])) (numbers 2 max_domains (slice_index_or parts 2 []))
        (map counts_in (cut (replicate max_domains 28) (slice_index_or parts 3 [])));
  };
}

unfoldable pub state_of : Geometry → List ℕ → State
state_of g block = state_in g (cut (sizes g) block)

-- ---- Written

unfoldable pub head_of : Geometry → List ℕ
head_of g = digits 2 g.sets ++ digits 1 g.ways ++ digits 1 g.rule ++ digits 4 0

abbrev pub seven_of : Counts → List ℕ
seven_of c = c.hits ∷ c.misses ∷ c.evicted ∷ c.written ∷ c.flushed ∷ c.fills ∷ c.dropped ∷ []

unfoldable pub counts_bytes : Counts → List ℕ
counts_bytes c = bytes_of 4 (seven_of c)

-- The bytes of a state behind a head.
unfoldable pub state_bytes : List ℕ → State → List ℕ
state_bytes head s =
    let ds = s.domains.records in
    joined
    (head
    ∷ bytes_of 2 (map (λ (x : Domain). x.hit) ds)
    ∷ bytes_of 2 (map (λ (x : Domain). x.fill) ds)
    ∷ joined (map (λ (x : Domain). counts_bytes x.counts) ds)
    ∷ bytes_of 2 s.tables.valid
    ∷ bytes_of 2 s.tables.dirty
    ∷ bytes_of 8 s.tables.words
    ∷ bytes_of 8 s.tables.tags
    ∷ [])

unfoldable pub block_of : Geometry → State → List ℕ
block_of g s = state_bytes (head_of g) s
