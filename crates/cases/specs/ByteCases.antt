-- Numbers in bytes, trace files and the block of the C calls: what the definitions give, and what was worked out by hand from document 01, "Trace file and
-- listing", and from document 02's jobs 3 and 7.
use Rattle.std.specs.Prelude.{List, [], ◌∷◌, ◌++◌, map, ℕ, ◌*◌, length, replicate}
use Rattle.endian.specs.Bytes.{value, digits, field, put_field, cut, sum, joined}
use Rattle.runs.specs.Runs.{numbers, bytes_of, read_run, put_run}
use Rattle.geometry.specs.Named.{geometry_of}
use Rattle.geometry.specs.declared.Geometry.{Geometry}
use Rattle.command.specs.Command.{Command}
use Rattle.tracefile.specs.File.{steps_of, file_refusal}
use Rattle.domains.specs.Domains.{no_domain}
use Rattle.domains.specs.declared.Domain.{Domain}
use Rattle.steps.specs.Step.{State}
use Rattle.block.specs.Layout.{counts_from, state_of, block_of}
use Rattle.block.specs.Block.{Made, Stepped, fresh_call, step_call, state_after}
use Rattle.cases.specs.Case.{Case}
use Rattle.cases.specs.States.{nru, domain, state, line}

-- ---- Little-endian numbers

-- Parts, each behind its length.
abbrev parts : List (List ℕ) → List ℕ
parts [] = []
parts (p ∷ ps) = length p ∷ (p ++ parts ps)

abbrev endian : List Case
endian =
    -- "little-endian": the lowest byte first; what n bytes do not hold is cut off
    record { given = value [] ∷ value (1 ∷ 2 ∷ 3 ∷ []) ∷ []; printed = 0 ∷ 0x030201 ∷ [] }
    ∷ record { given = digits 2 0x0201 ++ (digits 2 0x030201 ++ (digits 3 0x0201 ++ digits 0 5)); printed = 1 ∷ 2 ∷ 1 ∷ 2 ∷ 1 ∷ 2 ∷ 0 ∷ [] }
    -- the bytes from a place on; fewer where they end before
    ∷ record { given = field 1 2 (9 ∷ 1 ∷ 2 ∷ 9 ∷ []) ∷ field 3 2 (9 ∷ 9 ∷ 9 ∷ 7 ∷ []) ∷ []; printed = 0x0201 ∷ 7 ∷ [] }
    -- a number put in the middle, at the end, and past the end
    ∷ record { given = put_field 1 2 0x0201 (9 ∷ 8 ∷ 7 ∷ 6 ∷ []) ++ put_field 2 2 0x0201 (9 ∷ 8 ∷ 7 ∷ 6 ∷ []); printed = 9 ∷ 1 ∷ 2 ∷ 6 ∷ 9 ∷ 8 ∷ 1 ∷ 2 ∷ [] }
    ∷ record { given = put_field 3 2 0x0201 (9 ∷ 8 ∷ 7 ∷ 6 ∷ []); printed = 9 ∷ 8 ∷ 7 ∷ 6 ∷ [] }
    -- parts of 1, 2 and 3 bytes, of which the last has what is left
    ∷ record { given = parts (cut (1 ∷ 2 ∷ 3 ∷ []) (9 ∷ 8 ∷ 7 ∷ 6 ∷ [])); printed = 1 ∷ 9 ∷ 2 ∷ 8 ∷ 7 ∷ 1 ∷ 6 ∷ [] }
    ∷ record { given = sum (1 ∷ 2 ∷ 3 ∷ []) ∷ joined ((9 ∷ 8 ∷ []) ∷ (7 ∷ []) ∷ []); printed = 6 ∷ 9 ∷ 8 ∷ 7 ∷ [] }
    ∷ []

-- Tables of numbers, and runs of them.
abbrev tables : List Case
tables =
    record { given = numbers 2 3 (1 ∷ 2 ∷ 3 ∷ 4 ∷ 5 ∷ 6 ∷ 7 ∷ []); printed = 0x0201 ∷ 0x0403 ∷ 0x0605 ∷ [] }
    ∷ record { given = bytes_of 3 (0x0201 ∷ 0x0403 ∷ []); printed = 1 ∷ 2 ∷ 0 ∷ 3 ∷ 4 ∷ 0 ∷ [] }
    -- as many as are asked for, where so many are left: to the end, and one byte too few
    ∷ record { given = read_run 1 2 (9 ∷ 1 ∷ 2 ∷ 3 ∷ 4 ∷ []) (7 ∷ 8 ∷ []); printed = 0x0201 ∷ 0x0403 ∷ [] }
    ∷ record { given = read_run 2 2 (9 ∷ 1 ∷ 2 ∷ 3 ∷ 4 ∷ []) (7 ∷ 8 ∷ []); printed = 7 ∷ 8 ∷ [] }
    ∷ record { given = read_run 0 1 (1 ∷ 2 ∷ 3 ∷ []) (7 ∷ 8 ∷ 9 ∷ []); printed = 1 ∷ 2 ∷ 3 ∷ [] }
    ∷ record { given = put_run 1 2 (0x0201 ∷ 0x0403 ∷ []) (9 ∷ 9 ∷ 9 ∷ 9 ∷ 9 ∷ []); printed = 9 ∷ 1 ∷ 2 ∷ 3 ∷ 4 ∷ [] }
    ∷ record { given = put_run 2 2 (0x0201 ∷ 0x0403 ∷ []) (9 ∷ 9 ∷ 9 ∷ 9 ∷ 9 ∷ []); printed = 9 ∷ 9 ∷ 9 ∷ 9 ∷ 9 ∷ [] }
    ∷ record { given = put_run 0 1 (1 ∷ 2 ∷ 3 ∷ []) (7 ∷ 8 ∷ 9 ∷ []); printed = 1 ∷ 2 ∷ 3 ∷ [] }
    ∷ []

-- ---- Trace files

abbrev geometry_numbers : Geometry → List ℕ
geometry_numbers g = g.sets ∷ g.ways ∷ g.rule ∷ []

-- The head of a file of n0 + 256 n1 steps, for s0 + 256 s1 sets of four ways.
abbrev head : ℕ → ℕ → ℕ → ℕ → List ℕ
head s0 s1 n0 n1 = s0 ∷ s1 ∷ 4 ∷ 0 ∷ n0 ∷ n1 ∷ 0 ∷ 0 ∷ []

abbrev files : List Case
files =
    -- "sets (2 bytes), ways (1), rule (1)"
    record { given = geometry_numbers (geometry_of (1 ∷ 2 ∷ 3 ∷ 4 ∷ 5 ∷ [])); printed = 0x0201 ∷ 3 ∷ 4 ∷ [] }
    -- "under 8 bytes, not of its length": 7, 8 and 9 bytes and no step; one step
    ∷ record {
      given =
          file_refusal (1 ∷ 0 ∷ 4 ∷ 0 ∷ 0 ∷ 0 ∷ 0 ∷ []) ∷ file_refusal (head 1 0 0 0) ∷ file_refusal (head 1 0 0 0 ++ (0 ∷ []))
          ∷ file_refusal (head 1 0 1 0 ++ replicate 10 0) ∷ file_refusal (head 1 0 1 0 ++ replicate 9 0) ∷ [];
      printed = 10 ∷ 0 ∷ 10 ∷ 0 ∷ 10 ∷ [];
    }
    -- job 3: "10 also covers a file naming more than 256 sets"; three sets are 1
    ∷ record { given = file_refusal (head 0 1 0 0) ∷ file_refusal (head 1 1 0 0) ∷ file_refusal (head 3 0 0 0) ∷ []; printed = 0 ∷ 10 ∷ 1 ∷ [] }
    -- case L: "4,096 steps stand, 4,097 are refused 10"
    ∷ record { given = file_refusal (head 1 0 0 16 ++ replicate 40960 0) ∷ file_refusal (head 1 0 1 16 ++ replicate 40970 0) ∷ []; printed = 0 ∷ 10 ∷ [] }
    -- "n arguments of 8 bytes": the lowest byte and the highest
    ∷ record {
      given = map (λ (c : Command). c.argument) (steps_of (head 1 0 1 0 ++ (0 ∷ 1 ∷ 5 ∷ 0 ∷ 0 ∷ 0 ∷ 0 ∷ 0 ∷ 0 ∷ 128 ∷ [])));
      printed = 0x8000000000000005 ∷ [];
    }
    ∷ []

-- ---- The block: one set of two ways under NRU

-- Tag 0x0605 in way 0 and 6 in way 1, both valid, way 1 dirty, both bits one; domain 0 has both ways and counts, domain 15 the maps 0x0201 and 0x0403.
abbrev before : State
before =
    state (0x0605 ∷ 6 ∷ []) (3 ∷ []) (2 ∷ []) (3 ∷ [])
    (domain 3 3 0x0101 2 3 4 5 6 7 ∷ (replicate 14 no_domain ++ (domain 0x0201 0x0403 0 0 0 0 0 0 0x01000000 ∷ [])))

-- Seven counts of one byte each, as bytes.
abbrev small : ℕ → ℕ → ℕ → ℕ → ℕ → ℕ → List ℕ
small misses evicted written flushed fills dropped =
    misses ∷ 0 ∷ 0 ∷ 0 ∷ evicted ∷ 0 ∷ 0 ∷ 0 ∷ written ∷ 0 ∷ 0 ∷ 0 ∷ flushed ∷ 0 ∷ 0 ∷ 0 ∷ fills ∷ 0 ∷ 0 ∷ 0 ∷ dropped ∷ 0 ∷ 0 ∷ 0 ∷ []

-- "It holds sets (2 bytes), ways (1), rule (1), four zero bytes; then 16 hit maps and 16 fill maps of 2 bytes; 16 records of seven 4-byte counts; then the
-- valid, dirty, replacement and tag tables": by the four zero bytes, the counts of domain 0, and the tables.
abbrev bytes : List ℕ → List ℕ → List ℕ → List ℕ
bytes zeros counts lines =
    1 ∷ 0 ∷ 2 ∷ 1
    ∷ (zeros
    ++ (3 ∷ 0 ∷ (replicate 28 0 ++ (1 ∷ 2 ∷ [])))
    ++ (3 ∷ 0 ∷ (replicate 28 0 ++ (3 ∷ 4 ∷ [])))
    ++ (1 ∷ 1 ∷ 0 ∷ 0 ∷ (counts ++ (replicate (14 * 28) 0 ++ (replicate 27 0 ++ (1 ∷ [])))))
    ++ lines)

abbrev none : List ℕ
none = 0 ∷ 0 ∷ 0 ∷ 0 ∷ []

-- The tables before: valid 3, dirty 2, word 3, tags 0x0605 and 6.
abbrev lines_before : List ℕ
lines_before = 3 ∷ 0 ∷ 2 ∷ 0 ∷ 3 ∷ (replicate 7 0 ++ (5 ∷ 6 ∷ (replicate 6 0 ++ (6 ∷ replicate 7 0))))

abbrev bytes_before : List ℕ
bytes_before = bytes none (small 2 3 4 5 6 7) lines_before

-- A load of line 9 evicts way 1, the highest whose bit is one, and clears its bit: a miss, an evicted line, one written back, a fill.
abbrev bytes_after : List ℕ
bytes_after =
    bytes none (small 3 4 5 5 7 7)
    (3 ∷ 0 ∷ 0 ∷ 0 ∷ 1 ∷ (replicate 7 0 ++ (5 ∷ 6 ∷ (replicate 6 0 ++ (9 ∷ replicate 7 0)))))

abbrev domain_numbers : List Domain → List ℕ
domain_numbers [] = []
domain_numbers (x ∷ xs) =
    let c = x.counts in
    x.hit ∷ x.fill ∷ c.hits ∷ c.misses ∷ c.evicted ∷ c.written ∷ c.flushed ∷ c.fills ∷ c.dropped ∷ domain_numbers xs

abbrev state_numbers : State → List ℕ
state_numbers s =
    let t = s.tables in
    t.tags ++ (t.valid ++ (t.dirty ++ (t.words ++ domain_numbers s.domains.records)))

abbrev called : Stepped → List ℕ
called r = r.result ∷ (r.block ++ r.answer)

abbrev fresh : Made → List ℕ
fresh m = m.result ∷ m.block

-- An answer of 32 bytes: a word and three fields that are below 256.
abbrev answer : ℕ → ℕ → ℕ → ℕ → List ℕ
answer word a b c = word ∷ (replicate 7 0 ++ (a ∷ (replicate 7 0 ++ (b ∷ (replicate 7 0 ++ (c ∷ replicate 7 0))))))

abbrev lent : List ℕ
lent = replicate 32 170

abbrev blocks : List Case
blocks =
    -- "seven 4-byte counts", by their places
    record {
      given = domain_numbers (record { hit = 8; fill = 9; counts = counts_from (1 ∷ 2 ∷ 3 ∷ 4 ∷ 5 ∷ 6 ∷ 7 ∷ []) } ∷ []);
      printed = 8 ∷ 9 ∷ 1 ∷ 2 ∷ 3 ∷ 4 ∷ 5 ∷ 6 ∷ 7 ∷ [];
    }
    ∷ record { given = domain_numbers (record { hit = 8; fill = 9; counts = counts_from [] } ∷ []); printed = 8 ∷ 9 ∷ replicate 7 0 }
    -- written, and read back
    ∷ record { given = block_of (nru 1 2) before; printed = bytes_before }
    ∷ record { given = state_numbers (state_of (nru 1 2) bytes_before); printed = state_numbers before }
    -- "word number and three fields, each of 8 bytes": evict 1 6 1
    ∷ record { given = called (step_call bytes_before lent 0 1 (line 9)); printed = 0 ∷ (bytes_after ++ answer 2 1 6 1) }
    ∷ record { given = state_numbers (state_after bytes_before 32 0 1 (line 9)); printed = state_numbers (state_of (nru 1 2) bytes_after) }
    -- "Every other kind is 4", "a refusal fills the answer too, its number in the first field"
    ∷ record { given = called (step_call bytes_before lent 0 33 0); printed = 4 ∷ (bytes_before ++ answer 7 4 0 0) }
    -- "12, block or answer of a wrong length", "an answer of a wrong length is not written"
    ∷ record { given = called (step_call bytes_before (replicate 31 170) 0 1 (line 9)); printed = 12 ∷ (bytes_before ++ replicate 31 170) }
    ∷ record { given = called (step_call bytes_before (replicate 33 170) 0 1 (line 9)); printed = 12 ∷ (bytes_before ++ replicate 33 170) }
    ∷ record { given = state_numbers (state_after bytes_before 31 0 1 (line 9)); printed = state_numbers before }
    ∷ record { given = called (step_call (bytes_before ++ (0 ∷ [])) lent 0 1 (line 9)); printed = 12 ∷ ((bytes_before ++ (0 ∷ [])) ++ answer 7 12 0 0) }
    -- "or at a step a zero byte that is not zero": the first and the last of the four
    ∷ record {
      given = called (step_call (bytes (1 ∷ 0 ∷ 0 ∷ 0 ∷ []) (small 2 3 4 5 6 7) lines_before) lent 0 1 (line 9));
      printed = 12 ∷ (bytes (1 ∷ 0 ∷ 0 ∷ 0 ∷ []) (small 2 3 4 5 6 7) lines_before ++ answer 7 12 0 0);
    }
    ∷ record {
      given = called (step_call (bytes (0 ∷ 0 ∷ 0 ∷ 1 ∷ []) (small 2 3 4 5 6 7) lines_before) lent 0 1 (line 9));
      printed = 12 ∷ (bytes (0 ∷ 0 ∷ 0 ∷ 1 ∷ []) (small 2 3 4 5 6 7) lines_before ++ answer 7 12 0 0);
    }
    -- "a block under 8 bytes is 12 before all else"; three sets are 1
    ∷ record { given = called (step_call (3 ∷ 0 ∷ 2 ∷ 1 ∷ 0 ∷ 0 ∷ 0 ∷ []) lent 0 1 0); printed = 12 ∷ 3 ∷ 0 ∷ 2 ∷ 1 ∷ 0 ∷ 0 ∷ 0 ∷ answer 7 12 0 0 }
    ∷ record { given = called (step_call (3 ∷ 0 ∷ 2 ∷ 1 ∷ 0 ∷ 0 ∷ 0 ∷ 0 ∷ []) lent 0 1 0); printed = 1 ∷ 3 ∷ 0 ∷ 2 ∷ 1 ∷ 0 ∷ 0 ∷ 0 ∷ 0 ∷ answer 7 1 0 0 }
    -- "A call makes a fresh block of given sets, ways and rule": under NRU both bits of the word are one. A refused call leaves the block
    ∷ record {
      given = fresh (fresh_call (nru 1 2) (replicate 548 170));
      printed = 0 ∷ 1 ∷ 0 ∷ 2 ∷ 1 ∷ (replicate 520 0 ++ (3 ∷ replicate 23 0));
    }
    ∷ record { given = fresh (fresh_call (nru 1 2) (replicate 547 170)); printed = 12 ∷ replicate 547 170 }
    ∷ record { given = fresh (fresh_call (nru 3 2) (replicate 9 170)); printed = 1 ∷ replicate 9 170 }
    ∷ []

unfoldable pub byte_cases : List Case
byte_cases = endian ++ (tables ++ (files ++ blocks))
