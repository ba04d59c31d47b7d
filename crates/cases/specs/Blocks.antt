-- Job 7's cases: the two calls on a block of one set and two ways, whose 548 bytes are written out, before the call and after it. Each is worked out by hand
-- from document 02.
use Rattle.std.specs.Prelude.{List, [], ◌∷◌, ◌++◌, ℕ, replicate}
use Rattle.domains.specs.Domains.{domain_of}
use Rattle.geometry.specs.declared.Geometry.{Geometry}
use Rattle.block.specs.Layout.{state_of}
use Rattle.block.specs.Block.{Made, fresh_call, Stepped, step_call}
use Rattle.cases.specs.Case.{Case}

-- ---- A block

-- "all little-endian": a number below 256 in four bytes, and in eight.
abbrev four : ℕ → List ℕ
four n = n ∷ 0 ∷ 0 ∷ 0 ∷ []

abbrev eight : ℕ → List ℕ
eight n = four n ++ four 0

-- "word number and three fields, each of 8 bytes"
abbrev eights : List ℕ → List ℕ
eights [] = []
eights (n ∷ ns) = eight n ++ eights ns

-- "seven 4-byte counts": hits, misses, evicted, written back, flushed, fills and dropped, the first of them by its four bytes.
abbrev counts : List ℕ → ℕ → ℕ → ℕ → ℕ → ℕ → ℕ → List ℕ
counts hits misses evicted written flushed fills dropped =
    hits ++ (four misses ++ (four evicted ++ (four written ++ (four flushed ++ (four fills ++ four dropped)))))

-- "valid, dirty, replacement and tag tables" of one set with two ways.
abbrev tables : ℕ → ℕ → ℕ → ℕ → ℕ → List ℕ
tables valid dirty word tag₀ tag₁ = valid ∷ 0 ∷ dirty ∷ 0 ∷ (eight word ++ (eight tag₀ ++ eight tag₁))

-- "sets (2 bytes), ways (1), rule (1), four zero bytes; then 16 hit maps and 16 fill maps of 2 bytes; 16 records of seven 4-byte counts": the head, the maps
-- and counts of domain 1, and the tables; other domains have nothing.
abbrev block : List ℕ → ℕ → ℕ → List ℕ → List ℕ → List ℕ
block head hits fills record₁ rest =
    head
    ++ ((0 ∷ 0 ∷ hits ∷ 0 ∷ []) ++ (replicate 28 0 ++ ((0 ∷ 0 ∷ fills ∷ 0 ∷ []) ++ (replicate 28 0
    ++ (replicate 28 0 ++ (record₁ ++ (replicate 392 0 ++ rest)))))))

-- One set of two ways under Tree-PLRU, and under NRU.
abbrev tree_head : List ℕ
tree_head = 1 ∷ 0 ∷ 2 ∷ 0 ∷ 0 ∷ 0 ∷ 0 ∷ 0 ∷ []

abbrev nru_head : List ℕ
nru_head = 1 ∷ 0 ∷ 2 ∷ 1 ∷ 0 ∷ 0 ∷ 0 ∷ 0 ∷ []

-- Domain 1 has both ways, and each of its counts its own value. Way 0 has line 5, way 1 line 6, which is dirty, and node 0 points right.
abbrev lent : List ℕ
lent = block tree_head 3 3 (counts (255 ∷ 0 ∷ 0 ∷ 0 ∷ []) 20 30 40 50 60 70) (tables 3 2 1 5 6)

-- ---- Calls

-- Answers as they are lent: n bytes of 170.
abbrev room : ℕ → List ℕ
room n = replicate n 170

-- All numbers that a call gives: the result, the answer, the block.
abbrev stepped : Stepped → List ℕ
stepped r = r.result ∷ r.answer ++ r.block

abbrev made : Made → List ℕ
made r = r.result ∷ r.block

-- A block, a step by domain, kind and argument with an answer of 32 bytes; the result, the words of the answer, and the block after it.
abbrev does : List ℕ → ℕ → ℕ → ℕ → ℕ → List ℕ → List ℕ → Case
does before d kind argument result words next = record {
  given = stepped (step_call before (room 32) d kind argument);
  printed = result ∷ eights words ++ next;
}

-- A step that is refused by a number, and leaves the block.
abbrev turns_down : List ℕ → ℕ → ℕ → ℕ → ℕ → Case
turns_down before d kind argument number = does before d kind argument number (7 ∷ number ∷ 0 ∷ 0 ∷ []) before

-- A step whose answer has another length: the result, the answer as it was, and the block as it was.
abbrev unanswered : List ℕ → ℕ → ℕ → Case
unanswered before n number = record { given = stepped (step_call before (room n) 1 1 320); printed = number ∷ room n ++ before }

-- A fresh block that is refused by a number, and the block as it was.
abbrev not_made : Geometry → ℕ → ℕ → Case
not_made g n number = record { given = made (fresh_call g (room n)); printed = number ∷ room n }

-- The first eight bytes with others in place of the zero bytes, and with another number of ways.
abbrev zeros_head : ℕ → ℕ → ℕ → ℕ → List ℕ
zeros_head a b c d = 1 ∷ 0 ∷ 2 ∷ 0 ∷ a ∷ b ∷ c ∷ d ∷ []

abbrev ways_head : ℕ → List ℕ
ways_head W = 1 ∷ 0 ∷ W ∷ 0 ∷ 0 ∷ 0 ∷ 0 ∷ 0 ∷ []

-- The lent block behind another head.
abbrev behind : List ℕ → List ℕ
behind head = block head 3 3 (counts (four 10) 20 30 40 50 60 70) (tables 3 2 1 5 6)

-- "A call makes a fresh block"
abbrev begun : List Case
begun =
    -- under NRU both bits are one, and all else is zero
    record {
      given = made (fresh_call (record { sets = 1; ways = 2; rule = 1 }) (room 548));
      printed = 0 ∷ block nru_head 0 0 (replicate 28 0) (tables 0 0 3 0 0);
    }
    -- a byte too short, a byte too long; 1 before that; under 8 bytes before all else
    ∷ not_made (record { sets = 1; ways = 2; rule = 1 }) 547 12
    ∷ not_made (record { sets = 1; ways = 2; rule = 1 }) 549 12
    ∷ not_made (record { sets = 3; ways = 2; rule = 1 }) 548 1
    ∷ not_made (record { sets = 65537; ways = 2; rule = 1 }) 8 1
    ∷ not_made (record { sets = 65537; ways = 2; rule = 1 }) 7 12
    ∷ []

-- "A step on the block does to its contents what the step on tables does."
abbrev steps_done : List Case
steps_done =
    -- a load of line 5 hits way 0; the 256th hit moves two bytes
    does lent 1 1 320 0 (0 ∷ 0 ∷ 0 ∷ 0 ∷ []) (block tree_head 3 3 (counts (0 ∷ 1 ∷ 0 ∷ 0 ∷ []) 20 30 40 50 60 70) (tables 3 2 1 5 6))
    -- a store of line 7 evicts way 1, line 6, which is written back; node 0 then points left
    ∷ does lent 1 2 448 0 (2 ∷ 1 ∷ 6 ∷ 1 ∷ []) (block tree_head 3 3 (counts (four 255) 21 31 41 50 61 70) (tables 3 2 0 5 7))
    -- a flush of line 6 is dirty; replacement bits and tag stay
    ∷ does lent 1 3 384 0 (4 ∷ 1 ∷ 1 ∷ 0 ∷ []) (block tree_head 3 3 (counts (four 255) 20 30 41 51 60 70) (tables 1 0 1 5 6))
    -- the maps 1 and 1: way 1 is cleaned, its one line dirty, and node 0, no longer free, is zero
    ∷ does lent 1 16 65537 0 (6 ∷ 1 ∷ 1 ∷ 0 ∷ []) (block tree_head 1 1 (counts (four 255) 20 30 40 50 60 71) (tables 1 0 0 5 0))
    -- the maps 3 and 1: the fill map alone moves
    ∷ does lent 1 16 65539 0 (6 ∷ 0 ∷ 0 ∷ 0 ∷ []) (block tree_head 3 1 (counts (four 255) 20 30 40 50 60 70) (tables 3 2 0 5 6))
    ∷ []

-- "a refused call leaves the block unchanged"
abbrev turned_down : List Case
turned_down =
    -- 3 before 4; a kind that no byte holds; 5; 6
    turns_down lent 16 4 0 3
    ∷ turns_down lent 1 272 0 4
    ∷ turns_down lent 1 40 0 4
    ∷ turns_down lent 1 16 4 5
    ∷ turns_down lent 0 1 320 6
    -- 12: "at a step a zero byte that is not zero", each of the four; before 3 and 4
    ∷ turns_down (behind (zeros_head 1 0 0 0)) 1 1 320 12
    ∷ turns_down (behind (zeros_head 0 1 0 0)) 16 4 320 12
    ∷ turns_down (behind (zeros_head 0 0 1 0)) 1 1 320 12
    ∷ turns_down (behind (zeros_head 0 0 0 128)) 1 1 320 12
    -- 1 before 12: three ways, whatever the length
    ∷ turns_down (behind (ways_head 3)) 1 1 320 1
    -- four ways would have 16 bytes more
    ∷ turns_down (behind (ways_head 4)) 1 1 320 12
    -- 12: "answer of a wrong length", which "is not written"; 1 before it
    ∷ unanswered lent 31 12
    ∷ unanswered lent 33 12
    ∷ unanswered (behind (ways_head 3)) 31 1
    -- "a block under 8 bytes is 12 before all else"
    ∷ unanswered (3 ∷ 0 ∷ 3 ∷ 3 ∷ 1 ∷ 1 ∷ 1 ∷ []) 31 12
    ∷ turns_down (3 ∷ 0 ∷ 3 ∷ 3 ∷ 1 ∷ 1 ∷ 1 ∷ []) 16 4 0 12
    ∷ unanswered (3 ∷ 0 ∷ 3 ∷ 3 ∷ 1 ∷ 1 ∷ 1 ∷ 1 ∷ []) 31 1
    ∷ []

-- What is read of the block: its tables, and of domain 1 the maps and counts.
abbrev held : List Case
held =
    let s = state_of (record { sets = 1; ways = 2; rule = 0 }) lent in
    let x = domain_of s.domains 1 in
    let c = x.counts in
    record { given = s.tables.valid ++ (s.tables.dirty ++ (s.tables.words ++ s.tables.tags)); printed = 3 ∷ 2 ∷ 1 ∷ 5 ∷ 6 ∷ [] }
    ∷ record {
      given =
          x.hit ∷ x.fill ∷ c.hits ∷ c.misses ∷ c.evicted ∷ c.written ∷ c.flushed ∷ c.fills ∷ c.dropped ∷ [];
      printed = 3 ∷ 3 ∷ 255 ∷ 20 ∷ 30 ∷ 40 ∷ 50 ∷ 60 ∷ 70 ∷ [];
    }
    ∷ []

unfoldable pub blocks : List Case
blocks = begun ++ (steps_done ++ (turned_down ++ held))
