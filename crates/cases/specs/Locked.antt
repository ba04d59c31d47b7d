-- Locked lines: "A licensee locks a working set by leaving its ways in the hit map and out of the fill map" (document 02, job 4). On lent states, each
-- worked out by hand: a hit and a flush are found in the hit map, and no replacement bit goes by them.
use Rattle.std.specs.Prelude.{List, [], ◌∷◌, ◌++◌, ℕ, replicate}
use Rattle.domains.specs.declared.Domain.{Domain}
use Rattle.steps.specs.Step.{State}
use Rattle.cases.specs.Case.{Case, hit, evict, pass, flush, absent, policy}
use Rattle.cases.specs.States.{plru, nru, lru, fetches, loads, stores, flushes, takes, line, domain, row, after, still}

-- Four ways of domain 0, of which ways 2 and 3 are locked. Valid map, dirty map, word, and the counts that move.
abbrev four : ℕ → ℕ → ℕ → List Domain → State
four = row (5 ∷ 6 ∷ 7 ∷ 8 ∷ [])

abbrev before : List Domain
before = domain 15 3 1 2 3 4 5 6 7 ∷ []

-- The same after a flush of a dirty line, and of a clean one; and after a hit.
abbrev flushed_dirty : List Domain
flushed_dirty = domain 15 3 1 2 3 5 6 6 7 ∷ []

abbrev flushed_clean : List Domain
flushed_clean = domain 15 3 1 2 3 4 6 6 7 ∷ []

abbrev after_hit : List Domain
after_hit = domain 15 3 2 2 3 4 5 6 7 ∷ []

-- *Flush.* "A hit, found as above", so in the hit map, "is made invalid and not dirty; its tag and all replacement bits stay."
abbrev locked_flushes : List Case
locked_flushes =
    -- Tree-PLRU: way 2, dirty
    after (plru 1 4) (flushes 0 (line 7)) (four 15 12 7 before) (flush 2 1) (four 11 8 7 flushed_dirty)
    -- and way 3, clean
    ∷ after (plru 1 4) (flushes 0 (line 8)) (four 15 4 0 before) (flush 3 0) (four 7 4 0 flushed_clean)
    -- NRU: the same
    ∷ after (nru 1 4) (flushes 0 (line 7)) (four 15 12 15 before) (flush 2 1) (four 11 8 15 flushed_dirty)
    ∷ after (nru 1 4) (flushes 0 (line 8)) (four 15 4 0 before) (flush 3 0) (four 7 4 0 flushed_clean)
    -- true LRU: the same
    ∷ after (lru 1 4) (flushes 0 (line 7)) (four 15 12 0x2301 before) (flush 2 1) (four 11 8 0x2301 flushed_dirty)
    ∷ after (lru 1 4) (flushes 0 (line 8)) (four 15 4 0x2301 before) (flush 3 0) (four 7 4 0x2301 flushed_clean)
    -- every way is locked: the fill map is empty
    ∷ after (plru 1 4) (flushes 0 (line 5))
    (four 15 1 7 (domain 15 0 1 2 3 4 5 6 7 ∷ []))
    (flush 0 1)
    (four 14 0 7 (domain 15 0 1 2 3 5 6 6 7 ∷ []))
    -- "the lowest way of the domain's hit map": ways 0 and 2 have the tag, and way 0 is the locked one
    ∷ after (plru 1 4) (flushes 0 (line 5))
    (row (5 ∷ 6 ∷ 5 ∷ 8 ∷ []) 15 4 7 (domain 15 12 1 2 3 4 5 6 7 ∷ []))
    (flush 0 0)
    (row (5 ∷ 6 ∷ 5 ∷ 8 ∷ []) 14 4 7 (domain 15 12 1 2 3 4 6 6 7 ∷ []))
    -- eight ways, of which way 5 alone is locked
    ∷ after (nru 1 8) (flushes 0 (line 9))
    (row (1 ∷ 2 ∷ 3 ∷ 4 ∷ 5 ∷ 9 ∷ 7 ∷ 8 ∷ []) 255 32 255 (domain 255 0xdf 1 2 3 4 5 6 7 ∷ []))
    (flush 5 1)
    (row (1 ∷ 2 ∷ 3 ∷ 4 ∷ 5 ∷ 9 ∷ 7 ∷ 8 ∷ []) 0xdf 0 255 (domain 255 0xdf 1 2 3 5 6 6 7 ∷ []))
    -- sixteen ways, of which the lower eight are locked: way 3
    ∷ after (plru 1 16) (flushes 0 (line 9))
    (row (1 ∷ 1 ∷ 1 ∷ 9 ∷ replicate 12 1) 65535 0xffff 0x7fff (domain 0xffff 0xff00 1 2 3 4 5 6 7 ∷ []))
    (flush 3 1)
    (row (1 ∷ 1 ∷ 1 ∷ 9 ∷ replicate 12 1) 0xfff7 0xfff7 0x7fff (domain 0xffff 0xff00 1 2 3 5 6 6 7 ∷ []))
    -- a line in way 2, which is not in the hit map either, is absent
    ∷ still (plru 1 4) (flushes 0 (line 7)) (four 15 4 7 (domain 11 3 1 2 3 4 5 6 7 ∷ [])) absent
    ∷ []

-- *Access.* "It hits the lowest way of the domain's hit map that is valid with an equal tag"; "turns no node on a touch outside the fill map".
abbrev locked_hits : List Case
locked_hits =
    -- a load, a fetch and a store in way 2, under Tree-PLRU: node 1 is free for ways 0 and 1, and no node moves
    after (plru 1 4) (loads 0 (line 7)) (four 15 0 7 before) (hit 2) (four 15 0 7 after_hit)
    ∷ after (plru 1 4) (fetches 0 (line 7)) (four 15 0 0 before) (hit 2) (four 15 0 0 after_hit)
    ∷ after (plru 1 4) (stores 0 (line 7)) (four 15 0 7 before) (hit 2) (four 15 4 7 after_hit)
    -- under NRU: the bits of locked ways stay, one or zero
    ∷ after (nru 1 4) (stores 0 (line 7)) (four 15 0 15 before) (hit 2) (four 15 4 15 after_hit)
    ∷ after (nru 1 4) (loads 0 (line 8)) (four 15 0 3 before) (hit 3) (four 15 0 3 after_hit)
    -- under true LRU: the order stays
    ∷ after (lru 1 4) (stores 0 (line 7)) (four 15 0 0x2301 before) (hit 2) (four 15 4 0x2301 after_hit)
    -- ways 0 and 2 have the tag, and way 0 is the locked one: it is hit, and no node moves
    ∷ after (plru 1 4) (loads 0 (line 5))
    (row (5 ∷ 6 ∷ 5 ∷ 8 ∷ []) 15 4 0 (domain 15 12 1 2 3 4 5 6 7 ∷ []))
    (hit 0)
    (row (5 ∷ 6 ∷ 5 ∷ 8 ∷ []) 15 4 0 (domain 15 12 2 2 3 4 5 6 7 ∷ []))
    -- sixteen ways, of which ways 4 to 7 are locked: node 0, free and above way 4, does not turn; a hit in way 3 turns nodes 0, 3 and 8
    ∷ after (plru 1 16) (loads 0 (line 9))
    (row (1 ∷ 1 ∷ 1 ∷ 2 ∷ 9 ∷ replicate 11 1) 65535 0 0 (domain 0xffff 0xff0f 1 2 3 4 5 6 7 ∷ []))
    (hit 4)
    (row (1 ∷ 1 ∷ 1 ∷ 2 ∷ 9 ∷ replicate 11 1) 65535 0 0 (domain 0xffff 0xff0f 2 2 3 4 5 6 7 ∷ []))
    ∷ after (plru 1 16) (loads 0 (line 2))
    (row (1 ∷ 1 ∷ 1 ∷ 2 ∷ 9 ∷ replicate 11 1) 65535 0 0x7ffe (domain 0xffff 0xff0f 1 2 3 4 5 6 7 ∷ []))
    (hit 3)
    (row (1 ∷ 1 ∷ 1 ∷ 2 ∷ 9 ∷ replicate 11 1) 65535 0 0x7ef7 (domain 0xffff 0xff0f 2 2 3 4 5 6 7 ∷ []))
    ∷ []

-- "the lowest invalid way of the fill map is filled", by job 8 the highest; "if none, the victim is evicted": no locked way is either.
abbrev locked_misses : List Case
locked_misses =
    -- way 2 was flushed and stays empty: way 1 is evicted, by node 1 of a word of ones, and node 1 turns left
    after (plru 1 4) (loads 0 (line 9))
    (four 11 8 7 before)
    (evict 1 6 0)
    (row (5 ∷ 9 ∷ 7 ∷ 8 ∷ []) 11 8 5 (domain 15 3 1 3 4 4 5 7 7 ∷ []))
    -- NRU: bits of locked ways are one, and those of ways 0 and 1 zero: they become one, and way 1 is evicted
    ∷ after (nru 1 4) (loads 0 (line 9))
    (four 15 2 12 before)
    (evict 1 6 1)
    (row (5 ∷ 9 ∷ 7 ∷ 8 ∷ []) 15 0 13 (domain 15 3 1 3 4 5 5 7 7 ∷ []))
    -- true LRU: of the order 0, 1, 3, 2 way 1 is evicted, and comes to place 0
    ∷ after (lru 1 4) (stores 0 (line 9))
    (four 15 0 0x2310 before)
    (evict 1 6 0)
    (row (5 ∷ 9 ∷ 7 ∷ 8 ∷ []) 15 2 0x2301 (domain 15 3 1 3 4 4 5 7 7 ∷ []))
    -- where every way is locked a miss passes, also where a way is empty
    ∷ after (nru 1 4) (loads 0 (line 9)) (four 7 0 15 (domain 15 0 1 2 3 4 5 6 7 ∷ [])) pass (four 7 0 15 (domain 15 0 1 3 3 4 5 6 7 ∷ []))
    ∷ []

-- Locking itself, a policy change that keeps the hit map, drops no line; and so does unlocking.
abbrev locking : List Case
locking =
    -- Tree-PLRU: from 15 to 3, whose one free node is 1: nodes 0 and 2 become zero; and back
    after (plru 1 4) (takes 0 15 3) (four 15 12 7 (domain 15 15 1 2 3 4 5 6 7 ∷ [])) (policy 0 0) (four 15 12 2 before)
    ∷ after (plru 1 4) (takes 0 15 15) (four 15 12 7 before) (policy 0 0) (four 15 12 2 (domain 15 15 1 2 3 4 5 6 7 ∷ []))
    ∷ []

unfoldable pub locked_lines : List Case
locked_lines = locked_flushes ++ (locked_hits ++ (locked_misses ++ locking))
