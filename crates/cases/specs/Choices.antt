-- Job 8's cases, on lent states: "Among invalid ways, among NRU ways whose bit is one, and for the NRU default, the highest way now wins. Hit lookup keeps the
-- lowest." Each is worked out by hand from document 02.
use Rattle.std.specs.Prelude.{List, [], ◌∷◌, ◌++◌, replicate}
use Rattle.cases.specs.Case.{Case, hit, fill, evict, flush}
use Rattle.cases.specs.States.{plru, nru, lru, loads, stores, flushes, line, domain, row, after}

-- "Among invalid ways"
abbrev invalid : List Case
invalid =
    -- of ways 0, 1 and 2 way 2; way 3 is another's
    after (plru 1 4) (loads 0 (line 9))
    (row (5 ∷ 6 ∷ 7 ∷ 8 ∷ []) 0 0 7 (domain 7 7 1 2 3 4 5 6 7 ∷ []))
    (fill 2)
    (row (5 ∷ 6 ∷ 9 ∷ 8 ∷ []) 4 0 6 (domain 7 7 1 3 3 4 5 7 7 ∷ []))
    -- a valid way above is passed over
    ∷ after (plru 1 4) (stores 0 (line 9))
    (row (5 ∷ 6 ∷ 7 ∷ 8 ∷ []) 8 0 0 (domain 15 15 1 2 3 4 5 6 7 ∷ []))
    (fill 2)
    (row (5 ∷ 6 ∷ 9 ∷ 8 ∷ []) 12 4 4 (domain 15 15 1 3 3 4 5 7 7 ∷ []))
    -- "of the fill map": way 3 is invalid and locked
    ∷ after (plru 1 4) (loads 0 (line 9))
    (row (5 ∷ 6 ∷ 7 ∷ 8 ∷ []) 4 0 2 (domain 15 3 1 2 3 4 5 6 7 ∷ []))
    (fill 1)
    (row (5 ∷ 9 ∷ 7 ∷ 8 ∷ []) 6 0 0 (domain 15 3 1 3 3 4 5 7 7 ∷ []))
    -- NRU bits have no say in it: way 2, whose bit is zero, and not way 0, whose bit is one
    ∷ after (nru 1 4) (loads 0 (line 9))
    (row (5 ∷ 6 ∷ 7 ∷ 8 ∷ []) 8 0 9 (domain 13 13 1 2 3 4 5 6 7 ∷ []))
    (fill 2)
    (row (5 ∷ 6 ∷ 9 ∷ 8 ∷ []) 12 0 9 (domain 13 13 1 3 3 4 5 7 7 ∷ []))
    -- nor has the order of true LRU, here 2, 3, 0, 1: way 2, the most recent, and not way 1, at the old end
    ∷ after (lru 1 4) (loads 0 (line 9))
    (row (5 ∷ 6 ∷ 7 ∷ 8 ∷ []) 9 0 0x1032 (domain 15 15 1 2 3 4 5 6 7 ∷ []))
    (fill 2)
    (row (5 ∷ 6 ∷ 9 ∷ 8 ∷ []) 13 0 0x1032 (domain 15 15 1 3 3 4 5 7 7 ∷ []))
    -- sixteen ways, and a map without way 15
    ∷ after (nru 1 16) (loads 0 (line 9))
    (row (replicate 16 5) 0 0 65535 (domain 0x7ffe 0x7ffe 1 2 3 4 5 6 7 ∷ []))
    (fill 14)
    (row (replicate 14 5 ++ (9 ∷ 5 ∷ [])) 0x4000 0 0xbfff (domain 0x7ffe 0x7ffe 1 3 3 4 5 7 7 ∷ []))
    ∷ []

-- "among NRU ways whose bit is one"
abbrev ones : List Case
ones =
    -- the bits of ways 1 and 2 are one
    after (nru 1 4) (loads 0 (line 9))
    (row (5 ∷ 6 ∷ 7 ∷ 8 ∷ []) 15 2 6 (domain 15 15 1 2 3 4 5 6 7 ∷ []))
    (evict 2 7 0)
    (row (5 ∷ 6 ∷ 9 ∷ 8 ∷ []) 15 2 2 (domain 15 15 1 3 4 4 5 7 7 ∷ []))
    -- "of the fill map": way 3 is not in it
    ∷ after (nru 1 4) (stores 0 (line 9))
    (row (5 ∷ 6 ∷ 7 ∷ 8 ∷ []) 15 4 15 (domain 15 7 1 2 3 4 5 6 7 ∷ []))
    (evict 2 7 1)
    (row (5 ∷ 6 ∷ 9 ∷ 8 ∷ []) 15 4 11 (domain 15 7 1 3 4 5 5 7 7 ∷ []))
    -- one alone: way 0
    ∷ after (nru 1 4) (loads 0 (line 9))
    (row (5 ∷ 6 ∷ 7 ∷ 8 ∷ []) 15 0 1 (domain 15 15 1 2 3 4 5 6 7 ∷ []))
    (evict 0 5 0)
    (row (9 ∷ 6 ∷ 7 ∷ 8 ∷ []) 15 0 0 (domain 15 15 1 3 4 4 5 7 7 ∷ []))
    ∷ []

-- "for the NRU default": the highest way of the fill map
abbrev default : List Case
default =
    -- of sixteen ways those from 4 to 7, beside the bits of all others
    after (nru 1 16) (loads 0 (line 9))
    (row (replicate 16 5) 65535 0 0xff0f (domain 0x00f0 0x00f0 1 2 3 4 5 6 7 ∷ []))
    (evict 7 5 0)
    (row (replicate 7 5 ++ (9 ∷ replicate 8 5)) 65535 0 0xff7f (domain 0x00f0 0x00f0 1 3 4 4 5 7 7 ∷ []))
    -- way 0 alone
    ∷ after (nru 1 4) (loads 0 (line 9))
    (row (5 ∷ 6 ∷ 7 ∷ 8 ∷ []) 15 0 14 (domain 1 1 1 2 3 4 5 6 7 ∷ []))
    (evict 0 5 0)
    (row (9 ∷ 6 ∷ 7 ∷ 8 ∷ []) 15 0 14 (domain 1 1 1 3 4 4 5 7 7 ∷ []))
    ∷ []

-- "Hit lookup keeps the lowest"
abbrev kept : List Case
kept =
    -- ways 1, 2 and 3 are valid with the tag: a hit in way 1
    after (nru 1 4) (loads 0 (line 5))
    (row (8 ∷ 5 ∷ 5 ∷ 5 ∷ []) 15 0 15 (domain 15 15 1 2 3 4 5 6 7 ∷ []))
    (hit 1)
    (row (8 ∷ 5 ∷ 5 ∷ 5 ∷ []) 15 0 13 (domain 15 15 2 2 3 4 5 6 7 ∷ []))
    -- and a flush of way 1
    ∷ after (plru 1 4) (flushes 0 (line 5))
    (row (8 ∷ 5 ∷ 5 ∷ 5 ∷ []) 15 2 7 (domain 15 15 1 2 3 4 5 6 7 ∷ []))
    (flush 1 1)
    (row (8 ∷ 5 ∷ 5 ∷ 5 ∷ []) 13 0 7 (domain 15 15 1 2 3 5 6 6 7 ∷ []))
    ∷ []

unfoldable pub choices : List Case
choices = invalid ++ (ones ++ (default ++ kept))
