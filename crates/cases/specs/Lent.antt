-- Cases on lent states. They are ours and not document 01's: each is worked out by hand from document 01, and from document 02's jobs 1, 6 and 8. Where
-- a sentence of them says what a case shows, the comment quotes it.
use Rattle.std.specs.Prelude.{List, [], ◌∷◌, ◌++◌, ℕ, replicate}
use Rattle.cases.specs.Case.{Case, hit, fill, evict, pass, flush, absent, policy, refused}
use Rattle.cases.specs.States.{plru, nru, lru, fetches, loads, stores, flushes, takes, line, domain, state, row, after, still, begins}

-- "Line = address / 64; set = line mod S; tag = line / S (whole division)"; "the W tags of a set side by side": those of set s are at
-- s × W and on.
abbrev places : List Case
places =
    -- two sets of two ways: address 192 is in line 3, so set 1 and tag 1
    after (plru 2 2) (stores 0 192)
    (state (8 ∷ 9 ∷ 10 ∷ 11 ∷ []) (0 ∷ 0 ∷ []) (0 ∷ 0 ∷ []) (1 ∷ 1 ∷ []) (domain 3 3 1 2 3 4 5 6 7 ∷ []))
    (fill 1)
    (state (8 ∷ 9 ∷ 10 ∷ 1 ∷ []) (0 ∷ 2 ∷ []) (0 ∷ 2 ∷ []) (1 ∷ 0 ∷ []) (domain 3 3 1 3 3 4 5 7 7 ∷ []))
    -- where both sets have the tag, it is hit in the address's own
    ∷ after (plru 2 2) (loads 0 192)
    (state (8 ∷ 1 ∷ 1 ∷ 11 ∷ []) (3 ∷ 1 ∷ []) (0 ∷ 0 ∷ []) (1 ∷ 0 ∷ []) (domain 3 3 1 2 3 4 5 6 7 ∷ []))
    (hit 0)
    (state (8 ∷ 1 ∷ 1 ∷ 11 ∷ []) (3 ∷ 1 ∷ []) (0 ∷ 0 ∷ []) (1 ∷ 1 ∷ []) (domain 3 3 2 2 3 4 5 6 7 ∷ []))
    -- two sets of four ways: address 447 is in line 6, so set 0 and tag 3
    ∷ after (plru 2 4) (loads 0 447)
    (state (8 ∷ 9 ∷ 10 ∷ 11 ∷ 12 ∷ 13 ∷ 14 ∷ 15 ∷ []) (1 ∷ 15 ∷ []) (0 ∷ 8 ∷ []) (7 ∷ 5 ∷ []) (domain 15 15 1 2 3 4 5 6 7 ∷ []))
    (fill 3)
    (state (8 ∷ 9 ∷ 10 ∷ 3 ∷ 12 ∷ 13 ∷ 14 ∷ 15 ∷ []) (9 ∷ 15 ∷ []) (0 ∷ 8 ∷ []) (2 ∷ 5 ∷ []) (domain 15 15 1 3 3 4 5 7 7 ∷ []))
    -- the next line, 7, is in set 1 and has tag 3 as well
    ∷ after (plru 2 4) (loads 0 448)
    (state (8 ∷ 9 ∷ 10 ∷ 11 ∷ 12 ∷ 13 ∷ 14 ∷ 15 ∷ []) (1 ∷ 15 ∷ []) (0 ∷ 8 ∷ []) (7 ∷ 5 ∷ []) (domain 15 15 1 2 3 4 5 6 7 ∷ []))
    (evict 3 15 1)
    (state (8 ∷ 9 ∷ 10 ∷ 11 ∷ 12 ∷ 13 ∷ 14 ∷ 3 ∷ []) (1 ∷ 15 ∷ []) (0 ∷ 0 ∷ []) (7 ∷ 0 ∷ []) (domain 15 15 1 3 4 5 5 7 7 ∷ []))
    -- "Addresses have 64 bits": the largest is in line 2 ^ 58 - 1, so set 1 and tag 2 ^ 57 - 1
    ∷ after (plru 2 2) (fetches 0 18446744073709551615)
    (state (8 ∷ 9 ∷ 10 ∷ 11 ∷ []) (3 ∷ 1 ∷ []) (0 ∷ 0 ∷ []) (0 ∷ 1 ∷ []) (domain 3 3 1 2 3 4 5 6 7 ∷ []))
    (fill 1)
    (state (8 ∷ 9 ∷ 10 ∷ 144115188075855871 ∷ []) (3 ∷ 3 ∷ []) (0 ∷ 0 ∷ []) (0 ∷ 0 ∷ []) (domain 3 3 1 3 3 4 5 7 7 ∷ []))
    ∷ []

-- "2: a table whose length is not exactly the one above."
abbrev sizes : List Case
sizes =
    -- a tag too few
    still (plru 1 2) (loads 0 (line 5)) (state (5 ∷ []) (3 ∷ []) (0 ∷ []) (0 ∷ []) (domain 3 3 1 2 3 4 5 6 7 ∷ [])) (refused 2)
    -- a tag too many
    ∷ still (plru 1 2) (loads 0 (line 5)) (state (5 ∷ 6 ∷ 7 ∷ []) (3 ∷ []) (0 ∷ []) (0 ∷ []) (domain 3 3 1 2 3 4 5 6 7 ∷ [])) (refused 2)
    -- a valid map too many
    ∷ still (plru 1 2) (loads 0 (line 5)) (state (5 ∷ 6 ∷ []) (3 ∷ 3 ∷ []) (0 ∷ []) (0 ∷ []) (domain 3 3 1 2 3 4 5 6 7 ∷ [])) (refused 2)
    -- a dirty map too many
    ∷ still (plru 1 2) (loads 0 (line 5)) (state (5 ∷ 6 ∷ []) (3 ∷ []) (0 ∷ 0 ∷ []) (0 ∷ []) (domain 3 3 1 2 3 4 5 6 7 ∷ [])) (refused 2)
    -- a replacement word too many
    ∷ still (plru 1 2) (loads 0 (line 5)) (state (5 ∷ 6 ∷ []) (3 ∷ []) (0 ∷ []) (0 ∷ 0 ∷ []) (domain 3 3 1 2 3 4 5 6 7 ∷ [])) (refused 2)
    ∷ []

-- "7: access or flush while any count of that domain is 4,294,967,295."
abbrev largest : ℕ
largest = 4294967295

abbrev below : ℕ
below = 4294967294

abbrev full_counts : List Case
full_counts =
    -- the count of hits
    still (plru 1 2) (loads 0 (line 5)) (row (5 ∷ 6 ∷ []) 3 1 0 (domain 3 3 largest 2 3 4 5 6 7 ∷ [])) (refused 7)
    -- of misses
    ∷ still (plru 1 2) (loads 0 (line 5)) (row (5 ∷ 6 ∷ []) 3 1 0 (domain 3 3 1 largest 3 4 5 6 7 ∷ [])) (refused 7)
    -- of evicted lines
    ∷ still (plru 1 2) (loads 0 (line 5)) (row (5 ∷ 6 ∷ []) 3 1 0 (domain 3 3 1 2 largest 4 5 6 7 ∷ [])) (refused 7)
    -- of lines written back
    ∷ still (plru 1 2) (loads 0 (line 5)) (row (5 ∷ 6 ∷ []) 3 1 0 (domain 3 3 1 2 3 largest 5 6 7 ∷ [])) (refused 7)
    -- of flushed lines
    ∷ still (plru 1 2) (loads 0 (line 5)) (row (5 ∷ 6 ∷ []) 3 1 0 (domain 3 3 1 2 3 4 largest 6 7 ∷ [])) (refused 7)
    -- job 6: "7 covers seven counts": of fills
    ∷ still (plru 1 2) (loads 0 (line 5)) (row (5 ∷ 6 ∷ []) 3 1 0 (domain 3 3 1 2 3 4 5 largest 7 ∷ [])) (refused 7)
    -- and of dropped lines, also for a flush
    ∷ still (plru 1 2) (loads 0 (line 5)) (row (5 ∷ 6 ∷ []) 3 1 0 (domain 3 3 1 2 3 4 5 6 largest ∷ [])) (refused 7)
    ∷ still (plru 1 2) (flushes 0 (line 5)) (row (5 ∷ 6 ∷ []) 3 1 0 (domain 3 3 1 2 3 4 5 6 largest ∷ [])) (refused 7)
    -- one below it in each stands: a hit
    ∷ after (plru 1 2) (loads 0 (line 5))
    (row (5 ∷ 6 ∷ []) 3 1 0 (domain 3 3 below below below below below below below ∷ []))
    (hit 0)
    (row (5 ∷ 6 ∷ []) 3 1 1 (domain 3 3 largest below below below below below below ∷ []))
    -- an eviction
    ∷ after (plru 1 2) (loads 0 (line 7))
    (row (5 ∷ 6 ∷ []) 3 1 0 (domain 3 3 below below below below below below below ∷ []))
    (evict 0 5 1)
    (row (7 ∷ 6 ∷ []) 3 0 1 (domain 3 3 below largest largest largest below largest below ∷ []))
    -- a flush
    ∷ after (plru 1 2) (flushes 0 (line 5))
    (row (5 ∷ 6 ∷ []) 3 1 0 (domain 3 3 below below below below below below below ∷ []))
    (flush 0 1)
    (row (5 ∷ 6 ∷ []) 2 0 0 (domain 3 3 below below below largest largest below below ∷ []))
    -- "If several hold, the lowest number is given": with an empty hit map an access is 6
    ∷ still (plru 1 2) (loads 0 (line 5)) (row (5 ∷ 6 ∷ []) 3 1 0 (domain 0 0 largest largest largest largest largest largest largest ∷ [])) (refused 6)
    -- and so is a flush
    ∷ still (plru 1 2) (flushes 0 (line 5)) (row (5 ∷ 6 ∷ []) 3 1 0 (domain 0 0 largest largest largest largest largest largest largest ∷ [])) (refused 6)
    -- 7 for a flush that would be absent, and would move no count
    ∷ still (plru 1 2) (flushes 0 (line 7)) (row (5 ∷ 6 ∷ []) 3 1 0 (domain 3 3 largest 2 3 4 5 6 7 ∷ [])) (refused 7)
    -- 7 for an access that would pass, and would move another count
    ∷ still (plru 1 2) (loads 0 (line 7)) (row (5 ∷ 6 ∷ []) 3 1 0 (domain 3 0 1 2 3 4 largest 6 7 ∷ [])) (refused 7)
    -- "access or flush": of a policy change 7 asks the count of dropped lines alone
    ∷ after (plru 1 2) (takes 0 1 1)
    (row (5 ∷ 6 ∷ []) 3 2 1 (domain 3 3 largest largest largest largest largest largest 7 ∷ []))
    (policy 1 1)
    (row (5 ∷ 0 ∷ []) 1 0 0 (domain 1 1 largest largest largest largest largest largest 8 ∷ []))
    -- and a removal is not
    ∷ after (plru 1 2) (takes 0 0 0)
    (row (5 ∷ 6 ∷ []) 3 2 1 (domain 3 3 largest largest largest largest largest largest largest ∷ []))
    (policy 2 1)
    (row (0 ∷ 0 ∷ []) 0 0 0 (domain 0 0 0 0 0 0 0 0 0 ∷ []))
    -- "of that domain": another's full counts do not matter
    ∷ after (plru 1 2) (loads 1 (line 6))
    (row (5 ∷ 6 ∷ []) 3 1 0 (domain 1 1 largest largest largest largest largest largest largest ∷ domain 2 2 1 2 3 4 5 6 7 ∷ []))
    (hit 1)
    (row (5 ∷ 6 ∷ []) 3 1 0 (domain 1 1 largest largest largest largest largest largest largest ∷ domain 2 2 2 2 3 4 5 6 7 ∷ []))
    ∷ []

-- "Fresh: all zero, except that under NRU the low W bits of each replacement word are one. All policies and counts are zero."
abbrev fresh_states : List Case
fresh_states =
    -- NRU, 16 ways
    begins (nru 1 16) (row (replicate 16 0) 0 0 65535 [])
    -- NRU, 2 ways: "each replacement word"
    ∷ begins (nru 2 2) (state (replicate 4 0) (0 ∷ 0 ∷ []) (0 ∷ 0 ∷ []) (3 ∷ 3 ∷ []) [])
    -- Tree-PLRU, 16 ways
    ∷ begins (plru 1 16) (row (replicate 16 0) 0 0 0 [])
    -- Tree-PLRU, 2 ways
    ∷ begins (plru 2 2) (state (replicate 4 0) (0 ∷ 0 ∷ []) (0 ∷ 0 ∷ []) (0 ∷ 0 ∷ []) [])
    -- job 1: "Fresh, place k holds way W − 1 − k": true LRU, 16 ways
    ∷ begins (lru 1 16) (row (replicate 16 0) 0 0 0x0123456789abcdef [])
    -- true LRU, 2 ways: way 1 in place 0 and way 0 in place 1 of each word
    ∷ begins (lru 2 2) (state (replicate 4 0) (0 ∷ 0 ∷ []) (0 ∷ 0 ∷ []) (0x01 ∷ 0x01 ∷ []) [])
    ∷ []

abbrev accesses : List Case
accesses =
    -- "the way is touched, and a store marks it dirty"
    after (plru 1 2) (stores 0 (line 6))
    (row (5 ∷ 6 ∷ []) 3 0 1 (domain 3 3 1 2 3 4 5 6 7 ∷ []))
    (hit 1)
    (row (5 ∷ 6 ∷ []) 3 2 0 (domain 3 3 2 2 3 4 5 6 7 ∷ []))
    -- a load that hits leaves the dirty mark as it is
    ∷ after (plru 1 2) (loads 0 (line 6))
    (row (5 ∷ 6 ∷ []) 3 2 1 (domain 3 3 1 2 3 4 5 6 7 ∷ []))
    (hit 1)
    (row (5 ∷ 6 ∷ []) 3 2 0 (domain 3 3 2 2 3 4 5 6 7 ∷ []))
    -- "It hits the lowest way of the domain's hit map that is valid with an equal tag": way 0 is not in the map, way 1 is invalid
    ∷ after (plru 1 4) (loads 0 (line 5))
    (row (5 ∷ 5 ∷ 5 ∷ 5 ∷ []) 13 0 0 (domain 14 14 1 2 3 4 5 6 7 ∷ []))
    (hit 2)
    (row (5 ∷ 5 ∷ 5 ∷ 5 ∷ []) 13 0 4 (domain 14 14 2 2 3 4 5 6 7 ∷ []))
    -- "Touching way w sets each free node", and for an empty fill map no node is free
    ∷ after (plru 1 2) (loads 0 (line 6))
    (row (5 ∷ 6 ∷ []) 3 0 1 (domain 3 0 1 2 3 4 5 6 7 ∷ []))
    (hit 1)
    (row (5 ∷ 6 ∷ []) 3 0 1 (domain 3 0 2 2 3 4 5 6 7 ∷ []))
    -- document 02, job 4: it "turns no node on a touch outside the fill map". Fill map 6 has free node 0, above the locked way 3 and above way 2
    ∷ after (plru 1 4) (loads 0 (line 8))
    (row (5 ∷ 6 ∷ 7 ∷ 8 ∷ []) 15 0 7 (domain 15 6 1 2 3 4 5 6 7 ∷ []))
    (hit 3)
    (row (5 ∷ 6 ∷ 7 ∷ 8 ∷ []) 15 0 7 (domain 15 6 2 2 3 4 5 6 7 ∷ []))
    -- a store to a locked line marks it dirty, and turns no node either
    ∷ after (plru 1 4) (stores 0 (line 5))
    (row (5 ∷ 6 ∷ 7 ∷ 8 ∷ []) 15 0 0 (domain 15 6 1 2 3 4 5 6 7 ∷ []))
    (hit 0)
    (row (5 ∷ 6 ∷ 7 ∷ 8 ∷ []) 15 1 0 (domain 15 6 2 2 3 4 5 6 7 ∷ []))
    -- way 2 is in the fill map: node 0 turns away from it, and nodes 1 and 2, which are not free, stay
    ∷ after (plru 1 4) (loads 0 (line 7))
    (row (5 ∷ 6 ∷ 7 ∷ 8 ∷ []) 15 0 7 (domain 15 6 1 2 3 4 5 6 7 ∷ []))
    (hit 2)
    (row (5 ∷ 6 ∷ 7 ∷ 8 ∷ []) 15 0 6 (domain 15 6 2 2 3 4 5 6 7 ∷ []))
    -- "Touching w clears its bit if w is in the fill map": here it is in the hit map alone
    ∷ after (nru 1 2) (loads 0 (line 6))
    (row (5 ∷ 6 ∷ []) 3 0 3 (domain 3 1 1 2 3 4 5 6 7 ∷ []))
    (hit 1)
    (row (5 ∷ 6 ∷ []) 3 0 3 (domain 3 1 2 2 3 4 5 6 7 ∷ []))
    -- and here in both
    ∷ after (nru 1 2) (loads 0 (line 5))
    (row (5 ∷ 6 ∷ []) 3 0 3 (domain 3 1 1 2 3 4 5 6 7 ∷ []))
    (hit 0)
    (row (5 ∷ 6 ∷ []) 3 0 2 (domain 3 1 2 2 3 4 5 6 7 ∷ []))
    -- "With an empty fill map it passes: nothing but the miss count moves", also where a way is invalid
    ∷ after (plru 1 2) (stores 0 (line 7))
    (row (5 ∷ 6 ∷ []) 2 2 1 (domain 3 0 1 2 3 4 5 6 7 ∷ []))
    pass
    (row (5 ∷ 6 ∷ []) 2 2 1 (domain 3 0 1 3 3 4 5 6 7 ∷ []))
    -- "The filled way is valid, dirty only for a store": a dirty mark on an invalid way goes when a load fills it
    ∷ after (plru 1 2) (loads 0 (line 7))
    (row (5 ∷ 6 ∷ []) 2 3 0 (domain 3 3 1 2 3 4 5 6 7 ∷ []))
    (fill 0)
    (row (7 ∷ 6 ∷ []) 3 2 1 (domain 3 3 1 3 3 4 5 7 7 ∷ []))
    -- "the victim is evicted and its tag and dirtiness answered": a load over a dirty line leaves the way clean
    ∷ after (plru 1 2) (loads 0 (line 7))
    (row (5 ∷ 6 ∷ []) 3 3 0 (domain 3 3 1 2 3 4 5 6 7 ∷ []))
    (evict 0 5 1)
    (row (7 ∷ 6 ∷ []) 3 2 1 (domain 3 3 1 3 4 5 5 7 7 ∷ []))
    -- a store over a clean line makes the way dirty, and nothing is written back
    ∷ after (plru 1 2) (stores 0 (line 7))
    (row (5 ∷ 6 ∷ []) 3 1 1 (domain 3 3 1 2 3 4 5 6 7 ∷ []))
    (evict 1 6 0)
    (row (5 ∷ 7 ∷ []) 3 3 0 (domain 3 3 1 3 4 4 5 7 7 ∷ []))
    -- "if there is none, all bits of the fill map become one", and by job 8 its highest way is the victim: ways 0 and 3 are others'
    ∷ after (nru 1 4) (loads 0 (line 9))
    (row (5 ∷ 6 ∷ 7 ∷ 8 ∷ []) 15 8 9 (domain 6 6 1 2 3 4 5 6 7 ∷ []))
    (evict 2 7 0)
    (row (5 ∷ 6 ∷ 9 ∷ 8 ∷ []) 15 8 11 (domain 6 6 1 3 4 4 5 7 7 ∷ []))
    ∷ []

-- "A hit, found as above, is made invalid and not dirty; its tag and all replacement bits stay."
abbrev line_flushes : List Case
line_flushes =
    -- a dirty line: "flushed rises by one and, if dirty, written back too"
    after (plru 1 4) (flushes 0 (line 9))
    (row (7 ∷ 8 ∷ 9 ∷ 10 ∷ []) 15 6 5 (domain 15 15 1 2 3 4 5 6 7 ∷ []))
    (flush 2 1)
    (row (7 ∷ 8 ∷ 9 ∷ 10 ∷ []) 11 2 5 (domain 15 15 1 2 3 5 6 6 7 ∷ []))
    -- a clean line, under NRU
    ∷ after (nru 1 4) (flushes 0 (line 7))
    (row (7 ∷ 8 ∷ 9 ∷ 10 ∷ []) 15 6 15 (domain 15 15 1 2 3 4 5 6 7 ∷ []))
    (flush 0 0)
    (row (7 ∷ 8 ∷ 9 ∷ 10 ∷ []) 14 6 15 (domain 15 15 1 2 3 4 6 6 7 ∷ []))
    -- of two valid ways with one tag, the lowest of the hit map
    ∷ after (plru 1 4) (flushes 0 (line 5))
    (row (5 ∷ 5 ∷ 5 ∷ 5 ∷ []) 15 8 0 (domain 12 12 1 2 3 4 5 6 7 ∷ []))
    (flush 2 0)
    (row (5 ∷ 5 ∷ 5 ∷ 5 ∷ []) 11 8 0 (domain 12 12 1 2 3 4 6 6 7 ∷ []))
    -- "Else the answer is absent and no count moves": the line is in a way outside the hit map
    ∷ still (plru 1 4) (flushes 0 (line 9)) (row (7 ∷ 8 ∷ 9 ∷ 10 ∷ []) 15 15 5 (domain 3 3 1 2 3 4 5 6 7 ∷ [])) absent
    -- its way is invalid, and keeps its dirty mark
    ∷ still (plru 1 4) (flushes 0 (line 7)) (row (7 ∷ 8 ∷ 9 ∷ 10 ∷ []) 14 15 5 (domain 3 3 1 2 3 4 5 6 7 ∷ [])) absent
    ∷ []

-- "Ways in exactly one of the old and new hit maps are cleaned in every set: invalid, not dirty, tag zero." "The answer is the number of
-- valid lines dropped and how many of them were dirty; counts do not move", but for the lines dropped, which document 02's job 6 counts.
abbrev cleanings : List Case
cleanings =
    -- way 1 is gained, with a line in it that is nobody's; way 0, in both maps, and ways 2 and 3, in neither, are left alone
    after (plru 1 4) (takes 0 3 3)
    (row (5 ∷ 6 ∷ 7 ∷ 8 ∷ []) 15 15 7 (domain 1 1 1 2 3 4 5 6 7 ∷ []))
    (policy 1 1)
    (row (5 ∷ 0 ∷ 7 ∷ 8 ∷ []) 13 13 5 (domain 3 3 1 2 3 4 5 6 8 ∷ []))
    -- way 1 is lost
    ∷ after (plru 1 4) (takes 0 1 1)
    (row (5 ∷ 6 ∷ 7 ∷ 8 ∷ []) 15 13 7 (domain 3 3 1 2 3 4 5 6 7 ∷ []))
    (policy 1 0)
    (row (5 ∷ 0 ∷ 7 ∷ 8 ∷ []) 13 13 5 (domain 1 1 1 2 3 4 5 6 8 ∷ []))
    -- way 0 is lost, way 2 gained, way 1 in both
    ∷ after (nru 1 4) (takes 0 6 6)
    (row (5 ∷ 6 ∷ 7 ∷ 8 ∷ []) 15 7 0 (domain 3 3 1 2 3 4 5 6 7 ∷ []))
    (policy 2 2)
    (row (0 ∷ 6 ∷ 0 ∷ 8 ∷ []) 10 2 5 (domain 6 6 1 2 3 4 5 6 9 ∷ []))
    -- "in every set"
    ∷ after (plru 2 2) (takes 0 3 3)
    (state (5 ∷ 6 ∷ 7 ∷ 8 ∷ []) (3 ∷ 2 ∷ []) (2 ∷ 0 ∷ []) (1 ∷ 1 ∷ []) (domain 1 1 1 2 3 4 5 6 7 ∷ []))
    (policy 2 1)
    (state (5 ∷ 0 ∷ 7 ∷ 0 ∷ []) (1 ∷ 0 ∷ []) (0 ∷ 0 ∷ []) (0 ∷ 0 ∷ []) (domain 3 3 1 2 3 4 5 6 9 ∷ []))
    -- "how many of them": a dirty mark on an invalid way is not counted, and goes with its way
    ∷ after (plru 1 2) (takes 0 3 3)
    (row (5 ∷ 6 ∷ []) 0 3 1 (domain 1 1 1 2 3 4 5 6 7 ∷ []))
    (policy 0 0)
    (row (5 ∷ 0 ∷ []) 0 1 0 (domain 3 3 1 2 3 4 5 6 7 ∷ []))
    -- "counts do not move": a dirty line that is dropped is not written back, nor flushed, nor evicted
    ∷ after (plru 1 2) (takes 0 2 2)
    (row (5 ∷ 6 ∷ []) 3 3 1 (domain 3 3 1 2 3 4 5 6 7 ∷ []))
    (policy 1 1)
    (row (0 ∷ 6 ∷ []) 2 2 0 (domain 2 2 1 2 3 4 5 6 8 ∷ []))
    -- "Two zero maps remove the domain and zero its counts", and no other's
    ∷ after (plru 1 2) (takes 0 0 0)
    (row (5 ∷ 6 ∷ []) 3 1 1 (domain 3 3 1 2 3 4 5 6 7 ∷ domain 0 0 1 2 3 4 5 6 7 ∷ []))
    (policy 2 1)
    (row (0 ∷ 0 ∷ []) 0 0 0 (domain 0 0 0 0 0 0 0 0 0 ∷ domain 0 0 1 2 3 4 5 6 7 ∷ []))
    -- also where the domain has no way
    ∷ after (plru 1 2) (takes 0 0 0)
    (row (5 ∷ 6 ∷ []) 3 1 1 (domain 0 0 1 2 3 4 5 6 7 ∷ []))
    (policy 0 0)
    (row (5 ∷ 6 ∷ []) 3 1 1 (domain 0 0 0 0 0 0 0 0 0 ∷ []))
    -- a hit map with an empty fill map is no removal: the counts stay
    ∷ after (plru 1 2) (takes 0 3 0)
    (row (5 ∷ 6 ∷ []) 3 1 1 (domain 3 3 1 2 3 4 5 6 7 ∷ []))
    (policy 0 0)
    (row (5 ∷ 6 ∷ []) 3 1 0 (domain 3 0 1 2 3 4 5 6 7 ∷ []))
    -- a fill map with an empty hit map is "a fill map that is not part of the hit map"
    ∷ still (plru 1 2) (takes 0 0 1) (row (5 ∷ 6 ∷ []) 3 1 1 (domain 3 3 1 2 3 4 5 6 7 ∷ [])) (refused 5)
    ∷ []

-- Document 02, job 6: "7 covers seven counts, and also a policy change, other than a removal, whose drops would carry dropped past the largest
-- count".
abbrev spent_drops : List Case
spent_drops =
    -- one line more than the count has room for
    still (plru 1 2) (takes 0 1 1) (row (5 ∷ 6 ∷ []) 3 2 1 (domain 3 3 1 2 3 4 5 6 largest ∷ [])) (refused 7)
    -- "past": the largest count may be reached
    ∷ after (plru 1 2) (takes 0 1 1)
    (row (5 ∷ 6 ∷ []) 3 2 1 (domain 3 3 1 2 3 4 5 6 below ∷ []))
    (policy 1 1)
    (row (5 ∷ 0 ∷ []) 1 0 0 (domain 1 1 1 2 3 4 5 6 largest ∷ []))
    -- where nothing is dropped, nothing is carried past it
    ∷ after (plru 1 2) (takes 0 1 1)
    (row (5 ∷ 6 ∷ []) 1 2 1 (domain 3 3 1 2 3 4 5 6 largest ∷ []))
    (policy 0 0)
    (row (5 ∷ 0 ∷ []) 1 0 0 (domain 1 1 1 2 3 4 5 6 largest ∷ []))
    -- "whose drops", of all sets together: one in each of two
    ∷ still (nru 2 2) (takes 0 1 1)
    (state (5 ∷ 6 ∷ 7 ∷ 8 ∷ []) (3 ∷ 3 ∷ []) (0 ∷ 0 ∷ []) (0 ∷ 0 ∷ []) (domain 3 3 1 2 3 4 5 6 below ∷ []))
    (refused 7)
    -- a line in a way that is gained counts, though it was nobody's
    ∷ still (plru 1 2) (takes 0 3 3) (row (5 ∷ 6 ∷ []) 2 0 0 (domain 1 1 1 2 3 4 5 6 largest ∷ [])) (refused 7)
    -- "If several hold, the lowest number is given": 5 before 7
    ∷ still (plru 1 2) (takes 0 4 4) (row (5 ∷ 6 ∷ []) 3 0 0 (domain 3 3 1 2 3 4 5 6 largest ∷ [])) (refused 5)
    -- 7 before 8: its own line in way 0 would be dropped
    ∷ still (plru 1 2) (takes 0 2 2) (row (5 ∷ 6 ∷ []) 3 0 0 (domain 1 1 1 2 3 4 5 6 largest ∷ domain 2 2 1 2 3 4 5 6 7 ∷ [])) (refused 7)
    -- a line that it would take from another domain is no drop of the change: 8
    ∷ still (plru 1 2) (takes 0 3 3) (row (5 ∷ 6 ∷ []) 3 0 0 (domain 1 1 1 2 3 4 5 6 largest ∷ domain 2 2 1 2 3 4 5 6 7 ∷ [])) (refused 8)
    -- 7 before 9, with lines in ways that are nobody's; without them it is 9
    ∷ still (plru 1 4) (takes 0 10 10)
    (row (5 ∷ 6 ∷ 7 ∷ 8 ∷ []) 15 0 0 (domain 0 0 1 2 3 4 5 6 largest ∷ domain 5 5 1 2 3 4 5 6 7 ∷ []))
    (refused 7)
    ∷ still (plru 1 4) (takes 0 10 10)
    (row (5 ∷ 6 ∷ 7 ∷ 8 ∷ []) 5 0 0 (domain 0 0 1 2 3 4 5 6 largest ∷ domain 5 5 1 2 3 4 5 6 7 ∷ []))
    (refused 9)
    -- lent maps that overlap: what the change gives up is cleaned, and counts, also where another domain has it
    ∷ still (plru 1 4) (takes 0 1 1)
    (row (5 ∷ 6 ∷ 7 ∷ 8 ∷ []) 15 10 7 (domain 7 7 1 2 3 4 5 6 below ∷ domain 6 6 1 2 3 4 5 6 7 ∷ []))
    (refused 7)
    -- "other than a removal", whose own drops are not kept
    ∷ after (plru 1 2) (takes 0 0 0)
    (row (5 ∷ 6 ∷ []) 3 0 0 (domain 3 3 1 2 3 4 5 6 below ∷ []))
    (policy 2 0)
    (row (0 ∷ 0 ∷ []) 0 0 0 (domain 0 0 0 0 0 0 0 0 0 ∷ []))
    ∷ []

-- "NRU bits of ways in exactly one of the old and new fill maps become one. Tree nodes free under exactly one of them become zero."
abbrev resets : List Case
resets =
    -- fill map 3 has free node 1, fill map 6 has free node 0, and node 2 is free under neither
    after (plru 1 4) (takes 0 15 6)
    (row (5 ∷ 6 ∷ 7 ∷ 8 ∷ []) 15 15 7 (domain 15 3 1 2 3 4 5 6 7 ∷ []))
    (policy 0 0)
    (row (5 ∷ 6 ∷ 7 ∷ 8 ∷ []) 15 15 4 (domain 15 6 1 2 3 4 5 6 7 ∷ []))
    -- fill map 7 has free nodes 0 and 1, so that node 1 is free under both
    ∷ after (plru 1 4) (takes 0 15 7)
    (row (5 ∷ 6 ∷ 7 ∷ 8 ∷ []) 15 15 7 (domain 15 3 1 2 3 4 5 6 7 ∷ []))
    (policy 0 0)
    (row (5 ∷ 6 ∷ 7 ∷ 8 ∷ []) 15 15 6 (domain 15 7 1 2 3 4 5 6 7 ∷ []))
    -- bits 0 and 2 become one; bit 1, of a way in both, stays zero, and bit 3, of a way in neither, stays one
    ∷ after (nru 1 4) (takes 0 15 6)
    (row (5 ∷ 6 ∷ 7 ∷ 8 ∷ []) 15 15 8 (domain 15 3 1 2 3 4 5 6 7 ∷ []))
    (policy 0 0)
    (row (5 ∷ 6 ∷ 7 ∷ 8 ∷ []) 15 15 13 (domain 15 6 1 2 3 4 5 6 7 ∷ []))
    -- bits 1 and 2 are one afterwards, whichever they were; bit 0, of a way in both, stays one, and bit 3, of a way in neither, zero
    ∷ after (nru 1 4) (takes 0 15 5)
    (row (5 ∷ 6 ∷ 7 ∷ 8 ∷ []) 15 15 3 (domain 15 3 1 2 3 4 5 6 7 ∷ []))
    (policy 0 0)
    (row (5 ∷ 6 ∷ 7 ∷ 8 ∷ []) 15 15 7 (domain 15 5 1 2 3 4 5 6 7 ∷ []))
    ∷ []

-- "Bits and words not named stay": those at W and above. Of two ways, 65,532 has the bits of a map from 2 on, and 2 ^ 64 - 4 those of a word.
abbrev high_bits : List Case
high_bits =
    -- a fill under Tree-PLRU: the word was 2 ^ 64 - 1
    after (plru 1 2) (stores 0 (line 7))
    (row (5 ∷ 6 ∷ []) 65532 65532 18446744073709551615 (domain 3 3 1 2 3 4 5 6 7 ∷ []))
    (fill 1)
    (row (5 ∷ 7 ∷ []) 65534 65534 18446744073709551614 (domain 3 3 1 3 3 4 5 7 7 ∷ []))
    -- a fill under NRU, where they are zero
    ∷ after (nru 1 2) (stores 0 (line 7))
    (row (5 ∷ 6 ∷ []) 0 0 3 (domain 3 3 1 2 3 4 5 6 7 ∷ []))
    (fill 1)
    (row (5 ∷ 7 ∷ []) 2 2 1 (domain 3 3 1 3 3 4 5 7 7 ∷ []))
    -- an eviction: no bit of the fill map is one, whatever stands above
    ∷ after (nru 1 2) (loads 0 (line 7))
    (row (5 ∷ 6 ∷ []) 65535 65535 18446744073709551612 (domain 3 3 1 2 3 4 5 6 7 ∷ []))
    (evict 1 6 1)
    (row (5 ∷ 7 ∷ []) 65535 65533 18446744073709551613 (domain 3 3 1 3 4 5 5 7 7 ∷ []))
    -- a hit
    ∷ after (nru 1 2) (stores 0 (line 6))
    (row (5 ∷ 6 ∷ []) 65535 65532 18446744073709551615 (domain 3 3 1 2 3 4 5 6 7 ∷ []))
    (hit 1)
    (row (5 ∷ 6 ∷ []) 65535 65534 18446744073709551613 (domain 3 3 2 2 3 4 5 6 7 ∷ []))
    -- a flush
    ∷ after (plru 1 2) (flushes 0 (line 6))
    (row (5 ∷ 6 ∷ []) 65535 65535 18446744073709551615 (domain 3 3 1 2 3 4 5 6 7 ∷ []))
    (flush 1 1)
    (row (5 ∷ 6 ∷ []) 65533 65533 18446744073709551615 (domain 3 3 1 2 3 5 6 6 7 ∷ []))
    -- a policy change under Tree-PLRU
    ∷ after (plru 1 2) (takes 0 3 3)
    (row (5 ∷ 6 ∷ []) 65535 65535 18446744073709551615 (domain 1 1 1 2 3 4 5 6 7 ∷ []))
    (policy 1 1)
    (row (5 ∷ 0 ∷ []) 65533 65533 18446744073709551614 (domain 3 3 1 2 3 4 5 6 8 ∷ []))
    -- a policy change under NRU
    ∷ after (nru 1 2) (takes 0 3 3)
    (row (5 ∷ 6 ∷ []) 65535 65535 18446744073709551612 (domain 1 1 1 2 3 4 5 6 7 ∷ []))
    (policy 1 1)
    (row (5 ∷ 0 ∷ []) 65533 65533 18446744073709551614 (domain 3 3 1 2 3 4 5 6 8 ∷ []))
    -- a removal: the bits of the word that are zero stay
    ∷ after (nru 1 2) (takes 0 0 0)
    (row (5 ∷ 6 ∷ []) 65535 65535 0 (domain 3 3 1 2 3 4 5 6 7 ∷ []))
    (policy 2 2)
    (row (0 ∷ 0 ∷ []) 65532 65532 3 (domain 0 0 0 0 0 0 0 0 0 ∷ []))
    ∷ []

-- "A stored policy may hold anything. It is read with ways of W or more left out of both maps and the fill map cut to its hit map; maps
-- that overlap between domains are read as they are."
abbrev stored_maps : List Case
stored_maps =
    -- hit map 3 and fill map 12: the fill map is read as empty, so that a miss passes
    after (nru 1 4) (loads 0 (line 9))
    (row (5 ∷ 6 ∷ 7 ∷ 8 ∷ []) 0 0 0 (domain 3 12 1 2 3 4 5 6 7 ∷ []))
    pass
    (row (5 ∷ 6 ∷ 7 ∷ 8 ∷ []) 0 0 0 (domain 3 12 1 3 3 4 5 6 7 ∷ []))
    -- and in a policy of 3 and 3 ways 0 and 1 are new in the fill map, and no way leaves it
    ∷ after (nru 1 4) (takes 0 3 3)
    (row (5 ∷ 6 ∷ 7 ∷ 8 ∷ []) 15 15 0 (domain 3 12 1 2 3 4 5 6 7 ∷ []))
    (policy 0 0)
    (row (5 ∷ 6 ∷ 7 ∷ 8 ∷ []) 15 15 3 (domain 3 3 1 2 3 4 5 6 7 ∷ []))
    -- hit map 1 and fill map 3: way 1 is no victim, though its bit is one
    ∷ after (nru 1 2) (loads 0 (line 9))
    (row (5 ∷ 6 ∷ []) 3 0 2 (domain 1 3 1 2 3 4 5 6 7 ∷ []))
    (evict 0 5 0)
    (row (9 ∷ 6 ∷ []) 3 0 2 (domain 1 3 1 3 4 4 5 7 7 ∷ []))
    -- of two ways, a hit map of 12 is read as empty
    ∷ still (plru 1 2) (loads 0 (line 5)) (row (5 ∷ 6 ∷ []) 3 0 1 (domain 12 12 1 2 3 4 5 6 7 ∷ [])) (refused 6)
    -- maps of 13 are read as 1, and stay stored as they are
    ∷ after (plru 1 2) (loads 0 (line 9))
    (row (5 ∷ 6 ∷ []) 3 0 1 (domain 13 13 1 2 3 4 5 6 7 ∷ []))
    (evict 0 5 0)
    (row (9 ∷ 6 ∷ []) 3 0 1 (domain 13 13 1 3 4 4 5 7 7 ∷ []))
    -- maps of 65,535 are read as 3, so that a policy of 3 and 3 cleans nothing
    ∷ after (nru 1 2) (takes 0 3 3)
    (row (5 ∷ 6 ∷ []) 65535 65535 0 (domain 65535 65535 1 2 3 4 5 6 7 ∷ []))
    (policy 0 0)
    (row (5 ∷ 6 ∷ []) 65535 65535 0 (domain 3 3 1 2 3 4 5 6 7 ∷ []))
    -- number 9: beside hit map 3 a fill map of 15 is read as 3, which has no free node in common with 12
    ∷ after (plru 1 4) (takes 0 12 12)
    (row (5 ∷ 6 ∷ 7 ∷ 8 ∷ []) 15 8 7 (domain 0 0 1 2 3 4 5 6 7 ∷ domain 3 15 1 2 3 4 5 6 7 ∷ []))
    (policy 2 1)
    (row (5 ∷ 6 ∷ 0 ∷ 0 ∷ []) 3 0 3 (domain 12 12 1 2 3 4 5 6 9 ∷ domain 3 15 1 2 3 4 5 6 7 ∷ []))
    -- "9: policy under Tree-PLRU with a node free for it and for another domain": node 0 is, for 5 and 10
    ∷ still (plru 1 4) (takes 0 10 10) (row (5 ∷ 6 ∷ 7 ∷ 8 ∷ []) 15 8 7 (domain 0 0 1 2 3 4 5 6 7 ∷ domain 5 5 1 2 3 4 5 6 7 ∷ [])) (refused 9)
    -- free nodes are those of fill maps: hit maps 5 and 10 with an empty fill map stand
    ∷ after (plru 1 4) (takes 0 10 0)
    (row (5 ∷ 6 ∷ 7 ∷ 8 ∷ []) 15 8 7 (domain 0 0 1 2 3 4 5 6 7 ∷ domain 5 5 1 2 3 4 5 6 7 ∷ []))
    (policy 2 1)
    (row (5 ∷ 0 ∷ 7 ∷ 0 ∷ []) 5 0 7 (domain 10 0 1 2 3 4 5 6 9 ∷ domain 5 5 1 2 3 4 5 6 7 ∷ []))
    -- where two domains have way 1, each hits in it
    ∷ after (plru 1 4) (loads 1 (line 6))
    (row (5 ∷ 6 ∷ 7 ∷ 8 ∷ []) 15 0 0 (domain 7 7 1 2 3 4 5 6 7 ∷ domain 6 6 1 2 3 4 5 6 7 ∷ []))
    (hit 1)
    (row (5 ∷ 6 ∷ 7 ∷ 8 ∷ []) 15 0 1 (domain 7 7 1 2 3 4 5 6 7 ∷ domain 6 6 2 2 3 4 5 6 7 ∷ []))
    -- "8: policy whose hit map shares a way with another domain's", also one that gives up a way and gains none
    ∷ still (plru 1 4) (takes 0 3 3) (row (5 ∷ 6 ∷ 7 ∷ 8 ∷ []) 15 8 7 (domain 7 7 1 2 3 4 5 6 7 ∷ domain 6 6 1 2 3 4 5 6 7 ∷ [])) (refused 8)
    -- it is the new hit map that 8 goes by: to give up the ways in common stands
    ∷ after (plru 1 4) (takes 0 1 1)
    (row (5 ∷ 6 ∷ 7 ∷ 8 ∷ []) 15 10 7 (domain 7 7 1 2 3 4 5 6 7 ∷ domain 6 6 1 2 3 4 5 6 7 ∷ []))
    (policy 2 1)
    (row (5 ∷ 0 ∷ 0 ∷ 8 ∷ []) 9 8 4 (domain 1 1 1 2 3 4 5 6 9 ∷ domain 6 6 1 2 3 4 5 6 7 ∷ []))
    -- a removal cleans also the ways that another domain has
    ∷ after (plru 1 4) (takes 0 0 0)
    (row (5 ∷ 6 ∷ 7 ∷ 8 ∷ []) 15 10 7 (domain 7 7 1 2 3 4 5 6 7 ∷ domain 6 6 1 2 3 4 5 6 7 ∷ []))
    (policy 3 1)
    (row (0 ∷ 0 ∷ 0 ∷ 8 ∷ []) 8 8 4 (domain 0 0 0 0 0 0 0 0 0 ∷ domain 6 6 1 2 3 4 5 6 7 ∷ []))
    ∷ []

-- ---- True LRU: document 02, job 1. In a word the last digit is place 0: 0x2301 is the order 1, 0, 3, 2, way 1 the most recent.

-- "Touching a way of the fill map brings it to place 0; touching another moves nothing."
abbrev order_hits : List Case
order_hits =
    -- the order 1, 0, 3, 2: a hit in way 2 makes it 2, 1, 0, 3
    after (lru 1 4) (loads 0 (line 7))
    (row (5 ∷ 6 ∷ 7 ∷ 8 ∷ []) 15 2 0x2301 (domain 15 15 1 2 3 4 5 6 7 ∷ []))
    (hit 2)
    (row (5 ∷ 6 ∷ 7 ∷ 8 ∷ []) 15 2 0x3012 (domain 15 15 2 2 3 4 5 6 7 ∷ []))
    -- a hit in its most recent way leaves it; the store marks the way dirty
    ∷ after (lru 1 4) (stores 0 (line 6))
    (row (5 ∷ 6 ∷ 7 ∷ 8 ∷ []) 15 0 0x2301 (domain 15 15 1 2 3 4 5 6 7 ∷ []))
    (hit 1)
    (row (5 ∷ 6 ∷ 7 ∷ 8 ∷ []) 15 2 0x2301 (domain 15 15 2 2 3 4 5 6 7 ∷ []))
    -- "to place 0": past the ways 2 and 3 of another domain, in the order 2, 3, 1, 0
    ∷ after (lru 1 4) (loads 0 (line 5))
    (row (5 ∷ 6 ∷ 7 ∷ 8 ∷ []) 15 0 0x0132 (domain 3 3 1 2 3 4 5 6 7 ∷ domain 12 12 1 2 3 4 5 6 7 ∷ []))
    (hit 0)
    (row (5 ∷ 6 ∷ 7 ∷ 8 ∷ []) 15 0 0x1320 (domain 3 3 2 2 3 4 5 6 7 ∷ domain 12 12 1 2 3 4 5 6 7 ∷ []))
    -- "touching another": way 2 is in the hit map alone
    ∷ after (lru 1 4) (loads 0 (line 7))
    (row (5 ∷ 6 ∷ 7 ∷ 8 ∷ []) 15 0 0x2301 (domain 15 3 1 2 3 4 5 6 7 ∷ []))
    (hit 2)
    (row (5 ∷ 6 ∷ 7 ∷ 8 ∷ []) 15 0 0x2301 (domain 15 3 2 2 3 4 5 6 7 ∷ []))
    -- "read as fresh": word 0 and way 1, which comes before 3, 2 and 0
    ∷ after (lru 1 4) (loads 0 (line 6))
    (row (5 ∷ 6 ∷ 7 ∷ 8 ∷ []) 15 0 0 (domain 15 15 1 2 3 4 5 6 7 ∷ []))
    (hit 1)
    (row (5 ∷ 6 ∷ 7 ∷ 8 ∷ []) 15 0 0x0231 (domain 15 15 2 2 3 4 5 6 7 ∷ []))
    -- "A step, or a call of the rules alone, after which the order is as read leaves the word untouched": word 0 and way 3
    ∷ after (lru 1 4) (loads 0 (line 8))
    (row (5 ∷ 6 ∷ 7 ∷ 8 ∷ []) 15 0 0 (domain 15 15 1 2 3 4 5 6 7 ∷ []))
    (hit 3)
    (row (5 ∷ 6 ∷ 7 ∷ 8 ∷ []) 15 0 0 (domain 15 15 2 2 3 4 5 6 7 ∷ []))
    -- 0x2210 holds way 2 twice: a hit in way 3 leaves it
    ∷ after (lru 1 4) (loads 0 (line 8))
    (row (5 ∷ 6 ∷ 7 ∷ 8 ∷ []) 15 0 0x2210 (domain 15 15 1 2 3 4 5 6 7 ∷ []))
    (hit 3)
    (row (5 ∷ 6 ∷ 7 ∷ 8 ∷ []) 15 0 0x2210 (domain 15 15 2 2 3 4 5 6 7 ∷ []))
    -- and a hit in way 0, which stands at its place 0, does not
    ∷ after (lru 1 4) (loads 0 (line 5))
    (row (5 ∷ 6 ∷ 7 ∷ 8 ∷ []) 15 0 0x2210 (domain 15 15 1 2 3 4 5 6 7 ∷ []))
    (hit 0)
    (row (5 ∷ 6 ∷ 7 ∷ 8 ∷ []) 15 0 0x1230 (domain 15 15 2 2 3 4 5 6 7 ∷ []))
    -- a word of all ones: a hit outside the fill map leaves it
    ∷ after (lru 1 4) (loads 0 (line 6))
    (row (5 ∷ 6 ∷ 7 ∷ 8 ∷ []) 15 0 0xffffffffffffffff (domain 15 12 1 2 3 4 5 6 7 ∷ []))
    (hit 1)
    (row (5 ∷ 6 ∷ 7 ∷ 8 ∷ []) 15 0 0xffffffffffffffff (domain 15 12 2 2 3 4 5 6 7 ∷ []))
    -- "places W and above are zero": and a hit in way 2 of the fill map writes it whole
    ∷ after (lru 1 4) (loads 0 (line 7))
    (row (5 ∷ 6 ∷ 7 ∷ 8 ∷ []) 15 0 0xffffffffffffffff (domain 15 12 1 2 3 4 5 6 7 ∷ []))
    (hit 2)
    (row (5 ∷ 6 ∷ 7 ∷ 8 ∷ []) 15 0 0x0132 (domain 15 12 2 2 3 4 5 6 7 ∷ []))
    -- two sets: line 3 is in set 1, has tag 1 and hits way 0; the word of set 0, which is malformed, stays
    ∷ after (lru 2 2) (loads 0 (line 3))
    (state (8 ∷ 1 ∷ 1 ∷ 11 ∷ []) (3 ∷ 3 ∷ []) (0 ∷ 0 ∷ []) (0x11 ∷ 0x01 ∷ []) (domain 3 3 1 2 3 4 5 6 7 ∷ []))
    (hit 0)
    (state (8 ∷ 1 ∷ 1 ∷ 11 ∷ []) (3 ∷ 3 ∷ []) (0 ∷ 0 ∷ []) (0x11 ∷ 0x10 ∷ []) (domain 3 3 2 2 3 4 5 6 7 ∷ []))
    ∷ []

-- "The victim is the fill map's way nearest the old end." Fills, evictions, and the steps that touch nothing.
abbrev order_misses : List Case
order_misses =
    -- the invalid way 0 is filled, though way 2 is nearest the old end of the order 1, 0, 3, 2
    after (lru 1 4) (stores 0 (line 9))
    (row (5 ∷ 6 ∷ 7 ∷ 8 ∷ []) 14 0 0x2301 (domain 15 15 1 2 3 4 5 6 7 ∷ []))
    (fill 0)
    (row (9 ∷ 6 ∷ 7 ∷ 8 ∷ []) 15 1 0x2310 (domain 15 15 1 3 3 4 5 7 7 ∷ []))
    -- word 0: way 2 is filled
    ∷ after (lru 1 4) (loads 0 (line 9))
    (row (5 ∷ 6 ∷ 7 ∷ 8 ∷ []) 11 0 0 (domain 15 15 1 2 3 4 5 6 7 ∷ []))
    (fill 2)
    (row (5 ∷ 6 ∷ 9 ∷ 8 ∷ []) 15 0 0x0132 (domain 15 15 1 3 3 4 5 7 7 ∷ []))
    -- the order is as read: way 3 is filled, of a word that holds way 2 twice
    ∷ after (lru 1 4) (loads 0 (line 9))
    (row (5 ∷ 6 ∷ 7 ∷ 8 ∷ []) 7 0 0x2210 (domain 15 15 1 2 3 4 5 6 7 ∷ []))
    (fill 3)
    (row (5 ∷ 6 ∷ 7 ∷ 9 ∷ []) 15 0 0x2210 (domain 15 15 1 3 3 4 5 7 7 ∷ []))
    -- all ones: way 1 is filled
    ∷ after (lru 1 4) (loads 0 (line 9))
    (row (5 ∷ 6 ∷ 7 ∷ 8 ∷ []) 13 0 0xffffffffffffffff (domain 15 15 1 2 3 4 5 6 7 ∷ []))
    (fill 1)
    (row (5 ∷ 9 ∷ 7 ∷ 8 ∷ []) 15 0 0x0231 (domain 15 15 1 3 3 4 5 7 7 ∷ []))
    -- the order 1, 0, 3, 2: way 2 is evicted
    ∷ after (lru 1 4) (loads 0 (line 9))
    (row (5 ∷ 6 ∷ 7 ∷ 8 ∷ []) 15 4 0x2301 (domain 15 15 1 2 3 4 5 6 7 ∷ []))
    (evict 2 7 1)
    (row (5 ∷ 6 ∷ 9 ∷ 8 ∷ []) 15 0 0x3012 (domain 15 15 1 3 4 5 5 7 7 ∷ []))
    -- "the fill map's way": of ways 0 and 1 way 0, and it comes to place 0 past the others
    ∷ after (lru 1 4) (loads 0 (line 9))
    (row (5 ∷ 6 ∷ 7 ∷ 8 ∷ []) 15 4 0x2301 (domain 15 3 1 2 3 4 5 6 7 ∷ []))
    (evict 0 5 0)
    (row (9 ∷ 6 ∷ 7 ∷ 8 ∷ []) 15 4 0x2310 (domain 15 3 1 3 4 4 5 7 7 ∷ []))
    -- word 0: way 0 is evicted, and of ways 2 and 3 way 2
    ∷ after (lru 1 4) (stores 0 (line 9))
    (row (5 ∷ 6 ∷ 7 ∷ 8 ∷ []) 15 0 0 (domain 15 15 1 2 3 4 5 6 7 ∷ []))
    (evict 0 5 0)
    (row (9 ∷ 6 ∷ 7 ∷ 8 ∷ []) 15 1 0x1230 (domain 15 15 1 3 4 4 5 7 7 ∷ []))
    ∷ after (lru 1 4) (stores 0 (line 9))
    (row (5 ∷ 6 ∷ 7 ∷ 8 ∷ []) 15 0 0 (domain 12 12 1 2 3 4 5 6 7 ∷ []))
    (evict 2 7 0)
    (row (5 ∷ 6 ∷ 9 ∷ 8 ∷ []) 15 4 0x0132 (domain 12 12 1 3 4 4 5 7 7 ∷ []))
    -- a word that holds way 2 twice, at the old end: way 0 is evicted
    ∷ after (lru 1 4) (loads 0 (line 9))
    (row (5 ∷ 6 ∷ 7 ∷ 8 ∷ []) 15 0 0x2210 (domain 15 15 1 2 3 4 5 6 7 ∷ []))
    (evict 0 5 0)
    (row (9 ∷ 6 ∷ 7 ∷ 8 ∷ []) 15 0 0x1230 (domain 15 15 1 3 4 4 5 7 7 ∷ []))
    -- the order is as read: way 3 is the one way of the map, and the word, of all ones, stays
    ∷ after (lru 1 4) (loads 0 (line 9))
    (row (5 ∷ 6 ∷ 7 ∷ 8 ∷ []) 15 0 0xffffffffffffffff (domain 8 8 1 2 3 4 5 6 7 ∷ []))
    (evict 3 8 0)
    (row (5 ∷ 6 ∷ 7 ∷ 9 ∷ []) 15 0 0xffffffffffffffff (domain 8 8 1 3 4 4 5 7 7 ∷ []))
    -- sixteen ways, and all ones: way 0 is evicted
    ∷ after (lru 1 16) (loads 0 (line 9))
    (row (replicate 16 5) 65535 0 0xffffffffffffffff (domain 65535 65535 1 2 3 4 5 6 7 ∷ []))
    (evict 0 5 0)
    (row (9 ∷ replicate 15 5) 65535 0 0x123456789abcdef0 (domain 65535 65535 1 3 4 4 5 7 7 ∷ []))
    -- "With an empty fill map it passes": the word stays
    ∷ after (lru 1 4) (loads 0 (line 9))
    (row (5 ∷ 6 ∷ 7 ∷ 8 ∷ []) 15 0 0x2210 (domain 15 0 1 2 3 4 5 6 7 ∷ []))
    pass
    (row (5 ∷ 6 ∷ 7 ∷ 8 ∷ []) 15 0 0x2210 (domain 15 0 1 3 3 4 5 6 7 ∷ []))
    -- a flush leaves "all replacement bits": an order, and a word that is none
    ∷ after (lru 1 4) (flushes 0 (line 7))
    (row (5 ∷ 6 ∷ 7 ∷ 8 ∷ []) 15 4 0x2301 (domain 15 15 1 2 3 4 5 6 7 ∷ []))
    (flush 2 1)
    (row (5 ∷ 6 ∷ 7 ∷ 8 ∷ []) 11 0 0x2301 (domain 15 15 1 2 3 5 6 6 7 ∷ []))
    ∷ after (lru 1 4) (flushes 0 (line 5))
    (row (5 ∷ 6 ∷ 7 ∷ 8 ∷ []) 15 4 0x2210 (domain 15 15 1 2 3 4 5 6 7 ∷ []))
    (flush 0 0)
    (row (5 ∷ 6 ∷ 7 ∷ 8 ∷ []) 14 4 0x2210 (domain 15 15 1 2 3 4 6 6 7 ∷ []))
    ∷ []

-- "A policy change moves the ways in exactly one of the old and new fill maps to the old end, the lowest of them oldest, and leaves the rest in
-- their order."
abbrev order_changes : List Case
order_changes =
    -- the order 1, 3, 2, 0: way 1 is given up and comes to the old end
    after (lru 1 4) (takes 0 1 1)
    (row (5 ∷ 6 ∷ 7 ∷ 8 ∷ []) 15 2 0x0231 (domain 3 3 1 2 3 4 5 6 7 ∷ []))
    (policy 1 1)
    (row (5 ∷ 0 ∷ 7 ∷ 8 ∷ []) 13 0 0x1023 (domain 1 1 1 2 3 4 5 6 8 ∷ []))
    -- the order 2, 1, 0, 3: ways 1 and 2 are gained, and way 1 becomes the oldest
    ∷ after (lru 1 4) (takes 0 7 7)
    (row (5 ∷ 6 ∷ 7 ∷ 8 ∷ []) 15 0 0x3012 (domain 1 1 1 2 3 4 5 6 7 ∷ []))
    (policy 2 0)
    (row (5 ∷ 0 ∷ 0 ∷ 8 ∷ []) 9 0 0x1230 (domain 7 7 1 2 3 4 5 6 9 ∷ []))
    -- "fill maps": the hit map stays, way 0 leaves the fill map and way 2 enters it, of the order 0, 2, 1, 3
    ∷ after (lru 1 4) (takes 0 15 6)
    (row (5 ∷ 6 ∷ 7 ∷ 8 ∷ []) 15 15 0x3120 (domain 15 3 1 2 3 4 5 6 7 ∷ []))
    (policy 0 0)
    (row (5 ∷ 6 ∷ 7 ∷ 8 ∷ []) 15 15 0x0231 (domain 15 6 1 2 3 4 5 6 7 ∷ []))
    -- a removal: ways 2 and 3 of the order 2, 3, 1, 0
    ∷ after (lru 1 4) (takes 0 0 0)
    (row (5 ∷ 6 ∷ 7 ∷ 8 ∷ []) 15 1 0x0132 (domain 12 12 1 2 3 4 5 6 7 ∷ []))
    (policy 2 0)
    (row (5 ∷ 6 ∷ 0 ∷ 0 ∷ []) 3 1 0x2301 (domain 0 0 0 0 0 0 0 0 0 ∷ []))
    -- a neighbour's change: domain 1 takes ways 2 and 3, and the ways 0 and 1 of domain 0 keep their order, in 3, 0, 2, 1
    ∷ after (lru 1 4) (takes 1 12 12)
    (row (5 ∷ 6 ∷ 7 ∷ 8 ∷ []) 15 0 0x1203 (domain 3 3 1 2 3 4 5 6 7 ∷ []))
    (policy 2 0)
    (row (5 ∷ 6 ∷ 0 ∷ 0 ∷ []) 3 0 0x2310 (domain 3 3 1 2 3 4 5 6 7 ∷ domain 12 12 0 0 0 0 0 0 2 ∷ []))
    -- also where the word is read as fresh, and with it way 1 as more recent than way 0: ways 2 and 3 are given up
    ∷ after (lru 1 4) (takes 1 0 0)
    (row (5 ∷ 6 ∷ 7 ∷ 8 ∷ []) 15 0 0x2210 (domain 3 3 1 2 3 4 5 6 7 ∷ domain 12 12 1 2 3 4 5 6 7 ∷ []))
    (policy 2 0)
    (row (5 ∷ 6 ∷ 0 ∷ 0 ∷ []) 3 0 0x2301 (domain 3 3 1 2 3 4 5 6 7 ∷ domain 0 0 0 0 0 0 0 0 0 ∷ []))
    -- "9: policy under Tree-PLRU": fill maps 5 and 10 stand side by side here; ways 1 and 3 move
    ∷ after (lru 1 4) (takes 0 10 10)
    (row (5 ∷ 6 ∷ 7 ∷ 8 ∷ []) 15 8 0x0123 (domain 0 0 1 2 3 4 5 6 7 ∷ domain 5 5 1 2 3 4 5 6 7 ∷ []))
    (policy 2 1)
    (row (5 ∷ 0 ∷ 7 ∷ 0 ∷ []) 5 0 0x1302 (domain 10 10 1 2 3 4 5 6 9 ∷ domain 5 5 1 2 3 4 5 6 7 ∷ []))
    -- the fill map stays: words that are read as fresh stay, of all ones, zero, and with a way twice
    ∷ after (lru 1 4) (takes 0 7 1)
    (row (5 ∷ 6 ∷ 7 ∷ 8 ∷ []) 15 0 0xffffffffffffffff (domain 3 1 1 2 3 4 5 6 7 ∷ []))
    (policy 1 0)
    (row (5 ∷ 6 ∷ 0 ∷ 8 ∷ []) 11 0 0xffffffffffffffff (domain 7 1 1 2 3 4 5 6 8 ∷ []))
    ∷ after (lru 2 2) (takes 0 3 1)
    (state (5 ∷ 6 ∷ 7 ∷ 8 ∷ []) (3 ∷ 2 ∷ []) (2 ∷ 0 ∷ []) (0 ∷ 0x11 ∷ []) (domain 1 1 1 2 3 4 5 6 7 ∷ []))
    (policy 2 1)
    (state (5 ∷ 0 ∷ 7 ∷ 0 ∷ []) (1 ∷ 0 ∷ []) (0 ∷ 0 ∷ []) (0 ∷ 0x11 ∷ []) (domain 3 1 1 2 3 4 5 6 9 ∷ []))
    -- set by set: way 0 is gained. Set 0's word holds way 2 twice; read as fresh it has way 0 at the old end, so that it stays. Set 1's order is
    -- 0, 1, 2, 3, and becomes 1, 2, 3, 0.
    ∷ after (lru 2 4) (takes 0 1 1)
    (state (5 ∷ 6 ∷ 7 ∷ 8 ∷ 9 ∷ 10 ∷ 11 ∷ 12 ∷ []) (15 ∷ 14 ∷ []) (1 ∷ 0 ∷ []) (0x2210 ∷ 0x3210 ∷ []) (domain 0 0 1 2 3 4 5 6 7 ∷ []))
    (policy 1 1)
    (state (0 ∷ 6 ∷ 7 ∷ 8 ∷ 0 ∷ 10 ∷ 11 ∷ 12 ∷ []) (14 ∷ 14 ∷ []) (0 ∷ 0 ∷ []) (0x2210 ∷ 0x0321 ∷ []) (domain 1 1 1 2 3 4 5 6 8 ∷ []))
    -- way 3 is gained: here the order of set 1 is as read, and it is set 0's word that is written
    ∷ after (lru 2 4) (takes 0 8 8)
    (state (5 ∷ 6 ∷ 7 ∷ 8 ∷ 9 ∷ 10 ∷ 11 ∷ 12 ∷ []) (15 ∷ 14 ∷ []) (1 ∷ 0 ∷ []) (0x2210 ∷ 0x3210 ∷ []) (domain 0 0 1 2 3 4 5 6 7 ∷ []))
    (policy 2 0)
    (state (5 ∷ 6 ∷ 7 ∷ 0 ∷ 9 ∷ 10 ∷ 11 ∷ 0 ∷ []) (7 ∷ 6 ∷ []) (1 ∷ 0 ∷ []) (0x3012 ∷ 0x3210 ∷ []) (domain 8 8 1 2 3 4 5 6 9 ∷ []))
    ∷ []

-- "New numbers: none; 1 now admits rule 2."
abbrev rule_numbers : List Case
rule_numbers =
    -- rule 2 stands, 3 is refused 1
    after (record { sets = 1; ways = 2; rule = 2 }) (loads 0 (line 5))
    (row (5 ∷ 6 ∷ []) 3 0 0x01 (domain 3 3 1 2 3 4 5 6 7 ∷ []))
    (hit 0)
    (row (5 ∷ 6 ∷ []) 3 0 0x10 (domain 3 3 2 2 3 4 5 6 7 ∷ []))
    ∷ still (record { sets = 1; ways = 2; rule = 3 }) (loads 0 (line 5)) (row (5 ∷ 6 ∷ []) 3 0 0x01 (domain 3 3 1 2 3 4 5 6 7 ∷ [])) (refused 1)
    ∷ []

-- Those of the base's two rules, and all.
abbrev of_base : List Case
of_base =
    places ++ (sizes ++ (full_counts ++ (fresh_states ++ (accesses ++ (line_flushes ++ (cleanings ++ (spent_drops ++ (resets ++ (high_bits ++ stored_maps)))))))))

unfoldable pub lent : List Case
lent = of_base ++ (order_hits ++ (order_misses ++ (order_changes ++ rule_numbers)))
