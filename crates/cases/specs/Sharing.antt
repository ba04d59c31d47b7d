-- Numbers 8 and 9 on lent states, and which of them comes first. Each case is worked out by hand from document 01: "8: policy whose hit map shares a way with
-- another domain's" and "9: policy under Tree-PLRU with a node free for it and for another domain".
use Rattle.std.specs.Prelude.{List, [], ◌∷◌, ◌++◌, ℕ, replicate}
use Rattle.domains.specs.declared.Domain.{Domain}
use Rattle.steps.specs.Step.{State}
use Rattle.cases.specs.Case.{Case, policy, refused}
use Rattle.cases.specs.States.{plru, nru, lru, takes, domain, row, after, still}

-- A domain without ways, that has counts; one that has ways; and one that never had anything.
abbrev none : Domain
none = domain 0 0 1 2 3 4 5 6 7

abbrev with : ℕ → ℕ → Domain
with hit_map fill_map = domain hit_map fill_map 1 2 3 4 5 6 7

abbrev nothing : Domain
nothing = domain 0 0 0 0 0 0 0 0 0

-- Four ways with lines in all of them, that of way 3 dirty, and each node turned right; the same of eight ways, ways 0 and 3 dirty, and any word.
abbrev four : List Domain → State
four = row (5 ∷ 6 ∷ 7 ∷ 8 ∷ []) 15 8 7

abbrev eight : ℕ → List Domain → State
eight = row (10 ∷ 11 ∷ 12 ∷ 13 ∷ 14 ∷ 15 ∷ 16 ∷ 17 ∷ []) 255 9

-- Sixteen ways without lines, and a word.
abbrev sixteen : ℕ → List Domain → State
sixteen = row (replicate 16 0) 0 0

-- "If several hold, the lowest number is given": 8 before 9.
abbrev eights : List Case
eights =
    -- maps 7 and 5 share ways 0 and 2, and node 0 is free for both
    still (plru 1 4) (takes 0 7 7) (four (none ∷ with 5 5 ∷ [])) (refused 8)
    -- of eight ways maps 60 and 15 share ways 2 and 3, and node 4 is free for both
    ∷ still (plru 1 8) (takes 0 60 60) (eight 0 (none ∷ with 15 15 ∷ [])) (refused 8)
    -- hit maps 10 and 7 share way 1, and node 0 is free for fill maps 10 and 5, which share none
    ∷ still (plru 1 4) (takes 0 10 10) (four (none ∷ with 7 5 ∷ [])) (refused 8)
    -- 8 with one domain and 9 with another: way 3 is domain 2's, and node 0 is free for fill maps 10 and 5
    ∷ still (plru 1 4) (takes 0 10 10) (four (none ∷ with 5 5 ∷ with 8 8 ∷ [])) (refused 8)
    -- the same under NRU and under true LRU, where 9 does not hold
    ∷ still (nru 1 4) (takes 0 7 7) (four (none ∷ with 5 5 ∷ [])) (refused 8)
    ∷ still (lru 1 4) (takes 0 7 7) (four (none ∷ with 5 5 ∷ [])) (refused 8)
    -- "whose hit map shares a way with another domain's": way 1 is in both hit maps and in no fill map
    ∷ still (plru 1 4) (takes 0 6 4) (four (none ∷ with 3 1 ∷ [])) (refused 8)
    -- "another domain's": of the last, by domain 15 and by domain 0
    ∷ still (plru 1 4) (takes 0 12 12) (four (none ∷ (replicate 14 nothing ++ (with 4 0 ∷ [])))) (refused 8)
    ∷ still (plru 1 4) (takes 15 12 12) (four (with 4 0 ∷ [])) (refused 8)
    ∷ []

-- "policy under Tree-PLRU": maps 5 and 10 of case F, of eight ways, under each rule. Ways 1 and 3 are gained, with two lines, one of them dirty.
abbrev by_rule : List Case
by_rule =
    -- Tree-PLRU: 9
    still (plru 1 8) (takes 0 10 10) (eight 0 (none ∷ with 5 5 ∷ [])) (refused 9)
    -- NRU: accepted; the bits of ways 1 and 3 become one
    ∷ after (nru 1 8) (takes 0 10 10)
    (eight 0 (none ∷ with 5 5 ∷ []))
    (policy 2 1)
    (row (10 ∷ 0 ∷ 12 ∷ 0 ∷ 14 ∷ 15 ∷ 16 ∷ 17 ∷ []) 245 1 10 (domain 10 10 1 2 3 4 5 6 9 ∷ with 5 5 ∷ []))
    -- true LRU: accepted; of the fresh order, ways 7 to 0, ways 3 and 1 come to the old end, way 1 oldest
    ∷ after (lru 1 8) (takes 0 10 10)
    (eight 0x01234567 (none ∷ with 5 5 ∷ []))
    (policy 2 1)
    (row (10 ∷ 0 ∷ 12 ∷ 0 ∷ 14 ∷ 15 ∷ 16 ∷ 17 ∷ []) 245 1 0x13024567 (domain 10 10 1 2 3 4 5 6 9 ∷ with 5 5 ∷ []))
    -- the same of four ways under NRU, the other way round: maps 10 stand, and 5 is asked for
    ∷ after (nru 1 4) (takes 1 5 5)
    (four (with 10 10 ∷ none ∷ []))
    (policy 2 0)
    (row (0 ∷ 6 ∷ 0 ∷ 8 ∷ []) 10 8 7 (with 10 10 ∷ domain 5 5 1 2 3 4 5 6 9 ∷ []))
    ∷ []

-- "A node is free for a fill map": 9 goes by fill maps, and by no hit map.
abbrev by_fill : List Case
by_fill =
    -- another domain's hit map is 5 and its fill map 1, for which no node is free: 10 and 10 stand; node 0, free for 10, becomes zero
    after (plru 1 4) (takes 0 10 10)
    (four (none ∷ with 5 1 ∷ []))
    (policy 2 1)
    (row (5 ∷ 0 ∷ 7 ∷ 0 ∷ []) 5 0 6 (domain 10 10 1 2 3 4 5 6 9 ∷ with 5 1 ∷ []))
    -- its hit map is 5 and its fill map 4; and 5 with an empty fill map
    ∷ after (plru 1 4) (takes 0 10 10)
    (four (none ∷ with 5 4 ∷ []))
    (policy 2 1)
    (row (5 ∷ 0 ∷ 7 ∷ 0 ∷ []) 5 0 6 (domain 10 10 1 2 3 4 5 6 9 ∷ with 5 4 ∷ []))
    ∷ after (plru 1 4) (takes 0 10 10)
    (four (none ∷ with 5 0 ∷ []))
    (policy 2 1)
    (row (5 ∷ 0 ∷ 7 ∷ 0 ∷ []) 5 0 6 (domain 10 10 1 2 3 4 5 6 9 ∷ with 5 0 ∷ []))
    -- its own hit map is 10 and its fill map 8: 9 does not hold, and no node moves
    ∷ after (plru 1 4) (takes 0 10 8)
    (four (none ∷ with 5 5 ∷ []))
    (policy 2 1)
    (row (5 ∷ 0 ∷ 7 ∷ 0 ∷ []) 5 0 7 (domain 10 8 1 2 3 4 5 6 9 ∷ with 5 5 ∷ []))
    -- of eight ways: hit maps 0x35 and 0xca, and fill maps 0x11 and 0x88, both with free node 0; and with 0x30, which has free node 5
    ∷ still (plru 1 8) (takes 0 0xca 0x88) (eight 127 (none ∷ with 0x35 0x11 ∷ [])) (refused 9)
    ∷ after (plru 1 8) (takes 0 0xca 0x88)
    (eight 127 (none ∷ with 0x35 0x30 ∷ []))
    (policy 4 1)
    (row (10 ∷ 0 ∷ 12 ∷ 0 ∷ 14 ∷ 15 ∷ 0 ∷ 0 ∷ []) 0x35 1 126 (domain 0xca 0x88 1 2 3 4 5 6 11 ∷ with 0x35 0x30 ∷ []))
    ∷ []

-- "free for it and for another domain": every other one of the 16, and not the domain's own maps of before.
abbrev by_domain : List Case
by_domain =
    -- domain 15 has 5, and domain 0 asks for 10; and the other way round
    still (plru 1 4) (takes 0 10 10) (four (none ∷ (replicate 14 nothing ++ (with 5 5 ∷ [])))) (refused 9)
    ∷ still (plru 1 4) (takes 15 10 10) (four (with 5 5 ∷ [])) (refused 9)
    -- domain 7 between them
    ∷ still (plru 1 4) (takes 3 10 10) (four (replicate 7 nothing ++ (with 5 5 ∷ []))) (refused 9)
    -- from 5 to 13, which has free nodes 0 and 2: node 0 is free under both and stays, node 2 becomes zero; way 3 is gained
    ∷ after (plru 1 4) (takes 0 13 13)
    (four (with 5 5 ∷ []))
    (policy 1 1)
    (row (5 ∷ 6 ∷ 7 ∷ 0 ∷ []) 7 0 3 (domain 13 13 1 2 3 4 5 6 8 ∷ []))
    ∷ []

-- 9 at sixteen ways.
abbrev by_sixteen : List Case
by_sixteen =
    -- ways 0 and 8, and ways 7 and 15: node 0
    still (plru 1 16) (takes 0 0x8080 0x8080) (sixteen 0 (none ∷ with 0x0101 0x0101 ∷ [])) (refused 9)
    -- ways 4 and 6, and ways 5 and 7: node 4
    ∷ still (plru 1 16) (takes 0 0x00a0 0x00a0) (sixteen 0 (none ∷ with 0x0050 0x0050 ∷ [])) (refused 9)
    -- halves stand side by side: of a word of fifteen ones the nodes of the upper half, 2, 5, 6 and 11 to 14, become zero
    ∷ after (plru 1 16) (takes 0 0xff00 0xff00)
    (sixteen 0x7fff (none ∷ with 0x00ff 0x00ff ∷ []))
    (policy 0 0)
    (sixteen 1947 (with 0xff00 0xff00 ∷ with 0x00ff 0x00ff ∷ []))
    ∷ []

unfoldable pub sharing : List Case
sharing = eights ++ (by_rule ++ (by_fill ++ (by_domain ++ by_sixteen)))
