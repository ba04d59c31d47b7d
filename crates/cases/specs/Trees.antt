-- Tree-PLRU beyond the fresh word, at every number of ways: touches of every way, and evictions one after another. "Node i is bit i of the replacement
-- word; 0 points left, 1 right." "Touching way w sets each free node on the path to w so that it points away from w; no other bit moves." The numbers were
-- worked out apart from these definitions, from document 01's sentences.
use Rattle.std.specs.Prelude.{List, [], ◌∷◌, ◌++◌, map, ℕ, ◌-◌}
use Rattle.waymap.specs.Bits.{bit, word}
use Rattle.tree.specs.Tree as Tree
use Rattle.replacement.specs.Rule.{tree}
use Rattle.domains.specs.declared.Domain.{Domain}
use Rattle.steps.specs.Step.{State}
use Rattle.cases.specs.Case.{Case, hit, evict}
use Rattle.cases.specs.States.{plru, loads, stores, line, domain, row, after}

-- Of W ways, a map and a word: the nodes' bits after a touch of each of some ways.
abbrev touched : ℕ → ℕ → ℕ → List ℕ → List ℕ
touched W m x ways = map (λ (w : ℕ). word (W - 1) (Tree.touch W (bit m) w (bit x))) ways

-- Of W ways, a map and some words: the victim of each.
abbrev victims : ℕ → ℕ → List ℕ → List ℕ
victims W m words = map (λ (x : ℕ). (tree W).victim m x) words

-- The ways below four, and below eight.
abbrev four : List ℕ
four = 0 ∷ 1 ∷ 2 ∷ 3 ∷ []

abbrev eight : List ℕ
eight = four ++ (4 ∷ 5 ∷ 6 ∷ 7 ∷ [])

-- Under the map of all ways: ways of a word of zeros, where nodes turn right, and of one of ones, where nodes turn left. Touching way 0 of
-- sixteen turns nodes 0, 1, 3 and 7 right: 1 + 2 + 8 + 128 = 139. Touching way 15 turns nodes 0, 2, 6 and 14 left.
abbrev touches : List Case
touches =
    record { given = touched 2 3 0 (0 ∷ 1 ∷ []) ++ touched 2 3 1 (0 ∷ 1 ∷ []); printed = 1 ∷ 0 ∷ 1 ∷ 0 ∷ [] }
    ∷ record { given = touched 4 15 0 four; printed = 3 ∷ 1 ∷ 4 ∷ 0 ∷ [] }
    ∷ record { given = touched 4 15 7 four; printed = 7 ∷ 5 ∷ 6 ∷ 2 ∷ [] }
    ∷ record { given = touched 8 255 0 eight; printed = 11 ∷ 3 ∷ 17 ∷ 1 ∷ 36 ∷ 4 ∷ 64 ∷ 0 ∷ [] }
    ∷ record { given = touched 8 255 127 eight; printed = 127 ∷ 119 ∷ 125 ∷ 109 ∷ 126 ∷ 94 ∷ 122 ∷ 58 ∷ [] }
    -- of sixteen ways the even ones of zeros, and the odd ones of ones: so that each node is turned both ways
    ∷ record { given = touched 16 0xffff 0 (0 ∷ 2 ∷ 4 ∷ 6 ∷ 8 ∷ 10 ∷ 12 ∷ 14 ∷ []); printed = 139 ∷ 259 ∷ 529 ∷ 1025 ∷ 2084 ∷ 4100 ∷ 8256 ∷ 16384 ∷ [] }
    ∷ record {
      given = touched 16 0xffff 32767 (1 ∷ 3 ∷ 5 ∷ 7 ∷ 9 ∷ 11 ∷ 13 ∷ 15 ∷ []);
      printed = 32639 ∷ 32503 ∷ 32253 ∷ 31725 ∷ 30718 ∷ 28638 ∷ 24570 ∷ 16314 ∷ [];
    }
    -- "each free node": every other way of sixteen, with free nodes 0 to 6
    ∷ record { given = touched 16 0x5555 0 (0 ∷ 12 ∷ []); printed = 11 ∷ 64 ∷ [] }
    -- ways 0, 5, 10 and 15, with free nodes 0, 1 and 2: way 5 of zeros, way 10 of ones
    ∷ record { given = touched 16 0x8421 0 (5 ∷ []) ++ touched 16 0x8421 32767 (10 ∷ []); printed = 1 ∷ 32766 ∷ [] }
    -- document 02, job 4: "turns no node on a touch outside the fill map", as of ways 1, 4, 11 and 14; and of any way where the map is empty
    ∷ record {
      given = touched 16 0x8421 0 (1 ∷ 4 ∷ 11 ∷ 14 ∷ []) ++ touched 16 0x8421 32767 (1 ∷ 4 ∷ 11 ∷ 14 ∷ []) ++ touched 16 0 21845 (0 ∷ 15 ∷ []);
      printed = 0 ∷ 0 ∷ 0 ∷ 0 ∷ 32767 ∷ 32767 ∷ 32767 ∷ 32767 ∷ 21845 ∷ 21845 ∷ [];
    }
    -- "no other bit moves": of the whole word, bits above the nodes
    ∷ record { given = (tree 8).touch 0xff 5 0xffffffffffffffff ∷ []; printed = 0xffffffffffffffde ∷ [] }
    ∷ []

-- "The victim is reached from the root by free nodes' bits and forced directions." The victims of evictions one after another: each word but the first is
-- the one before it after its victim's touch.
abbrev runs : List Case
runs =
    -- eight ways from a fresh word: each way once, and touching way 7 makes the word 0 again
    record { given = victims 8 255 (0 ∷ 11 ∷ 46 ∷ 61 ∷ 120 ∷ 115 ∷ 86 ∷ 69 ∷ []); printed = 0 ∷ 4 ∷ 2 ∷ 6 ∷ 1 ∷ 5 ∷ 3 ∷ 7 ∷ [] }
    -- sixteen ways from a fresh word
    ∷ record {
      given = victims 16 0xffff (0 ∷ 139 ∷ 2222 ∷ 2749 ∷ 11000 ∷ 11251 ∷ 15318 ∷ 16325 ∷ 32640 ∷ 32523 ∷ 30510 ∷ 30013 ∷ 21880 ∷ 21619 ∷ 17494 ∷ 16453 ∷ []);
      printed = 0 ∷ 8 ∷ 4 ∷ 12 ∷ 2 ∷ 10 ∷ 6 ∷ 14 ∷ 1 ∷ 9 ∷ 5 ∷ 13 ∷ 3 ∷ 11 ∷ 7 ∷ 15 ∷ [];
    }
    -- ways 4 to 11 of sixteen, from a word of ones; and ways 0, 5, 10 and 15, by nodes 0, 1 and 2
    ∷ record { given = victims 16 0x0ff0 (32767 ∷ 28638 ∷ 27599 ∷ 25582 ∷ []); printed = 11 ∷ 7 ∷ 9 ∷ 5 ∷ [] }
    ∷ record { given = victims 16 0x8421 (0 ∷ 3 ∷ 6 ∷ 5 ∷ []); printed = 0 ∷ 10 ∷ 5 ∷ 15 ∷ [] }
    -- ways 2 to 5 of eight; and ways 0, 3 and 5, of which way 5 comes twice as often
    ∷ record { given = victims 8 0x3c (85 ∷ 116 ∷ 101 ∷ 68 ∷ 85 ∷ []); printed = 4 ∷ 3 ∷ 5 ∷ 2 ∷ 4 ∷ [] }
    ∷ record { given = victims 8 0x29 (0 ∷ 3 ∷ 2 ∷ 1 ∷ []); printed = 0 ∷ 5 ∷ 3 ∷ 5 ∷ [] }
    -- the words on the way, by touches after evictions: at eight ways ways 4, 2 and 6; at sixteen way 12, and of ways 4 to 11 way 7
    ∷ record {
      given = touched 8 255 11 (4 ∷ []) ++ touched 8 255 46 (2 ∷ []) ++ touched 8 255 61 (6 ∷ []);
      printed = 46 ∷ 61 ∷ 120 ∷ [];
    }
    ∷ record { given = touched 16 0xffff 2749 (12 ∷ []) ++ touched 16 0x0ff0 28638 (7 ∷ []); printed = 11000 ∷ 27599 ∷ [] }
    ∷ []

-- Sixteen ways that are full, line n in way n - 1, and then as steps: the word and the domain.
abbrev full : ℕ → Domain → State
full x d = row (1 ∷ 2 ∷ 3 ∷ 4 ∷ 5 ∷ 6 ∷ 7 ∷ 8 ∷ 9 ∷ 10 ∷ 11 ∷ 12 ∷ 13 ∷ 14 ∷ 15 ∷ 16 ∷ []) 65535 0 x (d ∷ [])

abbrev steps : List Case
steps =
    -- a hit in way 0 of a fresh word turns nodes 0, 1, 3 and 7 right
    after (plru 1 16) (loads 0 (line 1)) (full 0 (domain 65535 65535 1 2 3 4 5 6 7)) (hit 0) (full 139 (domain 65535 65535 2 2 3 4 5 6 7))
    -- the next eviction goes right at node 0 and left at nodes 2, 5 and 11, to way 8; node 0 turns left, and nodes 2, 5 and 11 right: 138 + 4 + 32 + 2048
    ∷ after (plru 1 16) (stores 0 (line 99))
    (full 139 (domain 65535 65535 1 2 3 4 5 6 7))
    (evict 8 9 0)
    (row (1 ∷ 2 ∷ 3 ∷ 4 ∷ 5 ∷ 6 ∷ 7 ∷ 8 ∷ 99 ∷ 10 ∷ 11 ∷ 12 ∷ 13 ∷ 14 ∷ 15 ∷ 16 ∷ []) 65535 256 2222 (domain 65535 65535 1 3 4 4 5 7 7 ∷ []))
    ∷ []

unfoldable pub trees : List Case
trees = touches ++ (runs ++ steps)
