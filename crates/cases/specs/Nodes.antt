-- The nodes of a tree for maps of every kind, as words: "A node is free for a fill map if each of its halves holds a way of the map. Another node is
-- forced: right if only its right half holds one, else left." Bit i of a word is node i. The numbers were worked out apart from these definitions, from
-- document 01's sentences.
use Rattle.std.specs.Prelude.{List, [], ◌∷◌, ◌++◌, ℕ, ◌-◌, ◌^◌}
use Rattle.waymap.specs.Bits.{bit, word}
use Rattle.tree.specs.Tree as Tree
use Rattle.replacement.specs.Rule.{tree}
use Rattle.cases.specs.Case.{Case}

-- Of W ways and a map: its free nodes, the nodes that it forces right, and its victims where every node points left, and where every node points right. The
-- other nodes are forced left.
abbrev of : ℕ → ℕ → ℕ → ℕ → ℕ → ℕ → Case
of W m free right low high = record {
  given = word (W - 1) (Tree.free W (bit m)) ∷ word (W - 1) (Tree.forced_right W (bit m)) ∷ (tree W).victim m 0 ∷ (tree W).victim m (2 ^ (W - 1) - 1) ∷ [];
  printed = free ∷ right ∷ low ∷ high ∷ [];
}

-- An empty map frees no node and forces each left. It has no victim.
abbrev empty : ℕ → Case
empty W = record { given = word (W - 1) (Tree.free W (bit 0)) ∷ word (W - 1) (Tree.forced_right W (bit 0)) ∷ []; printed = 0 ∷ 0 ∷ [] }

abbrev none : List Case
none = empty 2 ∷ empty 4 ∷ empty 8 ∷ empty 16 ∷ []

abbrev of_few : List Case
of_few =
    -- two ways: way 0, way 1, both
    of 2 1 0 0 0 0
    ∷ of 2 2 0 1 1 1
    ∷ of 2 3 1 0 0 1
    -- four ways: every map
    ∷ of 4 1 0 0 0 0
    ∷ of 4 2 0 2 1 1
    ∷ of 4 3 2 0 0 1
    ∷ of 4 4 0 1 2 2
    ∷ of 4 5 1 0 0 2
    ∷ of 4 6 1 2 1 2
    ∷ of 4 7 3 0 0 2
    ∷ of 4 8 0 5 3 3
    ∷ of 4 9 1 4 0 3
    ∷ of 4 10 1 6 1 3
    ∷ of 4 11 3 4 0 3
    ∷ of 4 12 4 1 2 3
    ∷ of 4 13 5 0 0 3
    ∷ of 4 14 5 2 1 3
    ∷ of 4 15 7 0 0 3
    ∷ []

abbrev of_eight : List Case
of_eight =
    -- one way: 0, 1, 3, 4, 6 and 7; each node above it is forced
    of 8 0x01 0 0 0 0
    ∷ of 8 0x02 0 8 1 1
    ∷ of 8 0x08 0 18 3 3
    ∷ of 8 0x10 0 1 4 4
    ∷ of 8 0x40 0 5 6 6
    ∷ of 8 0x80 0 69 7 7
    -- pairs side by side: 0 and 1, 2 and 3, 4 and 5, 6 and 7
    ∷ of 8 0x03 8 0 0 1
    ∷ of 8 0x0c 16 2 2 3
    ∷ of 8 0x30 32 1 4 5
    ∷ of 8 0xc0 64 5 6 7
    -- pairs side by side that no lowest node joins: 1 and 2, 3 and 4, 5 and 6
    ∷ of 8 0x06 2 8 1 2
    ∷ of 8 0x18 1 18 3 4
    ∷ of 8 0x60 4 33 5 6
    -- pairs two apart: 0 and 2, 1 and 3, 4 and 6, 5 and 7
    ∷ of 8 0x05 2 0 0 2
    ∷ of 8 0x0a 2 24 1 3
    ∷ of 8 0x50 4 1 4 6
    ∷ of 8 0xa0 4 97 5 7
    -- pairs across the halves: 0 and 4, 3 and 7, 0 and 7, 1 and 6, 2 and 5
    ∷ of 8 0x11 1 0 0 4
    ∷ of 8 0x88 1 86 3 7
    ∷ of 8 0x81 1 68 0 7
    ∷ of 8 0x42 1 12 1 6
    ∷ of 8 0x24 1 34 2 5
    -- halves, and the four in the middle and at the ends
    ∷ of 8 0x0f 26 0 0 3
    ∷ of 8 0xf0 100 1 4 7
    ∷ of 8 0x3c 49 2 2 5
    ∷ of 8 0xc3 73 4 0 7
    -- every other way, and every other pair
    ∷ of 8 0x55 7 0 0 6
    ∷ of 8 0xaa 7 120 1 7
    ∷ of 8 0x33 41 0 0 5
    ∷ of 8 0xcc 81 6 2 7
    -- all, and all but one: way 7, way 0
    ∷ of 8 0xff 127 0 0 7
    ∷ of 8 0x7f 63 0 0 6
    ∷ of 8 0xfe 119 8 1 7
    -- no pattern
    ∷ of 8 0x6d 23 32 0 6
    ∷ of 8 0x92 5 72 1 7
    ∷ of 8 0xb5 39 64 0 7
    ∷ of 8 0x4a 3 28 1 6
    ∷ []

abbrev of_sixteen : List Case
of_sixteen =
    -- one way: 0, 7 and 15
    of 16 0x0001 0 0 0 0
    ∷ of 16 0x0080 0 1042 7 7
    ∷ of 16 0x8000 0 16453 15 15
    -- ways 7 and 8
    ∷ of 16 0x0180 1 1042 7 8
    -- pairs across the halves: 0 and 15, 4 and 11
    ∷ of 16 0x8001 1 16452 0 15
    ∷ of 16 0x0810 1 4130 4 11
    -- the last quarter
    ∷ of 16 0xf000 24640 5 12 15
    -- halves, and the eight in the middle
    ∷ of 16 0x00ff 1946 0 0 7
    ∷ of 16 0xff00 30820 1 8 15
    ∷ of 16 0x0ff0 7729 2 4 11
    -- every other way, and every other quarter
    ∷ of 16 0x5555 127 0 0 14
    ∷ of 16 0xaaaa 127 32640 1 15
    ∷ of 16 0x0f0f 6569 0 0 11
    -- one way of each quarter: 3, 6, 9 and 12
    ∷ of 16 0x1248 7 2328 3 12
    -- all, and all but way 0
    ∷ of 16 0xffff 32767 0 0 15
    ∷ of 16 0xfffe 32639 128 1 15
    -- no pattern
    ∷ of 16 0x2c93 4247 9248 0 13
    ∷ []

-- "Masked form: (word and not mask) or (mask and policy), mask being one at nodes that are not free, policy one at nodes forced right; the tree is then
-- walked by that word's bits alone." Of W ways, a map and a word: mask, policy, the masked word, and the way that is reached by it.
abbrev masks : ℕ → ℕ → ℕ → ℕ → ℕ → ℕ → ℕ → Case
masks W m x mask policy masked way = record {
  given = Tree.mask W (bit m) ∷ Tree.policy W (bit m) ∷ Tree.masked W (bit m) x ∷ Tree.masked_victim W (bit m) x ∷ [];
  printed = mask ∷ policy ∷ masked ∷ way ∷ [];
}

abbrev masked_form : List Case
masked_form =
    -- map 12 of eight ways, cases D and E
    masks 8 0x0c 0 111 2 2 2
    ∷ masks 8 0x0c 16 111 2 18 3
    -- bits of nodes that are not free have no say, and bits above the nodes stay: all ones, of four ways under map 2
    ∷ masks 4 2 18446744073709551615 7 2 18446744073709551610 1
    ∷ []

unfoldable pub nodes : List Case
nodes = none ++ (of_few ++ (of_eight ++ (of_sixteen ++ masked_form)))
