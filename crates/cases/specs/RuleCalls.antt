-- The rules called alone, and the calls of each rule: what they give, and what was worked out by hand from document 01, "The tree and the bits", and from
-- document 02's jobs 1, 4 and 8. A test counts as 1 where it holds.
use Rattle.std.specs.Prelude.{Bool, true, cond, List, [], ◌∷◌, ◌++◌, ℕ, Ok, Err}
use Rattle.waymap.specs.Bits.{bit, lowest, put}
use Rattle.waymap.specs.Ways.{is_ways, takes}
use Rattle.tree.specs.Tree as TreeRule
use Rattle.tree.specs.Calls as Tree
use Rattle.nru.specs.Calls as Nru
use Rattle.nru.specs.declared.Choice.{Choice}
use Rattle.lru_rule.specs.Calls as Lru
use Rattle.lru_rule.specs.declared.Moves.{Moves}
use Rattle.replacement.specs.Rule.{tree, nru, lru}
use Rattle.replacement.specs.Calls as Alone
use Rattle.replacement.specs.Calls.{Result}
use Rattle.replacement.specs.Answer.{answer_of, outcome_of, choice_of}
use Rattle.replacement.specs.Change.{change_of, change_by}
use Rattle.replacement.specs.declared.Change.{Change}
use Rattle.replacement.specs.declared.Change.TheVariants.{Clear, Raise, Age, Stay}
use Rattle.replacement.specs.declared.Refusal.TheVariants.{OutsideLimits, OutOfReach, SharedNode}
use Rattle.cases.specs.Case.{Case}

-- A test as a number.
abbrev flag : Bool → ℕ
flag b = cond b 1 0

-- ---- Maps

-- "Ways W: 2, 4, 8 or 16", and maps of that many.
abbrev sizes : List Case
sizes =
    record {
      given = flag (is_ways 1) ∷ flag (is_ways 2) ∷ flag (is_ways 3) ∷ flag (is_ways 4) ∷ flag (is_ways 8) ∷ flag (is_ways 16) ∷ flag (is_ways 32) ∷ [];
      printed = 0 ∷ 1 ∷ 0 ∷ 1 ∷ 1 ∷ 1 ∷ 0 ∷ [];
    }
    -- a map of way 3 alone, of way 4, of way 1, of none; and three ways are no W
    ∷ record {
      given = flag (takes 4 8) ∷ flag (takes 4 16) ∷ flag (takes 4 2) ∷ flag (takes 4 0) ∷ flag (takes 3 2) ∷ [];
      printed = 1 ∷ 0 ∷ 1 ∷ 1 ∷ 0 ∷ [];
    }
    -- "A map is a 16-bit word": way 15 can be put into it, and way 16 cannot. Of no ways the lowest is none, of which their number stands for it
    ∷ record { given = put 15 true 1 ∷ put 16 true 1 ∷ lowest 0 (bit 1) ∷ lowest 2 (bit 4) ∷ []; printed = 0x8001 ∷ 1 ∷ 0 ∷ 2 ∷ [] }
    ∷ []

-- ---- Tree-PLRU's calls; of four ways node 1 is above ways 0 and 1, and node 2 above ways 2 and 3

abbrev tree_calls : List Case
tree_calls =
    -- "node i has children 2i + 1 (left, lower ways) and 2i + 2 (right)": above place 5 is node 2, and above that node 0
    record {
      given = flag (TreeRule.passes 0 1 5) ∷ flag (TreeRule.passes 1 2 5) ∷ flag (TreeRule.passes 1 0 5) ∷ flag (TreeRule.passes 2 0 5) ∷ [];
      printed = 0 ∷ 1 ∷ 0 ∷ 1 ∷ [];
    }
    -- map 15, node 0 pointing right; map 9, whose nodes 1 and 2 are forced left and right; map 2
    ∷ record { given = Tree.victim_of 4 1 15 ∷ Tree.victim_of 4 1 9 ∷ Tree.victim_of 4 6 9 ∷ Tree.victim_of 4 0 2 ∷ []; printed = 2 ∷ 3 ∷ 0 ∷ 1 ∷ [] }
    -- no W, and a map with a way of W or higher
    ∷ record { given = Tree.victim_of 3 2 6 ∷ Tree.victim_of 4 7 0x1c ∷ []; printed = 0 ∷ 0 ∷ [] }
    -- "so that it points away from w; no other bit moves": ways 0 and 3, and way 2 outside the map
    ∷ record {
      given = Tree.touch_of 4 0 15 0 ∷ Tree.touch_of 4 7 15 3 ∷ Tree.touch_of 4 5 3 2 ∷ Tree.touch_of 4 0x8000000000000000 15 3 ∷ [];
      printed = 3 ∷ 2 ∷ 5 ∷ 0x8000000000000000 ∷ [];
    }
    ∷ record { given = Tree.touch_of 3 5 7 0 ∷ Tree.touch_of 4 0 0x1f 0 ∷ []; printed = 5 ∷ 0 ∷ [] }
    -- "Tree nodes free under exactly one of them": for map 3 node 1, for map 15 all three
    ∷ record { given = Tree.change_of 4 3 15 ∷ Tree.change_of 4 0x13 15 ∷ Tree.change_of 4 3 0x1f ∷ Tree.change_of 3 3 7 ∷ []; printed = 5 ∷ 0 ∷ 0 ∷ 0 ∷ [] }
    -- they "become zero"; a word has 64 bits
    ∷ record {
      given = Tree.reset_of 7 5 ∷ Tree.reset_of 0x8000000000000001 1 ∷ Tree.reset_of 0x10000000000000000 0 ∷ [];
      printed = 2 ∷ 0x8000000000000000 ∷ 0 ∷ [];
    }
    -- "A domain's own replacement bits are its free nodes"
    ∷ record { given = Tree.own_of 4 7 3 ∷ Tree.own_of 4 5 3 ∷ Tree.own_of 4 7 0x1f ∷ Tree.own_of 3 7 7 ∷ []; printed = 2 ∷ 0 ∷ 0 ∷ 0 ∷ [] }
    -- "a node free for it and for another domain": node 0 for maps 5 and 10; none for 3 and 12
    ∷ record {
      given =
          flag (Tree.shares_of 4 5 10) ∷ flag (Tree.shares_of 4 3 12) ∷ flag (Tree.shares_of 4 0x15 10) ∷ flag (Tree.shares_of 4 5 0x1a)
          ∷ flag (Tree.shares_of 3 3 5) ∷ [];
      printed = 1 ∷ 0 ∷ 0 ∷ 0 ∷ 0 ∷ [];
    }
    ∷ []

-- "Masked form": for map 12 of eight ways node 4 is free and node 1 forced right, so that the mask is 111 and the policy 2.
abbrev masks : List Case
masks =
    record { given = TreeRule.mask 8 (bit 12) ∷ TreeRule.policy 8 (bit 12) ∷ []; printed = 111 ∷ 2 ∷ [] }
    -- "(word and not mask) or (mask and policy)": bits above the nodes are the word's
    ∷ record { given = TreeRule.masked 8 (bit 12) 0 ∷ TreeRule.masked 8 (bit 12) 0x80000000000001ff ∷ []; printed = 2 ∷ 0x8000000000000192 ∷ [] }
    -- "the tree is then walked by that word's bits alone"
    ∷ record {
      given = TreeRule.masked_victim 8 (bit 12) 0 ∷ TreeRule.masked_victim 8 (bit 12) 127 ∷ TreeRule.masked_victim 8 (bit 255) 5 ∷ [];
      printed = 2 ∷ 3 ∷ 6 ∷ [];
    }
    ∷ []

-- ---- NRU's calls

-- A victim, and the word before its touch.
abbrev chosen : Choice → List ℕ
chosen c = c.way ∷ c.word ∷ []

abbrev nru_calls : List Case
nru_calls =
    -- "all bits of the fill map become one", "the highest way now wins"
    record { given = chosen (Nru.victim_of 0 6); printed = 2 ∷ 6 ∷ [] }
    ∷ record { given = chosen (Nru.victim_of 0x800b 6); printed = 1 ∷ 0x800b ∷ [] }
    ∷ record { given = chosen (Nru.victim_of 0x8000000000008000 0x8001); printed = 15 ∷ 0x8000000000008000 ∷ [] }
    -- an empty map has none: 16
    ∷ record { given = chosen (Nru.victim_of 5 0) ++ chosen (Nru.victim_of 0x10000000000000000 0); printed = 16 ∷ 5 ∷ 16 ∷ 0 ∷ [] }
    -- "Touching w clears its bit if w is in the fill map"
    ∷ record {
      given = Nru.touch_of 15 6 1 ∷ Nru.touch_of 15 6 0 ∷ Nru.touch_of 0x8000000000000001 1 0 ∷ Nru.touch_of 0x10000000000000000 1 0 ∷ [];
      printed = 13 ∷ 15 ∷ 0x8000000000000000 ∷ 0 ∷ [];
    }
    -- "NRU bits of ways in exactly one of the old and new fill maps become one"
    ∷ record { given = Nru.change_of 6 12 ∷ Nru.change_of 0x8000 0 ∷ Nru.change_of 0x10000 0 ∷ []; printed = 10 ∷ 0x8000 ∷ 0 ∷ [] }
    ∷ record {
      given = Nru.reset_of 1 6 ∷ Nru.reset_of 0x8000000000000000 1 ∷ Nru.reset_of 0x10000000000000000 0 ∷ [];
      printed = 7 ∷ 0x8000000000000001 ∷ 0 ∷ [];
    }
    -- "the NRU bits of its fill map"
    ∷ record { given = Nru.own_of 13 6 ∷ Nru.own_of 0x8000000000000000 0x8000000000000000 ∷ []; printed = 4 ∷ 0x8000000000000000 ∷ [] }
    ∷ record { given = Nru.own_of 0x10000000000000000 0x10000000000000000 ∷ []; printed = 0 ∷ [] }
    -- "the low W bits of each replacement word are one"; no map has more than sixteen ways
    ∷ record { given = Nru.fresh_of 4 ∷ Nru.fresh_of 16 ∷ Nru.fresh_of 17 ∷ []; printed = 15 ∷ 0xffff ∷ 0xffff ∷ [] }
    ∷ []

-- ---- True LRU's calls; the word 0x3012 holds the order 2, 1, 0, 3, the most recent first

abbrev moves : Moves → List ℕ
moves m = m.ways ∷ m.tail ∷ []

abbrev lru_calls : List Case
lru_calls =
    -- "the fill map's way nearest the old end"
    record { given = Lru.victim_of 4 0x3012 15 ∷ Lru.victim_of 4 0x3012 6 ∷ []; printed = 3 ∷ 1 ∷ [] }
    ∷ record { given = Lru.victim_of 4 0x3012 0x1c ∷ Lru.victim_of 3 0x012 6 ∷ []; printed = 0 ∷ 0 ∷ [] }
    -- "Touching a way of the fill map brings it to place 0"
    ∷ record { given = Lru.touch_of 4 0x3012 15 3 ∷ Lru.touch_of 4 0x3012 0x1f 3 ∷ Lru.touch_of 3 0x012 7 0 ∷ []; printed = 0x0123 ∷ 0x3012 ∷ 0x012 ∷ [] }
    -- ways put before a word's places, whose highest is lost
    ∷ record { given = Lru.ahead (1 ∷ 2 ∷ []) 3 ∷ Lru.ahead (5 ∷ []) 0xf123456789abcdef ∷ []; printed = 0x321 ∷ 0x123456789abcdef5 ∷ [] }
    -- "the ways in exactly one of the old and new fill maps", "the lowest of them oldest": ways 3 and 1; ways 15 and 0; there is no way 16
    ∷ record {
      given = moves (Lru.change_of 6 12) ++ (moves (Lru.change_of 0x8000 1) ++ moves (Lru.change_of 0x10000 0));
      printed = 10 ∷ 0x13 ∷ 0x8001 ∷ 0x0f ∷ 0 ∷ 0 ∷ [];
    }
    -- they move "to the old end", and the rest stay "in their order": 2, 0, 3, 1; of 3, 2, 1, 0 way 3: 2, 1, 0, 3
    ∷ record {
      given = Lru.reset_of 4 0x3012 (record { ways = 10; tail = 0x13 }) ∷ Lru.reset_of 4 0x0123 (record { ways = 8; tail = 3 }) ∷ [];
      printed = 0x1302 ∷ 0x3012 ∷ [];
    }
    -- the order is as read, the word 0 being read as fresh: "leaves the word untouched"
    ∷ record { given = Lru.reset_of 4 0 (record { ways = 3; tail = 0x01 }) ∷ []; printed = 0 ∷ [] }
    ∷ record {
      given = Lru.reset_of 4 0x3012 (record { ways = 0x12; tail = 0x14 }) ∷ Lru.reset_of 3 0x012 (record { ways = 4; tail = 2 }) ∷ [];
      printed = 0x3012 ∷ 0x012 ∷ [];
    }
    -- "the relative order of its fill ways"
    ∷ record { given = Lru.own_of 4 0x3012 6 ∷ Lru.own_of 4 0x3012 0x1f ∷ Lru.own_of 3 0x012 7 ∷ []; printed = 0x12 ∷ 0 ∷ 0 ∷ [] }
    ∷ record { given = Lru.fresh_of 4 ∷ Lru.fresh_of 3 ∷ []; printed = 0x0123 ∷ 0 ∷ [] }
    ∷ []

-- ---- "The replacement rules are usable without any cache above them"

-- An answer, and the word that the call leaves.
abbrev left : Result → List ℕ
left r = r.answer ++ (r.word ∷ [])

abbrev alone : List Case
alone =
    -- the numbers and values of the answers
    record {
      given =
          (choice_of 9 (Ok (record { way = 6; word = 3 }))).answer ++ (answer_of (Ok tt)
          ++ (answer_of (Err OutsideLimits) ++ (answer_of (Err OutOfReach) ++ answer_of (Err SharedNode))));
      printed = 0 ∷ 6 ∷ 0 ∷ 1 ∷ 5 ∷ 9 ∷ [];
    }
    -- the word that a call leaves: the one that it gives, or, refused, the one that it was lent
    ∷ record {
      given =
          left (choice_of 9 (Ok (record { way = 6; word = 3 }))) ++ (left (choice_of 9 (Err OutOfReach))
          ++ (left (outcome_of 9 (Ok 3)) ++ left (outcome_of 9 (Err OutOfReach))));
      printed = 0 ∷ 6 ∷ 3 ∷ 5 ∷ 9 ∷ 0 ∷ 3 ∷ 5 ∷ 9 ∷ [];
    }
    -- "a word and a map give a victim and the word before its touch"
    ∷ record { given = left (Alone.victim_of 4 0 1 15); printed = 0 ∷ 2 ∷ 1 ∷ [] }
    ∷ record { given = left (Alone.victim_of 4 1 0 6); printed = 0 ∷ 2 ∷ 6 ∷ [] }
    ∷ record { given = left (Alone.victim_of 4 2 0x3012 6); printed = 0 ∷ 1 ∷ 0x3012 ∷ [] }
    ∷ record { given = left (Alone.victim_of 16 1 0xffff 0x8000); printed = 0 ∷ 15 ∷ 0xffff ∷ [] }
    -- "they answer 1 for a W or rule outside the limits, then 5 for a map or touched way reaching W or higher, or for a victim wanted of an empty map; the
    -- word is then unchanged"
    ∷ record { given = left (Alone.victim_of 4 3 7 15) ++ left (Alone.victim_of 3 1 7 0x1f); printed = 1 ∷ 7 ∷ 1 ∷ 7 ∷ [] }
    ∷ record { given = left (Alone.victim_of 4 1 7 0x1f) ++ left (Alone.victim_of 4 1 7 0); printed = 5 ∷ 7 ∷ 5 ∷ 7 ∷ [] }
    -- "a word, a map and a touched way give a new word"
    ∷ record { given = left (Alone.touch_of 4 0 0 15 0); printed = 0 ∷ 3 ∷ [] }
    ∷ record { given = left (Alone.touch_of 4 1 15 6 1); printed = 0 ∷ 13 ∷ [] }
    ∷ record { given = left (Alone.touch_of 4 2 0x3012 15 3); printed = 0 ∷ 0x0123 ∷ [] }
    ∷ record { given = left (Alone.touch_of 4 1 15 0x1e 1) ++ left (Alone.touch_of 4 1 31 6 4); printed = 5 ∷ 15 ∷ 5 ∷ 31 ∷ [] }
    ∷ record { given = left (Alone.touch_of 3 1 15 6 1) ++ left (Alone.touch_of 4 3 15 0x1f 5); printed = 1 ∷ 15 ∷ 1 ∷ 15 ∷ [] }
    -- the word of a fresh cache, and the own part of a word
    ∷ record { given = left (Alone.fresh_of 4 0) ++ (left (Alone.fresh_of 4 1) ++ left (Alone.fresh_of 4 2)); printed = 0 ∷ 0 ∷ 0 ∷ 15 ∷ 0 ∷ 0x0123 ∷ [] }
    ∷ record { given = left (Alone.fresh_of 4 3) ++ left (Alone.fresh_of 3 1); printed = 1 ∷ 0 ∷ 1 ∷ 0 ∷ [] }
    ∷ record { given = left (Alone.own_of 4 0 7 3) ++ left (Alone.own_of 4 1 13 6); printed = 0 ∷ 2 ∷ 0 ∷ 4 ∷ [] }
    ∷ record { given = left (Alone.own_of 4 2 0x3012 6); printed = 0 ∷ 0x12 ∷ [] }
    ∷ record { given = left (Alone.own_of 4 1 13 0x16) ++ left (Alone.own_of 3 1 13 0x16); printed = 5 ∷ 13 ∷ 1 ∷ 13 ∷ [] }
    -- "a node free for it and for another domain", under Tree-PLRU alone
    ∷ record {
      given = Alone.shares_of 4 0 5 10 ++ (Alone.shares_of 4 0 3 12 ++ (Alone.shares_of 4 1 5 10 ++ Alone.shares_of 4 2 5 10));
      printed = 9 ∷ 0 ∷ 0 ∷ 0 ∷ [];
    }
    ∷ record {
      given = Alone.shares_of 4 0 0x15 10 ++ (Alone.shares_of 4 0 5 0x1a ++ (Alone.shares_of 3 0 5 10 ++ Alone.shares_of 4 3 0x15 10));
      printed = 5 ∷ 5 ∷ 1 ∷ 1 ∷ [];
    }
    ∷ []

-- ---- A change of fill map, worked out once

abbrev told : Change → List ℕ
told (Clear nodes) = 0 ∷ nodes ∷ []
told (Raise ways) = 1 ∷ ways ∷ []
told (Age W m) = 2 ∷ W ∷ m.ways ∷ m.tail ∷ []
told Stay = 3 ∷ []

abbrev changes : List Case
changes =
    -- nodes 0 and 2; ways 1 and 3; ways 3 and 1 to the old end; nothing where the fill map stays
    record { given = told (change_of 4 0 3 15) ++ told (change_of 4 1 6 12); printed = 0 ∷ 5 ∷ 1 ∷ 10 ∷ [] }
    ∷ record { given = told (change_of 4 2 6 12) ++ told (change_of 4 2 6 6); printed = 2 ∷ 4 ∷ 10 ∷ 0x13 ∷ 3 ∷ [] }
    ∷ record { given = told (change_of 4 2 12 6) ++ told (change_of 4 2 0 6); printed = 2 ∷ 4 ∷ 10 ∷ 0x13 ∷ 2 ∷ 4 ∷ 6 ∷ 0x12 ∷ [] }
    -- outside the limits words stay
    ∷ record {
      given = told (change_of 4 3 6 12) ++ (told (change_of 3 1 6 4) ++ (told (change_of 4 1 0x16 12) ++ told (change_of 4 1 6 0x1c)));
      printed = 3 ∷ 3 ∷ 3 ∷ 3 ∷ [];
    }
    -- what becomes of a word
    ∷ record {
      given =
          change_by (Clear 5) 7 ∷ change_by (Raise 10) 1 ∷ change_by (Age 4 (record { ways = 10; tail = 0x13 })) 0x3012 ∷ change_by Stay 7 ∷ [];
      printed = 2 ∷ 11 ∷ 0x1302 ∷ 7 ∷ [];
    }
    ∷ []

-- ---- What a word says, which of it a fill map goes by, and what its touches may change

abbrev cells : List Case
cells =
    -- Tree-PLRU: for map 3 of four ways node 1, and not node 0; a word has 64 bits
    record {
      given =
          flag ((tree 4).own 3 1) ∷ flag ((tree 4).own 3 0) ∷ flag ((tree 4).writes 3 1) ∷ flag ((tree 4).writes 3 0) ∷ flag ((tree 4).view 2 1)
          ∷ flag ((tree 4).view 2 0) ∷ [];
      printed = 1 ∷ 0 ∷ 1 ∷ 0 ∷ 1 ∷ 0 ∷ [];
    }
    ∷ record { given = flag ((tree 4).view 0x8000000000000000 63) ∷ flag ((tree 4).view 0x10000000000000000 64) ∷ []; printed = 1 ∷ 0 ∷ [] }
    -- NRU: the bits of its ways
    ∷ record {
      given = flag ((nru 4).own 6 2) ∷ flag ((nru 4).own 6 3) ∷ flag ((nru 4).writes 6 1) ∷ flag ((nru 4).writes 6 0) ∷ flag ((nru 4).view 2 1) ∷ [];
      printed = 1 ∷ 0 ∷ 1 ∷ 0 ∷ 1 ∷ [];
    }
    -- true LRU: "the relative order of its fill ways", of the order 2, 1, 0, 3 that 2 stands before 1; a touch may move way 1 past way 3
    ∷ record {
      given =
          flag ((lru 4).view 0x3012 (2, 1)) ∷ flag ((lru 4).view 0x3012 (1, 2)) ∷ flag ((lru 4).own 6 (2, 1)) ∷ flag ((lru 4).own 6 (1, 3))
          ∷ flag ((lru 4).own 6 (3, 1)) ∷ [];
      printed = 1 ∷ 0 ∷ 1 ∷ 0 ∷ 0 ∷ [];
    }
    ∷ record { given = flag ((lru 4).writes 6 (1, 3)) ∷ flag ((lru 4).writes 6 (3, 1)) ∷ flag ((lru 4).writes 6 (0, 3)) ∷ []; printed = 1 ∷ 1 ∷ 0 ∷ [] }
    -- the own part of a word, and what no rule but Tree-PLRU shares
    ∷ record {
      given = (tree 4).part 3 7 ∷ (nru 4).part 6 13 ∷ (lru 4).part 6 0x3012 ∷ flag ((nru 4).shares 5 10) ∷ flag ((lru 4).shares 5 10) ∷ [];
      printed = 2 ∷ 4 ∷ 0x12 ∷ 0 ∷ 0 ∷ [];
    }
    ∷ []

unfoldable pub rule_calls : List Case
rule_calls = sizes ++ (tree_calls ++ (masks ++ (nru_calls ++ (lru_calls ++ (alone ++ (changes ++ cells))))))
