-- The replacement rules called alone: "Called so, they answer 1 for a W or rule outside the limits, then 5 for a map or touched way reaching W or higher,
-- or for a victim wanted of an empty map; the word is then unchanged" (document 01). Worked out by hand; rules 0, 1 and 2 are Tree-PLRU, NRU and, by
-- document 02's job 1, true LRU.
use Rattle.std.specs.Prelude.{List, [], ◌∷◌, ◌++◌, ℕ, ◌+◌, ◌^◌}
use Rattle.replacement.specs.Calls.{Result, victim_of, touch_of, fresh_of, own_of, shares_of}
use Rattle.cases.specs.Case.{Case}

-- An answer, 0 and its values or a refusal's number, and the word that the call leaves.
abbrev told : Result → List ℕ
told r = r.answer ++ (r.word ∷ [])

abbrev largest : ℕ
largest = 0xffffffffffffffff

-- ---- "1 for a W or rule outside the limits"

-- Every call, with maps and ways that would stand: 1, and word 77 unchanged; of the fresh word there is none before.
abbrev outside : ℕ → ℕ → Case
outside W rule = record {
  given = told (victim_of W rule 77 1) ++ (told (touch_of W rule 77 1 0) ++ (told (own_of W rule 77 1) ++ (told (fresh_of W rule) ++ shares_of W rule 1 2)));
  printed = 1 ∷ 77 ∷ 1 ∷ 77 ∷ 1 ∷ 77 ∷ 1 ∷ 0 ∷ 1 ∷ [];
}

-- "then 5": every call with a map that reaches W, a touched way that does, an empty map: still 1.
abbrev outside_first : ℕ → ℕ → Case
outside_first W rule = record {
  given = told (victim_of W rule largest 0)
      ++ (told (victim_of W rule largest 65535)
      ++ (told (touch_of W rule largest 65535 0)
      ++ (told (touch_of W rule largest 1 200) ++ (told (own_of W rule largest 65535) ++ shares_of W rule 65535 65535))));
  printed = 1 ∷ largest ∷ 1 ∷ largest ∷ 1 ∷ largest ∷ 1 ∷ largest ∷ 1 ∷ largest ∷ 1 ∷ [];
}

abbrev ones : List Case
ones =
    -- W = 3, under each rule
    outside 3 0 ∷ outside 3 1 ∷ outside 3 2
    -- W = 0, 1, 5, 6, 7, 9, 12, 15, 17, 32 and 64
    ∷ outside 0 0 ∷ outside 1 1 ∷ outside 5 2 ∷ outside 6 0 ∷ outside 7 1 ∷ outside 9 2 ∷ outside 12 0 ∷ outside 15 1 ∷ outside 17 2 ∷ outside 32 0
    ∷ outside 32 1 ∷ outside 32 2 ∷ outside 64 0
    -- rule 3 at each W; rules 4 and 255
    ∷ outside 2 3 ∷ outside 4 3 ∷ outside 8 3 ∷ outside 16 3 ∷ outside 4 4 ∷ outside 8 255
    -- W = 3 and rule 3 together
    ∷ outside 3 3
    -- 1 before 5: W = 3, 0 and 32; rule 3
    ∷ outside_first 3 0 ∷ outside_first 3 1 ∷ outside_first 3 2 ∷ outside_first 0 0 ∷ outside_first 32 1 ∷ outside_first 4 3 ∷ outside_first 8 3 ∷ outside_first 3 3
    ∷ []

-- ---- "5 for a map or touched way reaching W or higher, or for a victim wanted of an empty map"

-- Of W below 16: way W in the map of each call, alone and beside way 0; a touch of way W, and of way 255; the victim of an empty map.
abbrev beyond : ℕ → ℕ → Case
beyond W rule = record {
  given = told (victim_of W rule 77 (2 ^ W))
      ++ (told (victim_of W rule largest (1 + 2 ^ W))
      ++ (told (touch_of W rule 77 (1 + 2 ^ W) 0)
      ++ (told (touch_of W rule 77 1 W)
      ++ (told (touch_of W rule largest 1 255)
      ++ (told (own_of W rule 77 (1 + 2 ^ W)) ++ (shares_of W rule 1 (2 ^ W) ++ (shares_of W rule (2 ^ W) 1 ++ told (victim_of W rule 77 0))))))));
  printed = 5 ∷ 77 ∷ 5 ∷ largest ∷ 5 ∷ 77 ∷ 5 ∷ 77 ∷ 5 ∷ largest ∷ 5 ∷ 77 ∷ 5 ∷ 5 ∷ 5 ∷ 77 ∷ [];
}

-- Of sixteen ways no map reaches W: a touch of way 16, and of way 255; the victim of an empty map.
abbrev beyond_sixteen : ℕ → Case
beyond_sixteen rule = record {
  given = told (touch_of 16 rule 77 65535 16) ++ (told (touch_of 16 rule largest 1 255) ++ told (victim_of 16 rule 77 0));
  printed = 5 ∷ 77 ∷ 5 ∷ largest ∷ 5 ∷ 77 ∷ [];
}

abbrev fives : List Case
fives =
    beyond 2 0 ∷ beyond 2 1 ∷ beyond 2 2 ∷ beyond 4 0 ∷ beyond 4 1 ∷ beyond 4 2 ∷ beyond 8 0 ∷ beyond 8 1 ∷ beyond 8 2 ∷ beyond_sixteen 0
    ∷ beyond_sixteen 1 ∷ beyond_sixteen 2 ∷ []

-- ---- Calls that stand

-- A touch with an empty map, and one of a way outside the map, is not refused, and moves nothing; the own part of an empty map is empty.
abbrev idle : ℕ → ℕ → Case
idle W rule = record {
  given = told (touch_of W rule 77 0 0) ++ (told (touch_of W rule largest 1 1) ++ told (own_of W rule 77 0));
  printed = 0 ∷ 77 ∷ 0 ∷ largest ∷ 0 ∷ 0 ∷ [];
}

abbrev stands : List Case
stands =
    idle 2 0 ∷ idle 2 1 ∷ idle 2 2 ∷ idle 8 0 ∷ idle 8 1 ∷ idle 8 2 ∷ idle 16 0 ∷ idle 16 1 ∷ idle 16 2
    -- "a word and a map give a victim and the word before its touch": Tree-PLRU, map 12, words 0 and 16; the word stays
    ∷ record { given = told (victim_of 8 0 0 12) ++ told (victim_of 8 0 16 12); printed = 0 ∷ 2 ∷ 0 ∷ 0 ∷ 3 ∷ 16 ∷ [] }
    -- NRU, map 6: of word 0 all bits of the map become one; of word 3 way 1's is, and the word stays
    ∷ record { given = told (victim_of 8 1 0 6) ++ told (victim_of 8 1 3 6); printed = 0 ∷ 2 ∷ 6 ∷ 0 ∷ 1 ∷ 3 ∷ [] }
    -- true LRU, the order 2, 1, 0, 3: of ways 0, 1 and 2 way 0; the word stays, also one that is read as fresh
    ∷ record { given = told (victim_of 4 2 0x3012 7) ++ told (victim_of 4 2 0 12); printed = 0 ∷ 0 ∷ 0x3012 ∷ 0 ∷ 2 ∷ 0 ∷ [] }
    -- sixteen ways, under each rule: way 15 in the map
    ∷ record {
      given = told (victim_of 16 0 32767 65535) ++ (told (victim_of 16 1 0 0x8001) ++ told (victim_of 16 2 0xfedcba9876543210 65535));
      printed = 0 ∷ 15 ∷ 32767 ∷ 0 ∷ 15 ∷ 0x8001 ∷ 0 ∷ 15 ∷ 0xfedcba9876543210 ∷ [];
    }
    -- "a word, a map and a touched way give a new word": way 5 under map 255 of ones turns nodes 0 and 5 left; NRU clears bit 5; true LRU brings way 5 to
    -- place 0
    ∷ record {
      given = told (touch_of 8 0 127 255 5) ++ (told (touch_of 8 1 255 255 5) ++ told (touch_of 8 2 0x01234567 255 5));
      printed = 0 ∷ 94 ∷ 0 ∷ 223 ∷ 0 ∷ 0x01234675 ∷ [];
    }
    -- sixteen ways: way 0 of fresh words
    ∷ record {
      given = told (touch_of 16 0 0 65535 0) ++ (told (touch_of 16 1 65535 65535 0) ++ told (touch_of 16 2 0x0123456789abcdef 65535 0));
      printed = 0 ∷ 139 ∷ 0 ∷ 65534 ∷ 0 ∷ 0x123456789abcdef0 ∷ [];
    }
    -- "Fresh: all zero, except that under NRU the low W bits of each replacement word are one"
    ∷ record {
      given = told (fresh_of 2 0) ++ (told (fresh_of 16 0) ++ (told (fresh_of 2 1) ++ (told (fresh_of 4 1) ++ (told (fresh_of 8 1) ++ told (fresh_of 16 1)))));
      printed = 0 ∷ 0 ∷ 0 ∷ 0 ∷ 0 ∷ 3 ∷ 0 ∷ 15 ∷ 0 ∷ 255 ∷ 0 ∷ 65535 ∷ [];
    }
    -- job 1: "Fresh, place k holds way W − 1 − k"
    ∷ record {
      given = told (fresh_of 2 2) ++ (told (fresh_of 4 2) ++ (told (fresh_of 8 2) ++ told (fresh_of 16 2)));
      printed = 0 ∷ 0x01 ∷ 0 ∷ 0x0123 ∷ 0 ∷ 0x01234567 ∷ 0 ∷ 0x0123456789abcdef ∷ [];
    }
    -- "A domain's own replacement bits are its free nodes, or the NRU bits of its fill map", and under true LRU "the relative order of its fill ways"
    ∷ record {
      given = told (own_of 8 0 largest 12) ++ (told (own_of 16 0 largest 0x5555) ++ (told (own_of 8 1 largest 6) ++ told (own_of 4 2 0x3012 9)));
      printed = 0 ∷ 16 ∷ 0 ∷ 127 ∷ 0 ∷ 6 ∷ 0 ∷ 0x30 ∷ [];
    }
    -- case F's maps share node 1 under Tree-PLRU alone, case G's no node; an empty map shares none; a map of two ways or more shares its nodes with itself
    ∷ record {
      given = shares_of 8 0 5 10
          ++ (shares_of 8 1 5 10 ++ (shares_of 8 2 5 10 ++ (shares_of 8 0 3 12 ++ (shares_of 8 0 0 255 ++ (shares_of 2 0 3 3 ++ shares_of 16 0 0x8080 0x0101)))));
      printed = 9 ∷ 0 ∷ 0 ∷ 0 ∷ 0 ∷ 9 ∷ 9 ∷ [];
    }
    ∷ []

unfoldable pub alone : List Case
alone = ones ++ (fives ++ stands)
