-- Job 1's cases, of the rule called alone: what true LRU gives, and what was worked out by hand from the text of document 02. In a word the
-- last digit is place 0, so that 0x3012 is the order 2, 1, 0, 3: way 2 the most recent, way 3 at the old end.
use Rattle.std.specs.Prelude.{List, [], ◌∷◌, ◌++◌}
use Rattle.replacement.specs.Rule.{lru}
use Rattle.cases.specs.Case.{Case}

-- "Fresh, place k holds way W − 1 − k"
abbrev begun : List Case
begun =
    -- 2, 4, 8 and 16 ways
    record { given = (lru 2).fresh ∷ (lru 4).fresh ∷ []; printed = 0x01 ∷ 0x0123 ∷ [] }
    ∷ record { given = (lru 8).fresh ∷ (lru 16).fresh ∷ []; printed = 0x01234567 ∷ 0x0123456789abcdef ∷ [] }
    ∷ []

-- "a word that does not hold each way exactly once, or has a higher place not zero, is read as fresh", and a call "after which the order is as
-- read leaves the word untouched"
abbrev misread : List Case
misread =
    -- word 0, map 15: touching way 3 leaves 0, touching way 2 writes 0x0132
    record { given = (lru 4).touch 15 3 0 ∷ (lru 4).touch 15 2 0 ∷ []; printed = 0 ∷ 0x0132 ∷ [] }
    -- 0x0122 holds way 2 twice: touching way 3, its most recent as read, leaves it; touching way 2, which stands at place 0, does not
    ∷ record { given = (lru 4).touch 15 3 0x0122 ∷ (lru 4).touch 15 2 0x0122 ∷ []; printed = 0x0122 ∷ 0x0132 ∷ [] }
    -- 0x2210 too, at the old end: the victim is way 0, of ways 2 and 3 way 2, and of way 3, which it does not hold, way 3
    ∷ record { given = (lru 4).victim 15 0x2210 ∷ (lru 4).victim 12 0x2210 ∷ (lru 4).victim 8 0x2210 ∷ []; printed = 0 ∷ 2 ∷ 3 ∷ [] }
    -- its touches: of way 3, which leaves it, of way 0, which stands at place 0, and of way 1
    ∷ record {
      given = (lru 4).touch 15 3 0x2210 ∷ (lru 4).touch 15 0 0x2210 ∷ (lru 4).touch 15 1 0x2210 ∷ [];
      printed = 0x2210 ∷ 0x1230 ∷ 0x0231 ∷ [];
    }
    -- a victim alone does not change a word, malformed or not
    ∷ record { given = (lru 4).before 15 0x2210 ∷ (lru 4).before 15 0x3012 ∷ []; printed = 0x2210 ∷ 0x3012 ∷ [] }
    -- 0x10123 is the fresh order with way 1 at place 4: touching way 3 leaves it, touching way 2 writes the order without that place
    ∷ record { given = (lru 4).touch 15 3 0x10123 ∷ (lru 4).touch 15 2 0x10123 ∷ []; printed = 0x10123 ∷ 0x0132 ∷ [] }
    -- 0x13012 holds each way once below its place 4, and is read as fresh all the same: the victim, and touches of ways 3 and 2
    ∷ record {
      given = (lru 4).victim 15 0x13012 ∷ (lru 4).touch 15 3 0x13012 ∷ (lru 4).touch 15 2 0x13012 ∷ [];
      printed = 0 ∷ 0x13012 ∷ 0x0132 ∷ [];
    }
    -- the highest place counts too: 1 in place 15 above the order 2, 1, 0, 3
    ∷ record {
      given = (lru 4).victim 15 0x1000000000003012 ∷ (lru 4).touch 15 3 0x1000000000003012 ∷ (lru 4).touch 15 2 0x1000000000003012 ∷ [];
      printed = 0 ∷ 0x1000000000003012 ∷ 0x0132 ∷ [];
    }
    -- of two ways 0x10 is the order 0, 1, and 0x110 is read as fresh: their victims, and touches of way 1
    ∷ record {
      given = (lru 2).victim 3 0x10 ∷ (lru 2).victim 3 0x110 ∷ (lru 2).touch 3 1 0x10 ∷ (lru 2).touch 3 1 0x110 ∷ [];
      printed = 1 ∷ 0 ∷ 0x01 ∷ 0x110 ∷ [];
    }
    -- of eight ways 0x80234567 holds 8, which is no way, in place of way 1: its victim, and touches of ways 7 and 1
    ∷ record {
      given = (lru 8).victim 0xfe 0x80234567 ∷ (lru 8).touch 0xff 7 0x80234567 ∷ (lru 8).touch 0xff 1 0x80234567 ∷ [];
      printed = 1 ∷ 0x80234567 ∷ 0x02345671 ∷ [];
    }
    -- of sixteen ways there is no place above; all ones hold way 15 sixteen times: its victim, and touches of ways 15 and 0
    ∷ record {
      given = (lru 16).victim 0xffff 0xffffffffffffffff
          ∷ (lru 16).touch 0xffff 15 0xffffffffffffffff
          ∷ (lru 16).touch 0xffff 0 0xffffffffffffffff
          ∷ [];
      printed = 0 ∷ 0xffffffffffffffff ∷ 0x123456789abcdef0 ∷ [];
    }
    ∷ []

-- "Touching a way of the fill map brings it to place 0; touching another moves nothing."
abbrev touches : List Case
touches =
    -- the order 2, 1, 0, 3: touching way 0 gives 0, 2, 1, 3, and touching way 3 gives 3, 2, 1, 0
    record { given = (lru 4).touch 15 0 0x3012 ∷ (lru 4).touch 15 3 0x3012 ∷ []; printed = 0x3120 ∷ 0x0123 ∷ [] }
    -- touching the most recent leaves it
    ∷ record { given = (lru 4).touch 15 2 0x3012 ∷ []; printed = 0x3012 ∷ [] }
    -- "to place 0", past ways outside the map: way 0 under map 1
    ∷ record { given = (lru 4).touch 1 0 0x3012 ∷ []; printed = 0x3120 ∷ [] }
    -- "touching another": way 3 under map 3, and under an empty map
    ∷ record { given = (lru 4).touch 3 3 0x3012 ∷ (lru 4).touch 0 3 0x3012 ∷ []; printed = 0x3012 ∷ 0x3012 ∷ [] }
    -- the same of words that are read as fresh: way 2 under map 3, and way 0 under map 14
    ∷ record { given = (lru 4).touch 3 2 0x2210 ∷ (lru 4).touch 14 0 0x13012 ∷ (lru 4).touch 3 2 0 ∷ []; printed = 0x2210 ∷ 0x13012 ∷ 0 ∷ [] }
    -- sixteen ways, from way 0 to way 15: touching way 15
    ∷ record { given = (lru 16).touch 0xffff 15 0xfedcba9876543210 ∷ []; printed = 0xedcba9876543210f ∷ [] }
    ∷ []

-- "The victim is the fill map's way nearest the old end."
abbrev victims : List Case
victims =
    -- the order 2, 1, 0, 3: of all ways way 3
    record { given = (lru 4).victim 15 0x3012 ∷ []; printed = 3 ∷ [] }
    -- way 3 is not in the map: of ways 0, 1 and 2 way 0, of ways 1 and 2 way 1
    ∷ record { given = (lru 4).victim 7 0x3012 ∷ (lru 4).victim 6 0x3012 ∷ []; printed = 0 ∷ 1 ∷ [] }
    -- the most recent, where the map has no other
    ∷ record { given = (lru 4).victim 4 0x3012 ∷ []; printed = 2 ∷ [] }
    -- sixteen ways, from way 0 to way 15: of all of them, and of the lower eight
    ∷ record { given = (lru 16).victim 0xffff 0xfedcba9876543210 ∷ (lru 16).victim 0xff 0xfedcba9876543210 ∷ []; printed = 15 ∷ 7 ∷ [] }
    ∷ []

-- "A policy change moves the ways in exactly one of the old and new fill maps to the old end, the lowest of them oldest, and leaves the rest in
-- their order."
abbrev changes : List Case
changes =
    -- the order 0, 2, 3, 1 and maps 3 and 5: ways 1 and 2 move, and 0, 3, 2, 1 is left
    record { given = (lru 4).reset 3 5 0x1320 ∷ []; printed = 0x1230 ∷ [] }
    -- the orders 1, 0, 2, 3 and 0, 1, 2, 3 and maps 0 and 3: 2, 3, 1, 0 is left, whichever of ways 0 and 1 was the older
    ∷ record { given = (lru 4).reset 0 3 0x3201 ∷ (lru 4).reset 0 3 0x3210 ∷ []; printed = 0x0132 ∷ 0x0132 ∷ [] }
    -- it does not matter which of the maps is the old one
    ∷ record { given = (lru 4).reset 5 3 0x1320 ∷ (lru 4).reset 3 0 0x3210 ∷ []; printed = 0x1230 ∷ 0x0132 ∷ [] }
    -- all ways move
    ∷ record { given = (lru 4).reset 3 12 0x2301 ∷ []; printed = 0x0123 ∷ [] }
    -- maps that are equal move nothing: a word that is read as fresh stays, as any other does
    ∷ record { given = (lru 4).reset 5 5 0x2210 ∷ (lru 4).reset 5 5 0x10123 ∷ (lru 4).reset 5 5 0x1320 ∷ []; printed = 0x2210 ∷ 0x10123 ∷ 0x1320 ∷ [] }
    -- the order is as read: ways 2 and 3 stand at the old end as they are to
    ∷ record { given = (lru 4).reset 0 12 0x2301 ∷ []; printed = 0x2301 ∷ [] }
    -- the same of words that are read as fresh: ways 0 and 1 stand at its old end, and all ways stand as they are to
    ∷ record { given = (lru 4).reset 0 3 0x2210 ∷ (lru 4).reset 3 12 0x2210 ∷ (lru 4).reset 1 0 0 ∷ []; printed = 0x2210 ∷ 0x2210 ∷ 0 ∷ [] }
    -- and where it is not as read: way 3 moves
    ∷ record { given = (lru 4).reset 0 8 0x2210 ∷ (lru 4).reset 0 8 0x13012 ∷ (lru 4).reset 8 0 0 ∷ []; printed = 0x3012 ∷ 0x3012 ∷ 0x3012 ∷ [] }
    -- sixteen ways, from way 0 to way 15: ways 0 and 15 move
    ∷ record { given = (lru 16).reset 1 0x8000 0xfedcba9876543210 ∷ []; printed = 0x0fedcba987654321 ∷ [] }
    ∷ []

-- "Here a domain's own replacement data is the relative order of its fill ways": the fill ways alone, as a word.
abbrev parts : List Case
parts =
    -- the order 2, 1, 0, 3: of ways 0 and 3, of ways 1 and 2, of way 3, of all and of none
    record {
      given = (lru 4).part 9 0x3012 ∷ (lru 4).part 6 0x3012 ∷ (lru 4).part 8 0x3012 ∷ (lru 4).part 15 0x3012 ∷ (lru 4).part 0 0x3012 ∷ [];
      printed = 0x30 ∷ 0x12 ∷ 0x3 ∷ 0x3012 ∷ 0 ∷ [];
    }
    -- where a neighbour has ways 1 and 2 and touches way 1, the word moves, and the part of ways 0 and 3 does not
    ∷ record { given = (lru 4).touch 6 1 0x3012 ∷ (lru 4).part 9 ((lru 4).touch 6 1 0x3012) ∷ []; printed = 0x3021 ∷ 0x30 ∷ [] }
    -- where it gives up its ways they move past the ways 0 and 3, and the part of these does not
    ∷ record { given = (lru 4).reset 6 0 0x3012 ∷ (lru 4).part 9 ((lru 4).reset 6 0 0x3012) ∷ []; printed = 0x1230 ∷ 0x30 ∷ [] }
    -- words that are read as fresh
    ∷ record { given = (lru 4).part 9 0 ∷ (lru 4).part 12 0x2210 ∷ (lru 4).part 9 0x13012 ∷ []; printed = 0x03 ∷ 0x23 ∷ 0x03 ∷ [] }
    ∷ []

unfoldable pub orders : List Case
orders = begun ++ (misread ++ (touches ++ (victims ++ (changes ++ parts))))
