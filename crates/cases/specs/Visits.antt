-- Job 2's cases, of the lookup alone on lent rows: what it gives, and what was worked out by hand from the text of document 02.
use Rattle.std.specs.Prelude.{List, [], ◌∷◌, ◌++◌, ℕ}
use Rattle.command.specs.Answer.{answer_of}
use Rattle.lookup.specs.Lookup as Lookup
use Rattle.row.specs.Row.{Row}
use Rattle.row.specs.Calls.{lookup_of, visited_of}
use Rattle.cases.specs.Case.{Case, hit, absent, refused}

-- A row with these tags and this valid map.
abbrev row : List ℕ → ℕ → Row
row tags valid = record { tags = tags; valid = valid; dirty = 0; word = 0 }

-- Tags, valid map, hit map, tag: the lookup's answer, and how many ways it visits.
abbrev told : List ℕ → ℕ → ℕ → ℕ → List ℕ
told tags valid map tag =
    answer_of (lookup_of (record { hit = map; fill = 0 }) tag (row tags valid))
    ++ (visited_of (record { hit = map; fill = 0 }) tag (row tags valid) ∷ [])

-- The same, and the ways visited.
abbrev looks : List ℕ → ℕ → ℕ → ℕ → List ℕ
looks tags valid map tag = told tags valid map tag ++ Lookup.visits tags valid map tag

-- Four ways with the tags 7, 9, 7 and 5.
abbrev four : List ℕ
four = 7 ∷ 9 ∷ 7 ∷ 5 ∷ []

-- Sixteen ways with the tags 0 to 15.
abbrev sixteen : List ℕ
sixteen = 0 ∷ 1 ∷ 2 ∷ 3 ∷ 4 ∷ 5 ∷ 6 ∷ 7 ∷ 8 ∷ 9 ∷ 10 ∷ 11 ∷ 12 ∷ 13 ∷ 14 ∷ 15 ∷ []

-- An answer, how many ways were visited, and which.
abbrev by : List ℕ → ℕ → List ℕ → List ℕ
by answer n ways = answer ++ (n ∷ ways)

-- What each lookup tells, and what it has to tell.
unfoldable pub lookups : List Case
lookups =
    -- "the hit map's ways up to and including the one hit": the first, the second, the last
    record { given = looks four 15 15 7; printed = by (hit 0) 1 (0 ∷ []) }
    ∷ record { given = looks four 15 15 9; printed = by (hit 1) 2 (0 ∷ 1 ∷ []) }
    ∷ record { given = looks four 15 15 5; printed = by (hit 3) 4 (0 ∷ 1 ∷ 2 ∷ 3 ∷ []) }
    -- "or all of them without a hit"
    ∷ record { given = looks four 15 15 8; printed = by absent 4 (0 ∷ 1 ∷ 2 ∷ 3 ∷ []) }
    -- "only the ways whose bit is set in the hitmap": way 0 has tag 7 too, and way 1 has tag 9
    ∷ record { given = looks four 15 12 7; printed = by (hit 2) 1 (2 ∷ []) }
    ∷ record { given = looks four 15 12 9; printed = by absent 2 (2 ∷ 3 ∷ []) }
    -- "lowest first", with ways left out between
    ∷ record { given = looks four 15 10 5; printed = by (hit 3) 2 (1 ∷ 3 ∷ []) }
    ∷ record { given = looks four 15 5 7; printed = by (hit 0) 1 (0 ∷ []) }
    ∷ record { given = looks four 15 8 5; printed = by (hit 3) 1 (3 ∷ []) }
    -- an invalid way is not hit though it has the tag, and is counted: way 0 alone is invalid; all are
    ∷ record { given = looks four 14 15 7; printed = by (hit 2) 3 (0 ∷ 1 ∷ 2 ∷ []) }
    ∷ record { given = looks four 0 15 7; printed = by absent 4 (0 ∷ 1 ∷ 2 ∷ 3 ∷ []) }
    -- an empty map
    ∷ record { given = looks four 15 0 7; printed = by absent 0 [] }
    -- a map is as read, without ways of W or more: 0xfff0 has none of four ways, 0xfff8 way 3
    ∷ record { given = looks four 65535 0xfff0 0; printed = by absent 0 [] }
    ∷ record { given = looks four 65535 0xfff8 5; printed = by (hit 3) 1 (3 ∷ []) }
    ∷ record { given = looks four 65535 0xfff8 0; printed = by absent 1 (3 ∷ []) }
    -- two ways with one tag
    ∷ record { given = looks (5 ∷ 5 ∷ []) 3 3 5; printed = by (hit 0) 1 (0 ∷ []) }
    ∷ record { given = looks (5 ∷ 5 ∷ []) 2 3 5; printed = by (hit 1) 2 (0 ∷ 1 ∷ []) }
    -- sixteen ways: all of them, and every other
    ∷ record { given = told sixteen 65535 65535 15; printed = by (hit 15) 16 [] }
    ∷ record { given = told sixteen 65535 65535 16; printed = by absent 16 [] }
    ∷ record { given = looks sixteen 65535 0xaaaa 5; printed = by (hit 5) 3 (1 ∷ 3 ∷ 5 ∷ []) }
    ∷ record { given = told sixteen 65535 0xaaaa 14; printed = by absent 8 [] }
    -- a row whose length is no W: none, one, three and seventeen
    ∷ record { given = told [] 65535 65535 0; printed = by (refused 1) 0 [] }
    ∷ record { given = told (7 ∷ []) 65535 65535 7; printed = by (refused 1) 0 [] }
    ∷ record { given = told (7 ∷ 9 ∷ 5 ∷ []) 65535 65535 7; printed = by (refused 1) 0 [] }
    ∷ record { given = told (16 ∷ sixteen) 65535 65535 16; printed = by (refused 1) 0 [] }
    ∷ []
