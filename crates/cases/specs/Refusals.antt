-- Which number a step is turned down by, where several hold, and number 5 at its edges; of 8 and 9 see Sharing.antt. All on lent states, each worked out by
-- hand from document 01's "When a step is turned down": "The answer is the number alone and nothing else moves. If several hold, the lowest number is given."
use Rattle.std.specs.Prelude.{List, [], ◌∷◌, ◌++◌, ℕ, ◌+◌, ◌*◌, ◌^◌, replicate}
use Rattle.command.specs.Command.{Command}
use Rattle.geometry.specs.declared.Geometry.{Geometry}
use Rattle.steps.specs.Step.{State}
use Rattle.cases.specs.Case.{Case, policy, refused}
use Rattle.cases.specs.States.{plru, nru, lru, loads, flushes, takes, line, domain, state, row, after, still}

-- A step of any kind and argument; and a policy change by its whole argument.
abbrev does : ℕ → ℕ → ℕ → Command
does d kind argument = record { domain = d; kind = kind; argument = argument }

abbrev asks : ℕ → ℕ → Command
asks d argument = does d 16 argument

abbrev largest : ℕ
largest = 4294967295

-- One set of two ways: domain 0 has both, and no other domain has a way.
abbrev two : State
two = row (5 ∷ 6 ∷ []) 3 1 0 (domain 3 3 1 2 3 4 5 6 7 ∷ [])

-- The same with a tag too many, and with a count that is full.
abbrev long : State
long = state (5 ∷ 6 ∷ 7 ∷ []) (3 ∷ []) (1 ∷ []) (0 ∷ []) (domain 3 3 1 2 3 4 5 6 7 ∷ [])

abbrev spent : State
spent = row (5 ∷ 6 ∷ []) 3 1 0 (domain 3 3 largest 2 3 4 5 6 largest ∷ [])

-- Two ways under a rule that there is not.
abbrev rule_three : Geometry
rule_three = record { sets = 1; ways = 2; rule = 3 }

-- "1: geometry outside the limits", before every other number.
abbrev ones : List Case
ones =
    -- 1 before 2: three sets, and tables of one; no sets, and tables of one; 8,192 sets, and tables of one
    still (plru 3 2) (loads 0 (line 5)) two (refused 1)
    ∷ still (plru 0 2) (loads 0 (line 5)) two (refused 1)
    ∷ still (plru 8192 2) (loads 0 (line 5)) two (refused 1)
    -- no ways, one way, three, 17 and 32, each with two tags
    ∷ still (plru 1 0) (loads 0 (line 5)) two (refused 1)
    ∷ still (plru 1 1) (loads 0 (line 5)) two (refused 1)
    ∷ still (plru 1 3) (loads 0 (line 5)) two (refused 1)
    ∷ still (nru 1 17) (loads 0 (line 5)) two (refused 1)
    ∷ still (lru 1 32) (loads 0 (line 5)) two (refused 1)
    -- rule 3, and a tag too many
    ∷ still rule_three (loads 0 (line 5)) long (refused 1)
    -- 1 before 3: domain 16
    ∷ still rule_three (loads 16 (line 5)) two (refused 1)
    -- 1 before 4: kind 17
    ∷ still rule_three (does 0 17 0) two (refused 1)
    -- 1 before 5: way 2 of two
    ∷ still rule_three (takes 0 4 4) two (refused 1)
    -- 1 before 6: domain 1 has no way
    ∷ still rule_three (flushes 1 (line 5)) two (refused 1)
    -- 1 before 7
    ∷ still rule_three (loads 0 (line 5)) spent (refused 1)
    -- 1 before 8
    ∷ still rule_three (takes 1 3 3) two (refused 1)
    -- 1 before 2, 3 and 4 at once
    ∷ still rule_three (does 16 17 0) long (refused 1)
    ∷ []

-- "2: a table whose length is not exactly the one above", before all but 1.
abbrev twos : List Case
twos =
    -- 2 before 3: domain 16, with a tag too many; with a dirty map too few; domain 255, with the tables of another S
    still (plru 1 2) (loads 16 (line 5)) long (refused 2)
    ∷ still (plru 1 2) (loads 16 (line 5)) (state (5 ∷ 6 ∷ []) (3 ∷ []) [] (0 ∷ []) (domain 3 3 1 2 3 4 5 6 7 ∷ [])) (refused 2)
    ∷ still (plru 2 2) (loads 255 (line 5)) two (refused 2)
    -- 2 before 4: kind 17
    ∷ still (plru 1 2) (does 0 17 0) long (refused 2)
    -- 2 before 3 and 4 at once
    ∷ still (plru 1 2) (does 16 17 0) long (refused 2)
    -- 2 before 5: way 2 of two, by domain 0 and by domain 16
    ∷ still (plru 1 2) (takes 0 4 4) long (refused 2)
    ∷ still (plru 1 2) (takes 16 4 4) long (refused 2)
    -- 2 before 6: domain 1 has no way
    ∷ still (plru 1 2) (loads 1 (line 5)) long (refused 2)
    -- 2 before 7
    ∷ still (plru 1 4) (loads 0 (line 5)) spent (refused 2)
    -- 2 before 8: way 0 is domain 0's
    ∷ still (plru 1 2) (takes 1 1 1) long (refused 2)
    -- 2 before 9: of four ways maps 5 and 10, with two replacement words for one set
    ∷ still (plru 1 4) (takes 1 10 10)
    (state (5 ∷ 6 ∷ 7 ∷ 8 ∷ []) (15 ∷ []) (0 ∷ []) (0 ∷ 0 ∷ []) (domain 5 5 1 2 3 4 5 6 7 ∷ []))
    (refused 2)
    ∷ []

-- "3: domain 16 or more."
abbrev threes : List Case
threes =
    -- 3 before 4: an unknown kind, by domains 16, 17 and 255
    still (plru 1 2) (does 16 17 0) two (refused 3)
    ∷ still (plru 1 2) (does 17 4 0) two (refused 3)
    ∷ still (plru 1 2) (does 255 255 0) two (refused 3)
    -- 3 before 5: way 2 of two, and a high bit
    ∷ still (plru 1 2) (takes 16 4 4) two (refused 3)
    ∷ still (plru 1 2) (asks 16 (2 ^ 32)) two (refused 3)
    -- 3 before 6: no domain from 16 on has a way
    ∷ still (plru 1 2) (flushes 16 (line 5)) two (refused 3)
    -- 3 before 8: way 0 is domain 0's
    ∷ still (plru 1 2) (takes 16 1 1) two (refused 3)
    -- domain 15 is none of these: a load is 6, and an unknown kind 4
    ∷ still (plru 1 2) (loads 15 (line 5)) two (refused 6)
    ∷ still (plru 1 2) (does 15 17 0) two (refused 4)
    ∷ []

-- "4: unknown kind." Numbers 5 and up are said of accesses, flushes and policies; an unknown kind is 4 whatever it names.
abbrev fours : List Case
fours =
    -- 4 before 5: the arguments of kinds 15 and 17 would be no policy's, for way 2 of two and for a high bit
    still (plru 1 2) (does 0 17 (4 + 65536 * 4)) two (refused 4)
    ∷ still (plru 1 2) (does 0 15 (2 ^ 32)) two (refused 4)
    ∷ still (plru 1 2) (does 0 17 (2 ^ 63 + 0x30003)) two (refused 4)
    -- 4 before 6: domain 1 has no way
    ∷ still (plru 1 2) (does 1 4 (line 5)) two (refused 4)
    -- 4 before 7
    ∷ still (plru 1 2) (does 0 4 (line 5)) spent (refused 4)
    -- 4 before 8: kind 17 names way 0, which is domain 0's
    ∷ still (plru 1 2) (does 1 17 0x10001) two (refused 4)
    ∷ []

-- "5: policy argument with a way W or higher, a fill map that is not part of the hit map, or a high bit set."
abbrev fives : List Case
fives =
    -- "a high bit set": 2 ^ 32, whose two maps are zero, is no removal
    still (plru 1 2) (asks 0 (2 ^ 32)) two (refused 5)
    -- 2 ^ 63 beside maps 3 and 3
    ∷ still (plru 1 2) (asks 0 (2 ^ 63 + 0x30003)) two (refused 5)
    -- bits 32, 33, 47, 48 and 62 beside maps 3 and 3; and all 32 of them
    ∷ still (plru 1 2) (asks 0 (2 ^ 32 + 0x30003)) two (refused 5)
    ∷ still (nru 1 2) (asks 0 (2 ^ 33 + 0x30003)) two (refused 5)
    ∷ still (lru 1 2) (asks 0 (2 ^ 47 + 0x30003)) two (refused 5)
    ∷ still (plru 1 2) (asks 0 (2 ^ 48 + 0x30003)) two (refused 5)
    ∷ still (plru 1 2) (asks 0 (2 ^ 62 + 0x30003)) two (refused 5)
    ∷ still (plru 1 2) (asks 0 (0xffffffff00000000 + 0x30003)) two (refused 5)
    -- bit 31, the highest of the fill map, is none: of sixteen ways, way 15 stands in both maps, and fresh words stay
    ∷ after (plru 1 16) (asks 0 0x80008000)
    (row (replicate 16 5) 0 0 0 [])
    (policy 0 0)
    (row (replicate 15 5 ++ (0 ∷ [])) 0 0 0 (domain 0x8000 0x8000 0 0 0 0 0 0 0 ∷ []))
    -- "a way W or higher": in both maps, or in the hit map alone
    ∷ still (plru 1 2) (takes 0 4 4) two (refused 5)
    ∷ still (plru 1 2) (takes 0 7 3) two (refused 5)
    ∷ still (plru 1 2) (takes 0 0x8000 0) two (refused 5)
    ∷ still (nru 1 4) (takes 0 16 0) (row (5 ∷ 6 ∷ 7 ∷ 8 ∷ []) 15 0 0 []) (refused 5)
    ∷ still (lru 1 8) (takes 0 256 0) (row (replicate 8 5) 255 0 0 []) (refused 5)
    -- "a fill map that is not part of the hit map": another way, and one way more
    ∷ still (plru 1 2) (takes 0 1 2) two (refused 5)
    ∷ still (plru 1 2) (takes 0 1 3) two (refused 5)
    -- 5 before 7: the line in way 1 would be dropped, and its count is full
    ∷ still (plru 1 2) (asks 0 (2 ^ 32 + 0x10001)) spent (refused 5)
    -- 5 before 8: a fill map that is not part of the hit map, whose way 0 is domain 0's; way 2 of two; a high bit
    ∷ still (plru 1 2) (takes 1 1 3) two (refused 5)
    ∷ still (plru 1 2) (takes 1 7 3) two (refused 5)
    ∷ still (plru 1 2) (asks 1 (2 ^ 40 + 0x10001)) two (refused 5)
    -- 5 before 9: of four ways maps 5 and 10, with a high bit
    ∷ still (plru 1 4) (asks 1 (2 ^ 32 + 0xa000a)) (row (5 ∷ 6 ∷ 7 ∷ 8 ∷ []) 15 0 0 (domain 5 5 1 2 3 4 5 6 7 ∷ [])) (refused 5)
    ∷ []

unfoldable pub refusals : List Case
refusals = ones ++ (twos ++ (threes ++ (fours ++ fives)))
