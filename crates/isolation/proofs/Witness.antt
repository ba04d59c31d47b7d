-- The theorem is neither empty nor slack: lists of steps, computed in both runs.
use mathlib.Core.Path.{◌≡◌, refl}
use mathlib.Core.Bool.{true, false}
use mathlib.Core.List.{List, [], ◌∷◌}
use Prim.Native.Nat.{ℕ}
use lib.ListN.{length}
use Rattle.waymap.specs.Bits.{bit, word}
use Rattle.replacement.specs.Rule.{lru}
use Rattle.domains.specs.Domains.{no_counts, domain_of, policies}
use Rattle.geometry.specs.declared.Geometry.{Geometry}
use Rattle.steps.specs.Tables.{row_at}
use Rattle.steps.specs.Step.{State}
use Rattle.command.specs.Command.{Command}
use Rattle.steps.specs.Run.{answers_of, finally}
use Rattle.steps.specs.Fresh.{fresh}
use Rattle.purge.specs.Purge.{keeps, purge}
use Rattle.isolation.specs.Lookups.{visited_at, visits_of, along, own_visits}
use Rattle.isolation.specs.StruckOut.{answers_to, own_answers, number_of, verdicts}
use Rattle.steps.proofs.Computing.{computing, does, both}

-- one set of four ways under Tree-PLRU
abbrev small : Geometry
small = record { sets = 1; ways = 4; rule = 0 }

-- Domain 0 gets ways 0 and 1, and domain 1 ways 2 and 3; both work; domain 1 gives way 2 up and domain 0 takes it; both work on.
abbrev steps : List Command
steps =
    does 0 16 (both 3) ∷ does 1 16 (both 12) ∷ does 0 2 0 ∷ does 1 2 0 ∷ does 0 1 64 ∷ does 1 1 64 ∷ does 0 1 128 ∷ does 0 3 64 ∷ does 0 1 128
    ∷ does 1 16 (both 8) ∷ does 0 16 (both 7) ∷ does 1 1 192 ∷ does 0 1 192 ∷ []

-- the two runs' ends
abbrev whole : State
whole = finally small steps (fresh small)

abbrev struck : State
struck = finally small (purge 0 steps) (fresh small)

-- ---- not empty

-- the purge drops three steps; the domain fills, evicts, flushes and hits; and the neighbour's steps count for the neighbour
record NotEmpty : Type 0 where
  dropped : (length steps ≡ 13) × (length (purge 0 steps) ≡ 10)
  works : own_answers small 0 steps (fresh small)
      ≡ (6 ∷ 0 ∷ 0 ∷ []) ∷ (1 ∷ 1 ∷ []) ∷ (1 ∷ 0 ∷ []) ∷ (2 ∷ 1 ∷ 0 ∷ 1 ∷ []) ∷ (4 ∷ 0 ∷ 0 ∷ []) ∷ (0 ∷ 1 ∷ []) ∷ (6 ∷ 0 ∷ 0 ∷ []) ∷ (1 ∷ 2 ∷ []) ∷ []
  neighbour : (domain_of whole.domains 1).counts ≡ record { hits = 0; misses = 3; evicted = 1; written = 1; flushed = 0; fills = 3; dropped = 1 }
  neighbour_struck : (domain_of struck.domains 1).counts ≡ no_counts
  handed_over : (policies 4 whole.domains 0).hit ≡ 7

-- ---- not slack: what the theorem leaves out does differ

-- a way outside the domain's hit map: way 3 is valid in one run alone
record OtherWays : Type 0 where
  run : bit (row_at 4 0 whole.tables).valid 3 ≡ true
  purged : bit (row_at 4 0 struck.tables).valid 3 ≡ false

-- replacement bits that are not its own: node 2, free for domain 1 alone, differs
abbrev brief : List Command
brief = does 0 16 (both 3) ∷ does 1 16 (both 12) ∷ does 0 2 0 ∷ does 1 2 0 ∷ does 1 1 64 ∷ []

record OtherBits : Type 0 where
  run : bit (row_at 4 0 (finally small brief (fresh small)).tables).word 2 ≡ true
  purged : bit (row_at 4 0 (finally small (purge 0 brief) (fresh small)).tables).word 2 ≡ false

-- what a neighbour's change of policy reports as dropped: one line in one run, none in the other
abbrev shrink : List Command
shrink = does 1 16 (both 12) ∷ does 1 2 0 ∷ does 1 16 0 ∷ []

record OtherDrops : Type 0 where
  run : answers_of small shrink (fresh small) ≡ (6 ∷ 0 ∷ 0 ∷ []) ∷ (1 ∷ 3 ∷ []) ∷ (6 ∷ 1 ∷ 1 ∷ []) ∷ []
  purged : answers_of small (purge 0 shrink) (fresh small) ≡ (6 ∷ 0 ∷ 0 ∷ []) ∷ (6 ∷ 0 ∷ 0 ∷ []) ∷ []

-- ---- true LRU: a neighbour's touches change the whole order, and no pair of the domain's own ways

-- one set of four ways under true LRU
abbrev ordered : Geometry
ordered = record { sets = 1; ways = 4; rule = 2 }

-- Domain 0 gets ways 0 and 1, and domain 1 ways 2 and 3; each stores to line 0 and loads lines 1 and 2, in turn; then domain 1 loads line 1 again.
abbrev turns : List Command
turns =
    does 0 16 (both 3) ∷ does 1 16 (both 12) ∷ does 0 2 0 ∷ does 1 2 0 ∷ does 0 1 64 ∷ does 1 1 64 ∷ does 0 1 128 ∷ does 1 1 128 ∷ does 1 1 64 ∷ []

-- the two runs' ends, and the words there
abbrev turned : State
turned = finally ordered turns (fresh ordered)

abbrev turned_struck : State
turned_struck = finally ordered (purge 0 turns) (fresh ordered)

abbrev whole_word : ℕ
whole_word = (row_at 4 0 turned.tables).word

abbrev struck_word : ℕ
struck_word = (row_at 4 0 turned_struck.tables).word

-- The order is 2, 3, 1, 0 in one run and 1, 0, 3, 2 in the other: each place holds another way, and of way 0 and the neighbour's way 3 another is
-- the more recent. Of ways 0 and 1 it is way 1 in both, and the domain's own part is 1, 0. Its answers are the same: it has filled both its
-- ways and evicted way 1, the older then.
record OtherOrder : Type 0 where
  run : whole_word ≡ 0x0132
  purged : struck_word ≡ 0x2301
  pair : ((lru 4).view whole_word (0, 3) ≡ false) × ((lru 4).view struck_word (0, 3) ≡ true)
  own_pair : ((lru 4).view whole_word (1, 0) ≡ true) × ((lru 4).view struck_word (1, 0) ≡ true)
  own_part : ((lru 4).part 3 whole_word ≡ 0x01) × ((lru 4).part 3 struck_word ≡ 0x01)
  works : own_answers ordered 0 turns (fresh ordered) ≡ (6 ∷ 0 ∷ 0 ∷ []) ∷ (1 ∷ 1 ∷ []) ∷ (1 ∷ 0 ∷ []) ∷ (2 ∷ 1 ∷ 0 ∷ 1 ∷ []) ∷ []
  works_struck : own_answers ordered 0 (purge 0 turns) (fresh ordered) ≡ (6 ∷ 0 ∷ 0 ∷ []) ∷ (1 ∷ 1 ∷ []) ∷ (1 ∷ 0 ∷ []) ∷ (2 ∷ 1 ∷ 0 ∷ 1 ∷ []) ∷ []

-- ---- lookups: how many ways they visit depends on accesses, and the domain's not on its neighbour's

-- Of the first list, domain 0's steps visit no way (a policy), two each for two fills and an eviction, one for a flush of its first way, two for a hit in
-- its second, none, and three, its ways by then, for the last fill. After the list under true LRU it has line 2 in way 1 and line 1 in way 0 in both runs.
-- The neighbour's line 1 is in its way 2 in one run and nowhere in the other.
record OtherLookups : Type 0 where
  own : own_visits small 0 steps (fresh small) ≡ 0 ∷ 2 ∷ 2 ∷ 2 ∷ 1 ∷ 2 ∷ 0 ∷ 3 ∷ []
  own_struck : own_visits small 0 (purge 0 steps) (fresh small) ≡ 0 ∷ 2 ∷ 2 ∷ 2 ∷ 1 ∷ 2 ∷ 0 ∷ 3 ∷ []
  first : (visited_at ordered 0 64 turned ≡ 1) × (visited_at ordered 0 64 turned_struck ≡ 1)
  second : (visited_at ordered 0 128 turned ≡ 2) × (visited_at ordered 0 128 turned_struck ≡ 2)
  neighbour : (visited_at ordered 1 64 turned ≡ 1) × (visited_at ordered 1 64 turned_struck ≡ 2)

-- ---- the verdicts on a neighbour

-- Domain 0 has ways 0 and 2. Domain 1 asks for way 2, which is refused by 8; for ways 1 and 3, whose root is domain 0's too, refused by 9; and for
-- way 3, which is accepted.
abbrev asks : List Command
asks = does 0 16 (both 5) ∷ does 1 16 (both 4) ∷ does 1 16 (both 10) ∷ does 1 16 (both 8) ∷ []

record Verdicts : Type 0 where
  run : verdicts small 0 asks (fresh small) ≡ 8 ∷ 9 ∷ 0 ∷ []
  own : verdicts small 1 asks (fresh small) ≡ 0 ∷ []

-- ---- both runs, computed

-- each of these holds by the definitions alone
computed : NotEmpty × OtherWays × OtherBits × OtherDrops × Verdicts × OtherOrder × OtherLookups
unfolding visited_at visits_of along own_visits answers_to own_answers verdicts number_of purge keeps computing
computed = (
  record { dropped = (refl, refl); works = refl; neighbour = refl; neighbour_struck = refl; handed_over = refl },
  record { run = refl; purged = refl },
  record { run = refl; purged = refl },
  record { run = refl; purged = refl },
  record { run = refl; own = refl },
  record { run = refl; purged = refl; pair = (refl, refl); own_pair = (refl, refl); own_part = (refl, refl); works = refl; works_struck = refl },
  record { own = refl; own_struck = refl; first = (refl, refl); second = (refl, refl); neighbour = (refl, refl) },
)

not_empty : NotEmpty
not_empty = computed.0

other_ways : OtherWays
other_ways = computed.1

other_bits : OtherBits
other_bits = computed.2

other_drops : OtherDrops
other_drops = computed.3

verdicts_differ : Verdicts
verdicts_differ = computed.4

orders_differ : OtherOrder
orders_differ = computed.5

lookups_differ : OtherLookups
lookups_differ = computed.6
