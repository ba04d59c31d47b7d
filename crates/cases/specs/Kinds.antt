-- Kinds by their numbers: "Kinds 4 to 15 and 17 to 255 are unknown" (document 01), and where a list of core records is lent, "Kinds 32 to 35 are kinds 0 to
-- 3 with a core in place of the domain" and "Kind 40 writes a core's selectors"; "where no list is lent these kinds stay unknown" (document 02, job 5). All
-- on lent states, worked out by hand.
use Rattle.std.specs.Prelude.{Bool, cond, List, [], ◌∷◌, ◌++◌, map, ℕ, ◌+◌, ◌^◌}
use Rattle.command.specs.Command.{Command}
use Rattle.selectors.specs.Selectors.{fresh_cores, names_core, coreless}
use Rattle.selectors.specs.declared.Core.{Core}
use Rattle.steps.specs.Step.{State}
use Rattle.cores.specs.Step.{Result, core_step}
use Rattle.cases.specs.Case.{Case, hit, flush, absent, policy, refused}
use Rattle.cases.specs.States.{plru, domain, row, state_numbers, after, still}

-- A step: its domain or core, kind and argument.
abbrev does : ℕ → ℕ → ℕ → Command
does d kind argument = record { domain = d; kind = kind; argument = argument }

-- One set of two ways: domain 0 has way 0, and domain 1 way 1. Line 5 is in way 0 and line 6 in way 1.
abbrev lent : State
lent = row (5 ∷ 6 ∷ []) 3 1 0 (domain 1 1 1 2 3 4 5 6 7 ∷ domain 2 2 1 2 3 4 5 6 7 ∷ [])

-- ---- Where records are lent

-- The numbers of records, and of a step's answer with the state and the records that it leaves.
abbrev core_numbers : List Core → List ℕ
core_numbers [] = []
core_numbers (x ∷ xs) = x.cs ∷ x.ds ∷ x.es ∷ core_numbers xs

abbrev told : Result → List ℕ
told r = r.answer ++ (state_numbers r.lent.cache ++ core_numbers r.lent.cores)

-- A step, the records before it, its answer, and the state and the records after it.
abbrev core_after : Command → List Core → List ℕ → State → List Core → Case
core_after c cores answer next next_cores = record {
  given = told (core_step (plru 1 2) c (record { cache = lent; cores = cores }));
  printed = told (record { answer = answer; lent = record { cache = next; cores = next_cores } });
}

-- A step that moves nothing, the records before and after it, and its answer.
abbrev core_still : Command → List Core → List ℕ → Case
core_still c cores answer = core_after c cores answer lent cores

-- Core 0 selects domains 1, 0 and 1, and core 1 domains 0, 1 and 0.
abbrev pair : List Core
pair = record { cs = 1; ds = 0; es = 1 } ∷ record { cs = 0; ds = 1; es = 0 } ∷ []

-- ---- Unknown kinds

-- An unknown kind, whose argument is line 5's address, by domains 0, 16 and 32: "3: domain 16 or more", else 4. Without a list; with 32 records, of which
-- core 16 is one; with two; and with none. No other refusal of the list's has a say.
abbrev unknown : ℕ → List Case
unknown kind =
    still (plru 1 2) (does 0 kind 320) lent (refused 4)
    ∷ still (plru 1 2) (does 16 kind 320) lent (refused 3)
    ∷ still (plru 1 2) (does 32 kind 320) lent (refused 3)
    ∷ core_still (does 0 kind 320) (fresh_cores 32) (refused 4)
    ∷ core_still (does 16 kind 320) (fresh_cores 32) (refused 3)
    ∷ core_still (does 32 kind 320) (fresh_cores 32) (refused 3)
    ∷ core_still (does 0 kind 320) pair (refused 4)
    ∷ core_still (does 16 kind 320) pair (refused 3)
    ∷ core_still (does 0 kind 320) [] (refused 4)
    ∷ core_still (does 32 kind 320) [] (refused 3)
    ∷ []

-- The first and the last of each row of unknown kinds, and those beside a core's.
abbrev unknowns : List Case
unknowns = unknown 4 ++ (unknown 15 ++ (unknown 17 ++ (unknown 31 ++ (unknown 36 ++ (unknown 39 ++ (unknown 41 ++ unknown 255))))))

-- Other unknown kinds, each by domain 0 and by domain 16, with 32 records: the answers alone, 4 and 3.
abbrev answers : List ℕ → List ℕ
answers [] = []
answers (k ∷ ks) =
    (core_step (plru 1 2) (does 0 k 320) (record { cache = lent; cores = fresh_cores 32 })).answer
    ++ ((core_step (plru 1 2) (does 16 k 320) (record { cache = lent; cores = fresh_cores 32 })).answer ++ answers ks)

abbrev turned_down : List ℕ → List ℕ
turned_down [] = []
turned_down (k ∷ ks) = refused 4 ++ (refused 3 ++ turned_down ks)

abbrev between : List ℕ
between = 5 ∷ 6 ∷ 7 ∷ 8 ∷ 9 ∷ 10 ∷ 11 ∷ 12 ∷ 13 ∷ 14 ∷ 18 ∷ 19 ∷ 24 ∷ 30 ∷ 37 ∷ 38 ∷ 42 ∷ 48 ∷ 64 ∷ 72 ∷ 128 ∷ 144 ∷ 160 ∷ 254 ∷ []

abbrev others : List Case
others = record { given = answers between; printed = turned_down between } ∷ []

-- ---- The kinds that are known

-- "Kinds: 0 instruction fetch, 1 load, 2 store, 3 flush, 16 policy"
abbrev known : List Case
known =
    -- domain 0 fetches line 5, and loads it: a hit in way 0
    after (plru 1 2) (does 0 0 320) lent (hit 0) (row (5 ∷ 6 ∷ []) 3 1 0 (domain 1 1 2 2 3 4 5 6 7 ∷ domain 2 2 1 2 3 4 5 6 7 ∷ []))
    ∷ after (plru 1 2) (does 0 1 320) lent (hit 0) (row (5 ∷ 6 ∷ []) 3 1 0 (domain 1 1 2 2 3 4 5 6 7 ∷ domain 2 2 1 2 3 4 5 6 7 ∷ []))
    -- domain 1 stores to line 6: a hit in way 1, which becomes dirty
    ∷ after (plru 1 2) (does 1 2 384) lent (hit 1) (row (5 ∷ 6 ∷ []) 3 3 0 (domain 1 1 1 2 3 4 5 6 7 ∷ domain 2 2 2 2 3 4 5 6 7 ∷ []))
    -- domain 0 flushes line 5, which is dirty
    ∷ after (plru 1 2) (does 0 3 320) lent (flush 0 1) (row (5 ∷ 6 ∷ []) 2 0 0 (domain 1 1 1 2 3 5 6 6 7 ∷ domain 2 2 1 2 3 4 5 6 7 ∷ []))
    -- domain 0 is removed
    ∷ after (plru 1 2) (does 0 16 0) lent (policy 1 1) (row (0 ∷ 6 ∷ []) 2 0 0 (domain 0 0 0 0 0 0 0 0 0 ∷ domain 2 2 1 2 3 4 5 6 7 ∷ []))
    ∷ []

-- "a fetch uses CS, a load or flush DS, a store ES": by core 0, whose selectors are 1, 0 and 1.
abbrev of_cores : List Case
of_cores =
    -- kind 32, a fetch by domain 1: line 6 hits way 1
    core_after (does 0 32 384) pair (hit 1) (row (5 ∷ 6 ∷ []) 3 1 0 (domain 1 1 1 2 3 4 5 6 7 ∷ domain 2 2 2 2 3 4 5 6 7 ∷ [])) pair
    -- kind 33, a load by domain 0: line 5 hits way 0
    ∷ core_after (does 0 33 320) pair (hit 0) (row (5 ∷ 6 ∷ []) 3 1 0 (domain 1 1 2 2 3 4 5 6 7 ∷ domain 2 2 1 2 3 4 5 6 7 ∷ [])) pair
    -- kind 34, a store by domain 1: line 6 hits way 1, which becomes dirty
    ∷ core_after (does 0 34 384) pair (hit 1) (row (5 ∷ 6 ∷ []) 3 3 0 (domain 1 1 1 2 3 4 5 6 7 ∷ domain 2 2 2 2 3 4 5 6 7 ∷ [])) pair
    -- kind 35, a flush by domain 0: line 5 is flushed from way 0, and line 6 is absent
    ∷ core_after (does 0 35 320) pair (flush 0 1) (row (5 ∷ 6 ∷ []) 2 0 0 (domain 1 1 1 2 3 5 6 6 7 ∷ domain 2 2 1 2 3 4 5 6 7 ∷ [])) pair
    ∷ core_still (does 0 35 384) pair absent
    -- kind 40 writes core 1's selectors and no other's: 15, 14 and 13
    ∷ core_after (does 1 40 0x0d0e0f) pair (8 ∷ 15 ∷ 14 ∷ 13 ∷ []) lent (record { cs = 1; ds = 0; es = 1 } ∷ record { cs = 15; ds = 14; es = 13 } ∷ [])
    -- "a selector of 16 or more is 3", "Its other bytes must be zero, else 5": refused, the records stay
    ∷ core_still (does 1 40 0x100000) pair (refused 3)
    ∷ core_still (does 1 40 0x01000000) pair (refused 5)
    ∷ core_still (does 1 40 (2 ^ 63 + 0x0d0e0f)) pair (refused 5)
    -- "for these kinds, a core not in it": 11, by core 2 of two
    ∷ core_still (does 2 32 320) pair (refused 11)
    ∷ core_still (does 2 33 320) pair (refused 11)
    ∷ core_still (does 2 34 320) pair (refused 11)
    ∷ core_still (does 2 35 320) pair (refused 11)
    ∷ core_still (does 2 40 0) pair (refused 11)
    ∷ []

-- "where no list is lent these kinds stay unknown": 4 by domain 0, and 3 by domain 16
abbrev without_a_list : ℕ → List Case
without_a_list kind = still (plru 1 2) (does 0 kind 320) lent (refused 4) ∷ still (plru 1 2) (does 16 kind 320) lent (refused 3) ∷ []

abbrev no_list : List Case
no_list = without_a_list 32 ++ (without_a_list 33 ++ (without_a_list 34 ++ (without_a_list 35 ++ without_a_list 40)))

-- "these kinds" are 32 to 35 and 40, and no other: of each kind from 31 to 41; and lists of steps without them.
abbrev flag : Bool → ℕ
flag b = cond b 1 0

abbrev named : List Case
named =
    record {
      given = map (λ (k : ℕ). flag (names_core k)) (31 ∷ 32 ∷ 33 ∷ 34 ∷ 35 ∷ 36 ∷ 37 ∷ 38 ∷ 39 ∷ 40 ∷ 41 ∷ []);
      printed = 0 ∷ 1 ∷ 1 ∷ 1 ∷ 1 ∷ 0 ∷ 0 ∷ 0 ∷ 0 ∷ 1 ∷ 0 ∷ [];
    }
    ∷ record {
      given = flag (coreless []) ∷ flag (coreless (does 0 36 0 ∷ does 0 16 0 ∷ [])) ∷ flag (coreless (does 0 1 0 ∷ does 0 40 0 ∷ [])) ∷ [];
      printed = 1 ∷ 1 ∷ 0 ∷ [];
    }
    ∷ []

unfoldable pub kinds : List Case
kinds = unknowns ++ (others ++ (known ++ (of_cores ++ (no_list ++ named))))
