-- Steps, lists of steps and core records: what the definitions give, and what was worked out by hand from document 01, "Steps", "The struck-out run" and "Trace
-- file and listing", and from document 02's jobs 2, 4, 5 and 6. A test counts as 1 where it holds.
use Rattle.std.specs.Prelude.{Bool, true, false, cond, List, [], ◌∷◌, ◌++◌, map, ℕ, ◌+◌, replicate, Ok, Err}
use Rattle.command.specs.Command.{Command, code_of, argument_of, command_of, commands_of, command_is}
use Rattle.command.specs.Kind.{Kind, access, flush, policy, unknown, kind_of, kind_is}
use Rattle.command.specs.Answer.{answer_of}
use Rattle.command.specs.declared.Answer.{Answer}
use Rattle.command.specs.declared.Answer.TheVariants.{Hit, Refused}
use Rattle.command.specs.declared.Asked.TheVariants as Asked
use Rattle.command.specs.declared.LineUse.TheVariants as Uses
use Rattle.command.specs.declared.Refusal.TheVariants as Refusals
use Rattle.selectors.specs.Selectors.{
  Meant,
  plain,
  select,
  refused,
  fresh_cores,
  names_core,
  coreless,
  meant,
  means,
  records_after,
  records_finally,
  record_by,
  plain_steps,
}
use Rattle.selectors.specs.Calls.{meaning_is}
use Rattle.selectors.specs.declared.Core.{Core}
use Rattle.selectors.specs.declared.Meaning.TheVariants as Meanings
use Rattle.purge.specs.Calls.{Taken, taken_of, purge_of}
use Rattle.steps.specs.Tables.{Tables}
use Rattle.steps.specs.Step.{State, Outcome, tables_of}
use Rattle.domains.specs.declared.Counts.{Counts}
use Rattle.cache.specs.Calls.{outcome}
use Rattle.cores.specs.Step.{Lent, Result}
use Rattle.cores.specs.Calls.{Turn, reply_of, lent_of, result_of, turn_of, turn_is}
use Rattle.cores.specs.declared.Reply.TheVariants.{Cache, Select}
use Rattle.isolation.specs.StruckOut as StruckOut
use Rattle.isolation.specs.Lookups.{lookup_at, visited_at, visits_of}
use Rattle.switching.specs.StruckOut as Switching
use Rattle.switching.specs.Lookups.{own_core_visits}
use Rattle.balance.specs.Tally.{tally, core_tally}
use Rattle.locking.specs.Locked.{locked, same_line}
use Rattle.locking.specs.Locking.{changes, flushes, accesses, to_locked, otherwise, rest}
use Rattle.listing.specs.Listing as Listing
use Rattle.listing.specs.Listing.{decimal}
use Rattle.listing.specs.Before.{listing_before}
use Rattle.trace.specs.Calls.{Listed, listed_of, list_of}
use Rattle.cases.specs.Case as Case
use Rattle.cases.specs.Case.{Case}
use Rattle.cases.specs.States.{plru, nru, takes, loads, stores, domain, state, row, line}

-- ---- Numbers of things

abbrev flag : Bool → ℕ
flag b = cond b 1 0

abbrev does : ℕ → ℕ → ℕ → Command
does d kind argument = record { domain = d; kind = kind; argument = argument }

abbrev step : Command → List ℕ
step c = c.domain ∷ c.kind ∷ c.argument ∷ []

abbrev steps : List Command → List ℕ
steps [] = []
steps (c ∷ cs) = step c ++ steps cs

abbrev core : ℕ → ℕ → ℕ → Core
core cs ds es = record { cs = cs; ds = ds; es = es }

abbrev selectors : Core → List ℕ
selectors c = c.cs ∷ c.ds ∷ c.es ∷ []

abbrev all_selectors : List Core → List ℕ
all_selectors [] = []
all_selectors (c ∷ cs) = selectors c ++ all_selectors cs

abbrev meaning : Meant → List ℕ
meaning (plain c) = 0 ∷ step c
meaning (select c) = 1 ∷ selectors c
meaning (refused n) = 2 ∷ n ∷ []

-- An access that loads is 0, one that stores 1, a flush 2, a policy 3, an unknown kind 4.
abbrev kind_number : Kind → ℕ
kind_number (access false) = 0
kind_number (access true) = 1
kind_number flush = 2
kind_number policy = 3
kind_number unknown = 4

abbrev kinds : List ℕ → List ℕ
kinds ks = map (λ (k : ℕ). kind_number (kind_of k)) ks

-- ---- Steps and codes

abbrev codes : List Case
codes =
    -- "Kinds: 0 instruction fetch, 1 load, 2 store, 3 flush, 16 policy. Kinds 4 to 15 and 17 to 255 are unknown."
    record { given = kinds (0 ∷ 1 ∷ 2 ∷ 3 ∷ 4 ∷ 15 ∷ 16 ∷ 17 ∷ 32 ∷ 255 ∷ []); printed = 0 ∷ 0 ∷ 1 ∷ 2 ∷ 4 ∷ 4 ∷ 3 ∷ 4 ∷ 4 ∷ 4 ∷ [] }
    ∷ record {
      given =
          kind_number (kind_is (Asked.Line Uses.Load)) ∷ kind_number (kind_is (Asked.Line Uses.Store)) ∷ kind_number (kind_is (Asked.Line Uses.Flush))
          ∷ kind_number (kind_is Asked.Policy) ∷ kind_number (kind_is Asked.Unknown) ∷ [];
      printed = 0 ∷ 1 ∷ 2 ∷ 3 ∷ 4 ∷ [];
    }
    -- a code is the domain and 256 times the kind
    ∷ record { given = code_of (does 3 2 9) ∷ argument_of (does 3 2 9) ∷ step (command_of 515 9); printed = 515 ∷ 9 ∷ 3 ∷ 2 ∷ 9 ∷ [] }
    ∷ record {
      given = steps (commands_of (515 ∷ 4097 ∷ 7 ∷ []) (9 ∷ 8 ∷ [])) ++ steps (commands_of (7 ∷ []) (9 ∷ 8 ∷ []));
      printed = 3 ∷ 2 ∷ 9 ∷ 1 ∷ 16 ∷ 8 ∷ 7 ∷ 0 ∷ 9 ∷ [];
    }
    ∷ record { given = step (command_is (record { domain = 1; kind = 2; argument = 3 })); printed = 1 ∷ 2 ∷ 3 ∷ [] }
    ∷ []

-- ---- Core records

abbrev cores : List Case
cores =
    -- "Kinds 32 to 35", "Kind 40"
    record {
      given =
          flag (names_core 31) ∷ flag (names_core 32) ∷ flag (names_core 35) ∷ flag (names_core 36) ∷ flag (names_core 39) ∷ flag (names_core 40)
          ∷ flag (names_core 41) ∷ [];
      printed = 0 ∷ 1 ∷ 1 ∷ 0 ∷ 0 ∷ 1 ∷ 0 ∷ [];
    }
    ∷ record {
      given =
          flag (coreless []) ∷ flag (coreless (does 0 1 0 ∷ does 0 16 0 ∷ [])) ∷ flag (coreless (does 0 1 0 ∷ does 0 33 0 ∷ []))
          ∷ flag (coreless (does 0 40 0 ∷ does 0 1 0 ∷ [])) ∷ [];
      printed = 1 ∷ 1 ∷ 0 ∷ 0 ∷ [];
    }
    -- "a fetch uses CS, a load or flush DS, a store ES": core 1 selects 4, 5 and 6
    ∷ record {
      given = meaning (meant (fresh_cores 1 ++ (core 4 5 6 ∷ [])) (does 1 32 9)) ++ meaning (meant (fresh_cores 1 ++ (core 4 5 6 ∷ [])) (does 1 33 9));
      printed = 0 ∷ 4 ∷ 0 ∷ 9 ∷ 0 ∷ 5 ∷ 1 ∷ 9 ∷ [];
    }
    ∷ record {
      given = meaning (meant (fresh_cores 1 ++ (core 4 5 6 ∷ [])) (does 1 34 9)) ++ meaning (meant (fresh_cores 1 ++ (core 4 5 6 ∷ [])) (does 1 35 9));
      printed = 0 ∷ 6 ∷ 2 ∷ 9 ∷ 0 ∷ 5 ∷ 3 ∷ 9 ∷ [];
    }
    -- every other kind is the cache's; "a core not in it" is 11; a write of selectors, "lowest first"
    ∷ record {
      given =
          meaning (meant (fresh_cores 1) (does 7 31 9)) ++ meaning (meant (fresh_cores 1) (does 7 36 9)) ++ meaning (meant (fresh_cores 1) (does 1 33 9))
          ++ meaning (meant (fresh_cores 1) (does 0 40 0x030201));
      printed = 0 ∷ 7 ∷ 31 ∷ 9 ∷ 0 ∷ 7 ∷ 36 ∷ 9 ∷ 2 ∷ 11 ∷ 1 ∷ 1 ∷ 2 ∷ 3 ∷ [];
    }
    -- whether it means a step of the cache that passes a test
    ∷ record {
      given =
          flag (means (λ c. true) (plain (does 0 1 0))) ∷ flag (means (λ c. false) (plain (does 0 1 0))) ∷ flag (means (λ c. true) (select (core 1 2 3)))
          ∷ flag (means (λ c. true) (refused 3)) ∷ [];
      printed = 1 ∷ 0 ∷ 0 ∷ 0 ∷ [];
    }
    -- "selector writes change one record"
    ∷ record {
      given = all_selectors (records_after (fresh_cores 2) (does 1 40 0x030201)) ++ all_selectors (records_after (fresh_cores 2) (does 1 33 0x030201));
      printed = 0 ∷ 0 ∷ 0 ∷ 1 ∷ 2 ∷ 3 ∷ 0 ∷ 0 ∷ 0 ∷ 0 ∷ 0 ∷ 0 ∷ [];
    }
    ∷ record {
      given = all_selectors (records_finally (fresh_cores 2) (does 1 40 0x030201 ∷ does 0 40 0x060504 ∷ does 2 40 7 ∷ []));
      printed = 4 ∷ 5 ∷ 6 ∷ 1 ∷ 2 ∷ 3 ∷ [];
    }
    ∷ record {
      given =
          selectors (record_by (plain (does 0 1 0)) (core 4 5 6)) ++ (selectors (record_by (select (core 1 2 3)) (core 4 5 6))
          ++ selectors (record_by (refused 3) (core 4 5 6)));
      printed = 4 ∷ 5 ∷ 6 ∷ 1 ∷ 2 ∷ 3 ∷ 4 ∷ 5 ∷ 6 ∷ [];
    }
    -- a list as steps of the cache: core 0's loads go to domain 0 before it selects domain 2, and to domain 2 after; what is refused means none
    ∷ record {
      given = steps (plain_steps (fresh_cores 1) (does 0 33 8 ∷ does 0 40 0x0200 ∷ does 0 33 9 ∷ does 1 33 9 ∷ does 5 16 7 ∷ []));
      printed = 0 ∷ 1 ∷ 8 ∷ 2 ∷ 1 ∷ 9 ∷ 5 ∷ 16 ∷ 7 ∷ [];
    }
    ∷ record {
      given =
          meaning (meaning_is (Ok (Meanings.Plain 1 2 3))) ++ (meaning (meaning_is (Ok (Meanings.Select (core 1 2 3))))
          ++ meaning (meaning_is (Err Refusals.Domain)));
      printed = 0 ∷ 1 ∷ 2 ∷ 3 ∷ 1 ∷ 1 ∷ 2 ∷ 3 ∷ 2 ∷ 3 ∷ [];
    }
    ∷ []

-- ---- The call that strikes steps out

abbrev taken : Taken → List ℕ
taken t = t.number ∷ t.count ∷ (t.codes ++ t.arguments)

-- Domain 0 loads, domain 1 loads, domain 1 has a policy change.
abbrev three_codes : List ℕ
three_codes = 256 ∷ 257 ∷ 4097 ∷ []

abbrev sevens : ℕ → List ℕ
sevens n = replicate n 7

abbrev eights : ℕ → List ℕ
eights n = replicate n 8

abbrev struck : List Case
struck =
    record { given = taken (purge_of 0 three_codes (1 ∷ 2 ∷ 3 ∷ []) (sevens 3) (8 ∷ 8 ∷ 8 ∷ [])); printed = 0 ∷ 2 ∷ 256 ∷ 4097 ∷ 7 ∷ 1 ∷ 3 ∷ 8 ∷ [] }
    -- core 31 of the 32 is in the list and goes to domain 0; core 32 is not, and its step is kept
    ∷ record { given = taken (purge_of 1 (8479 ∷ 8480 ∷ []) (1 ∷ 2 ∷ []) (sevens 2) (sevens 2)); printed = 0 ∷ 1 ∷ 8480 ∷ 7 ∷ 2 ∷ 7 ∷ [] }
    -- "Unequal array lengths are refused by 2": each of the other three too short, and too long
    ∷ record { given = taken (purge_of 0 three_codes (1 ∷ 2 ∷ []) (sevens 3) (eights 3)); printed = 2 ∷ 0 ∷ (sevens 3 ++ eights 3) }
    ∷ record { given = taken (purge_of 0 three_codes (1 ∷ 2 ∷ 3 ∷ 4 ∷ []) (sevens 3) (eights 3)); printed = 2 ∷ 0 ∷ (sevens 3 ++ eights 3) }
    ∷ record { given = taken (purge_of 0 three_codes (1 ∷ 2 ∷ 3 ∷ []) (sevens 2) (eights 3)); printed = 2 ∷ 0 ∷ (sevens 2 ++ eights 3) }
    ∷ record { given = taken (purge_of 0 three_codes (1 ∷ 2 ∷ 3 ∷ []) (sevens 4) (eights 3)); printed = 2 ∷ 0 ∷ (sevens 4 ++ eights 3) }
    ∷ record { given = taken (purge_of 0 three_codes (1 ∷ 2 ∷ 3 ∷ []) (sevens 3) (eights 2)); printed = 2 ∷ 0 ∷ (sevens 3 ++ eights 2) }
    ∷ record { given = taken (purge_of 0 three_codes (1 ∷ 2 ∷ 3 ∷ []) (sevens 3) (eights 4)); printed = 2 ∷ 0 ∷ (sevens 3 ++ eights 4) }
    ∷ record { given = taken (taken_of (Ok 2) (3 ∷ []) (4 ∷ [])); printed = 0 ∷ 2 ∷ 3 ∷ 4 ∷ [] }
    ∷ record { given = taken (taken_of (Err Refusals.Limits) (3 ∷ []) (4 ∷ [])); printed = 1 ∷ 0 ∷ 3 ∷ 4 ∷ [] }
    ∷ []

-- ---- A step of a core

-- One set of two ways under NRU: domain 0 has way 0 with line 5, domain 1 has way 1 with line 6.
abbrev cache : State
cache = row (5 ∷ 6 ∷ []) 3 0 3 (domain 1 1 1 2 3 4 5 6 7 ∷ domain 2 2 1 2 3 4 5 6 7 ∷ [])

abbrev table_numbers : Tables → List ℕ
table_numbers t = t.tags ++ (t.valid ++ (t.dirty ++ t.words))

abbrev turned : Turn → List ℕ
turned t = t.answer ++ (table_numbers t.cache.tables ++ selectors t.core)

abbrev lent_numbers : Lent → List ℕ
lent_numbers x = table_numbers x.cache.tables ++ all_selectors x.cores

abbrev tables : Tables
tables = tables_of (5 ∷ []) (6 ∷ []) (7 ∷ []) (8 ∷ [])

abbrev turns : List Case
turns =
    -- a load through DS, which names domain 1, hits way 1 and clears its bit
    record { given = turned (turn_of (nru 1 2) (does 0 33 (line 6)) 1 (core 0 1 0) cache); printed = 0 ∷ 1 ∷ 5 ∷ 6 ∷ 3 ∷ 0 ∷ 1 ∷ 0 ∷ 1 ∷ 0 ∷ [] }
    -- a write of selectors; a core that is not in the list; a list too long
    ∷ record { given = turned (turn_of (nru 1 2) (does 0 40 0x030201) 1 (core 0 1 0) cache); printed = 8 ∷ 1 ∷ 2 ∷ 3 ∷ 5 ∷ 6 ∷ 3 ∷ 0 ∷ 3 ∷ 1 ∷ 2 ∷ 3 ∷ [] }
    ∷ record { given = turned (turn_of (nru 1 2) (does 1 33 (line 6)) 1 (core 0 1 0) cache); printed = 7 ∷ 11 ∷ 5 ∷ 6 ∷ 3 ∷ 0 ∷ 3 ∷ 0 ∷ 1 ∷ 0 ∷ [] }
    ∷ record { given = turned (turn_of (nru 1 2) (does 0 40 0x030201) 33 (core 0 1 0) cache); printed = 7 ∷ 11 ∷ 5 ∷ 6 ∷ 3 ∷ 0 ∷ 3 ∷ 0 ∷ 1 ∷ 0 ∷ [] }
    -- answers, and what is lent and given back
    ∷ record { given = reply_of (Cache (Hit 6)) ++ reply_of (Select (core 1 2 3)); printed = 0 ∷ 6 ∷ 8 ∷ 1 ∷ 2 ∷ 3 ∷ [] }
    ∷ record { given = lent_numbers (lent_of tables cache.domains (core 1 2 3 ∷ [])); printed = 5 ∷ 6 ∷ 7 ∷ 8 ∷ 1 ∷ 2 ∷ 3 ∷ [] }
    ∷ record {
      given = let r = result_of (record { reply = Cache (Hit 6); domains = cache.domains }) tables (core 1 2 3 ∷ []) in r.answer ++ lent_numbers r.lent;
      printed = 0 ∷ 6 ∷ 5 ∷ 6 ∷ 7 ∷ 8 ∷ 1 ∷ 2 ∷ 3 ∷ [];
    }
    ∷ record {
      given = turned (turn_is (record { stepped = record { reply = Cache (Hit 6); domains = cache.domains }; core = core 1 2 3 }) tables);
      printed = 0 ∷ 6 ∷ 5 ∷ 6 ∷ 7 ∷ 8 ∷ 1 ∷ 2 ∷ 3 ∷ [];
    }
    ∷ record {
      given = let o = outcome (record { answer = Hit 6; domains = cache.domains }) tables in o.answer ++ table_numbers o.state.tables;
      printed = 0 ∷ 6 ∷ 5 ∷ 6 ∷ 7 ∷ 8 ∷ [];
    }
    ∷ []

-- ---- Lookups, and whose they are

-- Two sets of four ways: domain 1 has ways 1, 2 and 3, stored with way 4; set 1 has tag 3 in way 3 alone.
abbrev two_sets : State
two_sets =
    state (3 ∷ 3 ∷ 3 ∷ 3 ∷ 1 ∷ 1 ∷ 1 ∷ 3 ∷ []) (15 ∷ 15 ∷ []) (0 ∷ 0 ∷ []) (0 ∷ 0 ∷ [])
    (domain 1 1 0 0 0 0 0 0 0 ∷ domain 0x1e 0x1e 1 2 3 4 5 6 7 ∷ domain 0 0 1 2 3 4 5 6 7 ∷ [])

abbrev seen : List Case
seen =
    -- line 7 is in set 1 and has tag 3; the lookup visits ways 1, 2 and 3
    record {
      given = answer_of (lookup_at (plru 2 4) 1 448 two_sets) ++ (visited_at (plru 2 4) 1 448 two_sets ∷ answer_of (lookup_at (plru 2 4) 0 448 two_sets));
      printed = 0 ∷ 3 ∷ 3 ∷ 5 ∷ [];
    }
    -- none where the step is no access or flush, or is refused
    ∷ record {
      given =
          visits_of (plru 2 4) (does 1 0 448) two_sets ∷ visits_of (plru 2 4) (does 1 3 448) two_sets ∷ visits_of (plru 2 4) (does 1 4 448) two_sets
          ∷ visits_of (plru 2 4) (does 1 16 0) two_sets ∷ visits_of (plru 2 4) (does 2 1 448) two_sets ∷ [];
      printed = 3 ∷ 3 ∷ 0 ∷ 0 ∷ 0 ∷ [];
    }
    -- the visits of the steps that belong to domain 1 at their moment: core 0 selects domain 1, loads, selects domain 0 and loads
    ∷ record {
      given =
          own_core_visits (plru 2 4) 1 (does 1 1 448 ∷ does 0 40 0x0100 ∷ does 0 33 448 ∷ does 0 40 0 ∷ does 0 33 448 ∷ does 9 33 0 ∷ does 1 1 512 ∷ [])
          (lent_of two_sets.tables two_sets.domains (fresh_cores 1));
      printed = 3 ∷ 3 ∷ 3 ∷ [];
    }
    -- "for each policy change of another domain": domain 1 loads, asks for domain 0's way, has an unknown kind, and asks for its own way
    ∷ record {
      given =
          StruckOut.verdicts (nru 1 2) 0 (loads 1 (line 6) ∷ takes 1 3 3 ∷ takes 0 3 3 ∷ does 1 17 0 ∷ takes 1 2 2 ∷ []) cache
          ++ Switching.core_verdicts (nru 1 2) 0 (loads 1 (line 6) ∷ takes 1 3 3 ∷ takes 0 3 3 ∷ does 1 17 0 ∷ takes 1 2 2 ∷ [])
          (record { cache = cache; cores = [] });
      printed = 8 ∷ 0 ∷ 8 ∷ 0 ∷ [];
    }
    -- an answer's number, if it is a refusal
    ∷ record {
      given = StruckOut.number_of [] ∷ StruckOut.number_of (7 ∷ []) ∷ StruckOut.number_of (7 ∷ 9 ∷ []) ∷ StruckOut.number_of (6 ∷ 9 ∷ 1 ∷ []) ∷ [];
      printed = 0 ∷ 0 ∷ 9 ∷ 0 ∷ [];
    }
    ∷ []

-- ---- What the lines of a listing add to the counts

abbrev count_numbers : Counts → List ℕ
count_numbers c = c.hits ∷ c.misses ∷ c.evicted ∷ c.written ∷ c.flushed ∷ c.fills ∷ c.dropped ∷ []

abbrev begun : Counts
begun = record { hits = 10; misses = 20; evicted = 30; written = 40; flushed = 50; fills = 60; dropped = 70 }

-- The tally of one line of domain 1, to a step with an argument that is not zero.
abbrev tallied : List ℕ → List ℕ
tallied answer = count_numbers (tally 1 (does 1 1 9 ∷ []) (answer ∷ []) begun)

abbrev tallies : List Case
tallies =
    record { given = tallied (Case.hit 1) ++ tallied (Case.fill 1); printed = 11 ∷ 20 ∷ 30 ∷ 40 ∷ 50 ∷ 60 ∷ 70 ∷ 10 ∷ 21 ∷ 30 ∷ 40 ∷ 50 ∷ 61 ∷ 70 ∷ [] }
    ∷ record {
      given = tallied (Case.evict 1 9 1) ++ tallied (Case.evict 1 9 0);
      printed = 10 ∷ 21 ∷ 31 ∷ 41 ∷ 50 ∷ 61 ∷ 70 ∷ 10 ∷ 21 ∷ 31 ∷ 40 ∷ 50 ∷ 61 ∷ 70 ∷ [];
    }
    ∷ record { given = tallied Case.pass ++ tallied Case.absent; printed = 10 ∷ 21 ∷ 30 ∷ 40 ∷ 50 ∷ 60 ∷ 70 ∷ 10 ∷ 20 ∷ 30 ∷ 40 ∷ 50 ∷ 60 ∷ 70 ∷ [] }
    ∷ record {
      given = tallied (Case.flush 0 1) ++ tallied (Case.flush 1 0);
      printed = 10 ∷ 20 ∷ 30 ∷ 41 ∷ 51 ∷ 60 ∷ 70 ∷ 10 ∷ 20 ∷ 30 ∷ 40 ∷ 51 ∷ 60 ∷ 70 ∷ [];
    }
    ∷ record {
      given = tallied (Case.policy 3 1) ++ tallied (Case.refused 3);
      printed = 10 ∷ 20 ∷ 30 ∷ 40 ∷ 50 ∷ 60 ∷ 73 ∷ 10 ∷ 20 ∷ 30 ∷ 40 ∷ 50 ∷ 60 ∷ 70 ∷ [];
    }
    -- a removal starts anew, a refused one does not; another domain's step adds nothing
    ∷ record {
      given = count_numbers (tally 1 (does 1 16 0 ∷ does 1 1 9 ∷ []) (Case.policy 3 1 ∷ Case.hit 1 ∷ []) begun);
      printed = 1 ∷ 0 ∷ 0 ∷ 0 ∷ 0 ∷ 0 ∷ 0 ∷ [];
    }
    ∷ record {
      given = count_numbers (tally 1 (does 1 16 0 ∷ does 0 1 9 ∷ does 1 1 0 ∷ []) (Case.refused 7 ∷ Case.hit 1 ∷ Case.hit 1 ∷ []) begun);
      printed = 11 ∷ 20 ∷ 30 ∷ 40 ∷ 50 ∷ 60 ∷ 70 ∷ [];
    }
    -- by the selectors of the moment: core 0 loads for domain 0, selects domain 1 and loads, and core 1 is not in the list
    ∷ record {
      given =
          count_numbers (core_tally 1 (fresh_cores 1) (does 0 33 9 ∷ does 0 40 0x0100 ∷ does 0 33 9 ∷ does 1 33 9 ∷ does 1 1 9 ∷ [])
          (Case.hit 1 ∷ (8 ∷ 0 ∷ 1 ∷ 0 ∷ []) ∷ Case.fill 1 ∷ Case.refused 11 ∷ Case.hit 1 ∷ []) begun);
      printed = 11 ∷ 21 ∷ 30 ∷ 40 ∷ 50 ∷ 61 ∷ 70 ∷ [];
    }
    ∷ []

-- ---- Steps of a domain with locked lines

-- Four ways: line 5 in way 0 and line 8 in way 3 are locked for domain 1, whose fill map has ways 1 and 2.
abbrev locked_state : State
locked_state = row (5 ∷ 6 ∷ 7 ∷ 8 ∷ []) 15 0 0 (domain 0 0 0 0 0 0 0 0 0 ∷ domain 15 6 1 2 3 4 5 6 7 ∷ [])

-- Whether the line in a way is locked for a domain with hit map 14 and fill map 6, in a set with a valid map.
abbrev locked_way : ℕ → ℕ → Bool
locked_way valid w = locked (record { hit = 14; fill = 6 }) (record { tags = 5 ∷ 6 ∷ 7 ∷ 8 ∷ []; valid = valid; dirty = 0; word = 0 }) w

abbrev locks : List Case
locks =
    -- a policy change is of kind 16, a flush of kind 3, an access of kinds 0 to 2
    record {
      given =
          flag (changes 1 (does 1 16 0)) ∷ flag (changes 1 (does 1 15 0)) ∷ flag (changes 1 (does 1 17 0)) ∷ flag (changes 1 (does 0 16 0))
          ∷ flag (flushes 1 (λ n. true) (does 1 3 0)) ∷ flag (flushes 1 (λ n. true) (does 1 2 0)) ∷ flag (flushes 1 (λ n. true) (does 0 3 0))
          ∷ flag (flushes 1 (λ n. false) (does 1 3 0)) ∷ flag (flushes 1 (λ n. true) (does 1 4 0)) ∷ [];
      printed = 1 ∷ 0 ∷ 0 ∷ 0 ∷ 1 ∷ 0 ∷ 0 ∷ 0 ∷ 0 ∷ [];
    }
    ∷ record {
      given =
          flag (accesses 1 (λ n. true) (does 1 0 0)) ∷ flag (accesses 1 (λ n. true) (does 1 2 0)) ∷ flag (accesses 1 (λ n. true) (does 1 3 0))
          ∷ flag (accesses 1 (λ n. true) (does 0 1 0)) ∷ flag (accesses 1 (λ n. false) (does 1 1 0)) ∷ [];
      printed = 1 ∷ 1 ∷ 0 ∷ 0 ∷ 0 ∷ [];
    }
    -- a valid line of the hit map outside the fill map: way 0 is not in hit map 14, ways 1 and 2 are in fill map 6, and way 3 is locked where it is valid
    ∷ record {
      given =
          flag (locked_way 15 0) ∷ flag (locked_way 15 1) ∷ flag (locked_way 15 2) ∷ flag (locked_way 15 3) ∷ flag (locked_way 7 3) ∷ [];
      printed = 0 ∷ 0 ∷ 0 ∷ 1 ∷ 0 ∷ [];
    }
    -- "Lines have 64 bytes"
    ∷ record { given = flag (same_line 64 127) ∷ flag (same_line 64 128) ∷ flag (same_line 128 64) ∷ []; printed = 1 ∷ 0 ∷ 0 ∷ [] }
    -- line 8 is locked, line 6 is in the fill map, line 9 is not there
    ∷ record {
      given =
          flag (to_locked (plru 1 4) 1 locked_state (loads 1 (line 8))) ∷ flag (to_locked (plru 1 4) 1 locked_state (loads 1 (line 6)))
          ∷ flag (to_locked (plru 1 4) 1 locked_state (loads 1 (line 9))) ∷ flag (to_locked (plru 1 4) 1 locked_state (loads 0 (line 8))) ∷ [];
      printed = 1 ∷ 0 ∷ 0 ∷ 0 ∷ [];
    }
    ∷ record {
      given =
          flag (otherwise (plru 1 4) 1 locked_state (loads 1 (line 8))) ∷ flag (otherwise (plru 1 4) 1 locked_state (loads 1 (line 6)))
          ∷ flag (otherwise (plru 1 4) 1 locked_state (loads 0 (line 6))) ∷ [];
      printed = 0 ∷ 1 ∷ 0 ∷ [];
    }
    -- the list without the accesses to locked lines
    ∷ record {
      given = steps (rest (plru 1 4) 1 locked_state (loads 1 (line 8) ∷ loads 1 (line 6) ∷ loads 0 (line 8) ∷ stores 1 (line 5) ∷ does 1 3 (line 5) ∷ []));
      printed = 1 ∷ 1 ∷ 384 ∷ 0 ∷ 1 ∷ 512 ∷ 1 ∷ 3 ∷ 320 ∷ [];
    }
    ∷ []

-- ---- The call that lists a file

-- One set of two ways under a rule; domain 0 takes both ways and stores to line 1.
abbrev file : ℕ → List ℕ
file rule =
    1 ∷ 0 ∷ 2 ∷ rule ∷ 2 ∷ 0 ∷ 0 ∷ 0 ∷ 0 ∷ 16 ∷ 0 ∷ 2 ∷ 3 ∷ 0 ∷ 3 ∷ 0 ∷ 0 ∷ 0 ∷ 0 ∷ 0 ∷ 64 ∷ 0 ∷ 0 ∷ 0 ∷ 0 ∷ 0 ∷ 0 ∷ 0 ∷ []

-- 1 2, the rule and 2; 0 policy 0 0; 1 fill 1; domain 0 0 1 0 0 0 1 0
abbrev text : ℕ → List ℕ
text rule =
    49 ∷ 32 ∷ 50 ∷ 32 ∷ (48 + rule) ∷ 32 ∷ 50 ∷ 10 ∷ 48 ∷ 32 ∷ 112 ∷ 111 ∷ 108 ∷ 105 ∷ 99 ∷ 121 ∷ 32 ∷ 48 ∷ 32 ∷ 48 ∷ 10 ∷ 49 ∷ 32 ∷ 102 ∷ 105 ∷ 108
    ∷ 108 ∷ 32 ∷ 49 ∷ 10 ∷ 100 ∷ 111 ∷ 109 ∷ 97 ∷ 105 ∷ 110 ∷ 32 ∷ 48 ∷ 32 ∷ 48 ∷ 32 ∷ 49 ∷ 32 ∷ 48 ∷ 32 ∷ 48 ∷ 32 ∷ 48 ∷ 32 ∷ 49 ∷ 32 ∷ 48 ∷ 10 ∷ []

abbrev listed : Listed → List ℕ
listed l = l.count ∷ (l.output ++ table_numbers l.tables)

abbrev told_line : List ℕ → List ℕ
told_line answer = Listing.line (Listing.told answer)

abbrev lent_tables : Tables
lent_tables = tables_of (5 ∷ 6 ∷ 7 ∷ []) (5 ∷ 11 ∷ []) (5 ∷ 12 ∷ []) (5 ∷ 13 ∷ [])

abbrev listings : List Case
listings =
    -- the lines at the front of the output, and the tables at the front of the lent ones; what lies behind stays
    record { given = listed (list_of (file 1) (replicate 54 9) lent_tables); printed = 53 ∷ (text 1 ++ (9 ∷ 0 ∷ 1 ∷ 7 ∷ 2 ∷ 11 ∷ 2 ∷ 12 ∷ 1 ∷ 13 ∷ [])) }
    -- "the one line `refused` and the number": refused 10; the tables stay
    ∷ record {
      given = listed (list_of [] (replicate 12 9) lent_tables);
      printed = 11 ∷ 114 ∷ 101 ∷ 102 ∷ 117 ∷ 115 ∷ 101 ∷ 100 ∷ 32 ∷ 49 ∷ 48 ∷ 10 ∷ 9 ∷ 5 ∷ 6 ∷ 7 ∷ 5 ∷ 11 ∷ 5 ∷ 12 ∷ 5 ∷ 13 ∷ [];
    }
    -- also where the file names a geometry: under 8 bytes
    ∷ record {
      given = listed (list_of (1 ∷ 0 ∷ 2 ∷ 1 ∷ []) [] lent_tables);
      printed = 11 ∷ 114 ∷ 101 ∷ 102 ∷ 117 ∷ 115 ∷ 101 ∷ 100 ∷ 32 ∷ 49 ∷ 48 ∷ 10 ∷ 5 ∷ 6 ∷ 7 ∷ 5 ∷ 11 ∷ 5 ∷ 12 ∷ 5 ∷ 13 ∷ [];
    }
    -- the words: hit 1; fill 1; evict 1 2 0; pass; flush 1 0; absent; policy 1 0; refused 1; select 1 2 3
    ∷ record { given = told_line (Case.hit 1) ++ told_line (Case.fill 1); printed = 104 ∷ 105 ∷ 116 ∷ 32 ∷ 49 ∷ 10 ∷ 102 ∷ 105 ∷ 108 ∷ 108 ∷ 32 ∷ 49 ∷ 10 ∷ [] }
    ∷ record {
      given = told_line (Case.evict 1 2 0) ++ told_line Case.pass;
      printed = 101 ∷ 118 ∷ 105 ∷ 99 ∷ 116 ∷ 32 ∷ 49 ∷ 32 ∷ 50 ∷ 32 ∷ 48 ∷ 10 ∷ 112 ∷ 97 ∷ 115 ∷ 115 ∷ 10 ∷ [];
    }
    ∷ record {
      given = told_line (Case.flush 1 0) ++ told_line Case.absent;
      printed = 102 ∷ 108 ∷ 117 ∷ 115 ∷ 104 ∷ 32 ∷ 49 ∷ 32 ∷ 48 ∷ 10 ∷ 97 ∷ 98 ∷ 115 ∷ 101 ∷ 110 ∷ 116 ∷ 10 ∷ [];
    }
    ∷ record {
      given = told_line (Case.policy 1 0) ++ told_line (Case.refused 1);
      printed = 112 ∷ 111 ∷ 108 ∷ 105 ∷ 99 ∷ 121 ∷ 32 ∷ 49 ∷ 32 ∷ 48 ∷ 10 ∷ 114 ∷ 101 ∷ 102 ∷ 117 ∷ 115 ∷ 101 ∷ 100 ∷ 32 ∷ 49 ∷ 10 ∷ [];
    }
    ∷ record {
      given = told_line (8 ∷ 1 ∷ 2 ∷ 3 ∷ []);
      printed = 115 ∷ 101 ∷ 108 ∷ 101 ∷ 99 ∷ 116 ∷ 32 ∷ 49 ∷ 32 ∷ 50 ∷ 32 ∷ 51 ∷ 10 ∷ [];
    }
    -- the largest number of 64 bits
    ∷ record {
      given = decimal 18446744073709551615;
      printed = 49 ∷ 56 ∷ 52 ∷ 52 ∷ 54 ∷ 55 ∷ 52 ∷ 52 ∷ 48 ∷ 55 ∷ 51 ∷ 55 ∷ 48 ∷ 57 ∷ 53 ∷ 53 ∷ 49 ∷ 54 ∷ 49 ∷ 53 ∷ [];
    }
    ∷ record { given = listed (listed_of 3 (4 ∷ []) tables); printed = 3 ∷ 4 ∷ 5 ∷ 6 ∷ 7 ∷ 8 ∷ [] }
    -- the same by the run without core records
    ∷ record { given = listing_before (file 1) ++ listing_before (file 0); printed = text 1 ++ text 0 }
    ∷ record { given = listing_before []; printed = 114 ∷ 101 ∷ 102 ∷ 117 ∷ 115 ∷ 101 ∷ 100 ∷ 32 ∷ 49 ∷ 48 ∷ 10 ∷ [] }
    ∷ []

unfoldable pub list_cases : List Case
list_cases = codes ++ (cores ++ (struck ++ (turns ++ (seen ++ (tallies ++ (locks ++ listings))))))
