-- What demand 3 is said in, beside its witness: free nodes by halving, orders by places, and the struck-out list, worked out by hand from document 01 and from
-- document 02's job 1. A test counts as 1 where it holds.
use Rattle.std.specs.Prelude.{Bool, cond, List, [], ◌∷◌, ◌++◌, ℕ, length, replicate}
use Rattle.waymap.specs.Bits.{word}
use Rattle.command.specs.Command.{Command}
use Rattle.demand.specs.Free.{digit, some_in, is_free}
use Rattle.demand.specs.Order.{fresh_word, way_at, is_order, place_of}
use Rattle.geometry.specs.declared.Geometry.{Geometry}
use Rattle.domains.specs.declared.Domain.{Domain}
use Rattle.demand.specs.Demand.{Verdict, accepted, refused, fresh, domain_at, struck_out, verdict_of, is_own, is_pair}
use Rattle.cases.specs.Case.{Case}
use Rattle.cases.specs.States.{plru, nru, lru}

abbrev flag : Bool → ℕ
flag b = cond b 1 0

-- The free nodes of a map, as a word.
abbrev nodes : ℕ → ℕ → ℕ
nodes W map = word 32 (is_free W map)

abbrev free_nodes : List Case
free_nodes =
    -- case C: "map 12 has one free node, 4"; case F: maps 5 and 10 have node 1; case H: "map 1 has no free node"; all ways have all seven
    record { given = nodes 8 12 ∷ nodes 8 5 ∷ nodes 8 10 ∷ nodes 8 1 ∷ nodes 8 255 ∷ []; printed = 16 ∷ 2 ∷ 2 ∷ 0 ∷ 127 ∷ [] }
    -- sixteen ways: all; the four last, which are under nodes 13 and 14 and these under 6; ways 0 and 15; ways 7 and 8; ways 4 and 3, under node 1
    ∷ record {
      given = nodes 16 0xffff ∷ nodes 16 0xf000 ∷ nodes 16 0x8001 ∷ nodes 16 0x0180 ∷ nodes 16 0x0018 ∷ [];
      printed = 0x7fff ∷ 0x6040 ∷ 1 ∷ 1 ∷ 2 ∷ [];
    }
    ∷ record { given = nodes 2 3 ∷ nodes 2 1 ∷ nodes 4 6 ∷ nodes 4 12 ∷ nodes 4 0xf0 ∷ []; printed = 1 ∷ 0 ∷ 1 ∷ 4 ∷ 0 ∷ [] }
    ∷ record {
      given = digit 6 0 ∷ digit 6 1 ∷ digit 6 2 ∷ digit 6 3 ∷ flag (some_in 6 2 1) ∷ flag (some_in 6 3 2) ∷ flag (some_in 6 0 1) ∷ [];
      printed = 0 ∷ 1 ∷ 1 ∷ 0 ∷ 1 ∷ 0 ∷ 0 ∷ [];
    }
    ∷ []

abbrev orders : List Case
orders =
    -- "Fresh, place k holds way W − 1 − k"
    record { given = fresh_word 2 ∷ fresh_word 4 ∷ fresh_word 16 ∷ []; printed = 0x01 ∷ 0x0123 ∷ 0x0123456789abcdef ∷ [] }
    -- "place k from bit 4k up"
    ∷ record { given = way_at 0x3012 0 ∷ way_at 0x3012 1 ∷ way_at 0x3012 3 ∷ way_at 0x3012 4 ∷ []; printed = 2 ∷ 1 ∷ 3 ∷ 0 ∷ [] }
    -- "a word that does not hold each way exactly once, or has a higher place not zero"
    ∷ record {
      given = flag (is_order 4 0x3012) ∷ flag (is_order 4 0x3011) ∷ flag (is_order 4 0x4012) ∷ flag (is_order 4 0x13012) ∷ flag (is_order 4 0) ∷ [];
      printed = 1 ∷ 0 ∷ 0 ∷ 0 ∷ 0 ∷ [];
    }
    -- the places of ways 0 to 3 in 0x3012, and in 0, which "is read as fresh"
    ∷ record {
      given = place_of 4 0x3012 0 ∷ place_of 4 0x3012 1 ∷ place_of 4 0x3012 2 ∷ place_of 4 0x3012 3 ∷ place_of 4 0 0 ∷ place_of 4 0 1 ∷ place_of 4 0 3 ∷ [];
      printed = 2 ∷ 1 ∷ 0 ∷ 3 ∷ 3 ∷ 2 ∷ 0 ∷ [];
    }
    ∷ []

abbrev does : ℕ → ℕ → ℕ → Command
does d kind argument = record { domain = d; kind = kind; argument = argument }

abbrev steps : List Command → List ℕ
steps [] = []
steps (c ∷ cs) = c.domain ∷ c.kind ∷ c.argument ∷ steps cs

abbrev verdict : Verdict → List ℕ
verdict accepted = 0 ∷ []
verdict (refused n) = 1 ∷ n ∷ []

abbrev fresh_numbers : Geometry → List ℕ
fresh_numbers g = let t = (fresh g).tables in t.tags ++ (t.valid ++ (t.dirty ++ t.words))

abbrev domain_numbers : Domain → List ℕ
domain_numbers x =
    let c = x.counts in
    x.hit ∷ x.fill ∷ c.hits ∷ c.misses ∷ c.evicted ∷ c.written ∷ c.flushed ∷ c.fills ∷ c.dropped ∷ []

abbrev seen : List Case
seen =
    -- "without the accesses and flushes (kinds 0 to 3) that belong to another domain; every other step stays"
    record {
      given = steps (struck_out 0 (does 1 0 9 ∷ does 1 3 9 ∷ does 1 4 9 ∷ does 0 3 9 ∷ does 16 1 9 ∷ does 16 16 9 ∷ []));
      printed = 1 ∷ 4 ∷ 9 ∷ 0 ∷ 3 ∷ 9 ∷ 16 ∷ 16 ∷ 9 ∷ [];
    }
    -- "Fresh: all zero, except that under NRU the low W bits of each replacement word are one", and under true LRU the fresh order
    ∷ record {
      given = fresh_numbers (plru 2 4) ++ (fresh_numbers (nru 2 4) ++ fresh_numbers (lru 2 4));
      printed = replicate 14 0 ++ (replicate 12 0 ++ (15 ∷ 15 ∷ (replicate 12 0 ++ (0x0123 ∷ 0x0123 ∷ []))));
    }
    ∷ record { given = length (fresh (nru 1 2)).domains.records ∷ domain_numbers (domain_at 15 (fresh (nru 1 2))); printed = 16 ∷ replicate 9 0 }
    -- "whether it is accepted, and the number if it is not"
    ∷ record {
      given = verdict (verdict_of (7 ∷ 9 ∷ [])) ++ (verdict (verdict_of (6 ∷ 7 ∷ 7 ∷ [])) ++ (verdict (verdict_of []) ++ verdict (verdict_of (7 ∷ []))));
      printed = 1 ∷ 9 ∷ 0 ∷ 0 ∷ 1 ∷ 0 ∷ [];
    }
    -- "its free nodes, or the NRU bits of its fill map"; under true LRU no bit
    ∷ record {
      given =
          flag (is_own (plru 1 4) 12 2) ∷ flag (is_own (plru 1 4) 12 3) ∷ flag (is_own (nru 1 4) 12 3) ∷ flag (is_own (nru 1 4) 12 1) ∷ flag (is_own (lru 1 4) 12 2)
          ∷ flag (is_own (lru 1 4) 12 3) ∷ [];
      printed = 1 ∷ 0 ∷ 1 ∷ 0 ∷ 0 ∷ 0 ∷ [];
    }
    -- "the relative order of its fill ways", under true LRU alone
    ∷ record {
      given =
          flag (is_pair (lru 1 4) 12 2 3) ∷ flag (is_pair (lru 1 4) 12 1 3) ∷ flag (is_pair (lru 1 4) 12 3 1) ∷ flag (is_pair (nru 1 4) 12 2 3)
          ∷ flag (is_pair (plru 1 4) 12 2 3) ∷ [];
      printed = 1 ∷ 0 ∷ 0 ∷ 0 ∷ 0 ∷ [];
    }
    ∷ []

unfoldable pub demand_cases : List Case
demand_cases = free_nodes ++ (orders ++ seen)
