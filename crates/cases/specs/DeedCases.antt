-- A step of one domain, given its record: what the definitions give that the calls of a step go by, and what was worked out by hand from document 01,
-- "Steps", and from document 02's job 6.
use Rattle.std.specs.Prelude.{List, [], ◌∷◌, ◌++◌, ℕ, replicate}
use Rattle.waymap.specs.Bits.{word}
use Rattle.command.specs.Answer.{answer_of}
use Rattle.command.specs.declared.Answer.TheVariants.{Hit}
use Rattle.command.specs.declared.LineUse.TheVariants.{Load, Store}
use Rattle.policy.specs.declared.Maps.{Maps}
use Rattle.domains.specs.declared.Domain.{Domain}
use Rattle.domains.specs.declared.Policies.{Policies}
use Rattle.steps.specs.Tables.{Tables}
use Rattle.steps.specs.Step.{State, Outcome, tables_of}
use Rattle.steps.specs.Deed.{Work, Deed, work_at, unless, line_deed, drop_map, drops_among, drops_by, policy_deed, put_deed}
use Rattle.cases.specs.Case.{Case, hit, fill, evict, policy, refused}
use Rattle.reached.specs.Balance.{held}
use Rattle.cases.specs.States.{nru, domain, state, line}

abbrev domain_numbers : Domain → List ℕ
domain_numbers x =
    let c = x.counts in
    x.hit ∷ x.fill ∷ c.hits ∷ c.misses ∷ c.evicted ∷ c.written ∷ c.flushed ∷ c.fills ∷ c.dropped ∷ []

abbrev all_numbers : List Domain → List ℕ
all_numbers [] = []
all_numbers (x ∷ xs) = domain_numbers x ++ all_numbers xs

abbrev table_numbers : Tables → List ℕ
table_numbers t = t.tags ++ (t.valid ++ (t.dirty ++ t.words))

abbrev deed_numbers : Deed → List ℕ
deed_numbers x = answer_of x.answer ++ (domain_numbers x.own ++ table_numbers x.tables)

abbrev work_numbers : Work → List ℕ
work_numbers w = answer_of w.answer ++ table_numbers w.tables

abbrev maps : ℕ → ℕ → Maps
maps hit_map fill_map = record { hit = hit_map; fill = fill_map }

-- Two sets of two ways under NRU: lines 10 and 12, of tags 5 and 6, in set 0, and lines 15 and 17, of tags 7 and 8, in set 1; way 1 of each is dirty.
abbrev two : Tables
two = tables_of (5 ∷ 6 ∷ 7 ∷ 8 ∷ []) (3 ∷ 3 ∷ []) (2 ∷ 2 ∷ []) (3 ∷ 3 ∷ [])

-- A domain with both ways, and one with way 1 alone.
abbrev both : Domain
both = domain 3 3 1 2 3 4 5 6 7

abbrev one : Domain
one = domain 2 2 1 2 3 4 5 6 7

-- Domain 0 has way 0, domain 1 way 1, stored with ways that two ways do not have.
abbrev policies : Policies
policies = record { maps = maps 0xf1 1 ∷ maps 0xf2 0xf3 ∷ replicate 14 (maps 0 0) }

-- Four sets, of which domain 1 has both ways in its hit map and way 0 alone in its fill map.
abbrev four_sets : State
four_sets = state (replicate 8 5) (3 ∷ 2 ∷ 1 ∷ 1 ∷ []) (replicate 4 0) (replicate 4 3) (domain 0 0 0 0 0 0 0 0 0 ∷ domain 3 1 1 2 3 4 5 6 7 ∷ [])

abbrev deeds : List Case
deeds =
    -- a store to line 17 is in set 1 and has tag 8: it hits way 1 and clears its bit
    record { given = work_numbers (work_at (nru 2 2) Store (maps 3 3) (line 17) two); printed = hit 1 ++ (5 ∷ 6 ∷ 7 ∷ 8 ∷ 3 ∷ 3 ∷ 2 ∷ 2 ∷ 3 ∷ 1 ∷ []) }
    ∷ record {
      given = deed_numbers (line_deed (nru 2 2) both Load (line 17) two);
      printed = hit 1 ++ (3 ∷ 3 ∷ 2 ∷ 2 ∷ 3 ∷ 4 ∷ 5 ∷ 6 ∷ 7 ∷ 5 ∷ 6 ∷ 7 ∷ 8 ∷ 3 ∷ 3 ∷ 2 ∷ 2 ∷ 3 ∷ 1 ∷ []);
    }
    -- 6 for a hit map that is read as empty: nothing moves
    ∷ record {
      given = deed_numbers (line_deed (nru 2 2) (domain 12 12 1 2 3 4 5 6 7) Load (line 17) two);
      printed = refused 6 ++ (12 ∷ 12 ∷ 1 ∷ 2 ∷ 3 ∷ 4 ∷ 5 ∷ 6 ∷ 7 ∷ 5 ∷ 6 ∷ 7 ∷ 8 ∷ 3 ∷ 3 ∷ 2 ∷ 2 ∷ 3 ∷ 3 ∷ []);
    }
    ∷ record {
      given = deed_numbers (unless 9 one two (record { answer = Hit 1; own = both; tables = tables_of [] [] [] [] }));
      printed = refused 9 ++ (domain_numbers one ++ table_numbers two);
    }
    ∷ record {
      given = deed_numbers (unless 0 one two (record { answer = Hit 1; own = both; tables = tables_of [] [] [] [] }));
      printed = hit 1 ++ domain_numbers both;
    }
    ∷ []

-- Job 6: lines in ways that another domain holds are no drops.
abbrev drops : List Case
drops =
    -- domain 1 gives way 1 up and takes way 0, which domain 0 holds: way 1 alone; and domain 0 the other way round, way 0 alone
    record {
      given = word 16 (drop_map 2 (maps 0xf2 0xf3) policies 1 0x10001) ∷ word 16 (drop_map 2 (maps 1 1) policies 0 0x20002) ∷ [];
      printed = 2 ∷ 1 ∷ [];
    }
    -- way 0 in the hit map alone is taken from domain 0 as well
    ∷ record { given = word 16 (drop_map 2 (maps 0xf2 0xf3) policies 1 1) ∷ []; printed = 2 ∷ [] }
    ∷ record {
      given = drops_among 2 (maps 0xf2 0xf3) policies 1 0x10001 (3 ∷ 1 ∷ 2 ∷ []) ∷ drops_by (nru 2 2) one policies 1 0x10001 two ∷ [];
      printed = 2 ∷ 2 ∷ [];
    }
    -- in all of four sets
    ∷ record {
      given =
          drops_by (nru 4 2) one policies 1 0x10001 (tables_of (replicate 8 5) (3 ∷ 2 ∷ 1 ∷ 3 ∷ []) (replicate 4 0) (replicate 4 0))
          ∷ held (nru 4 2) 1 four_sets ∷ [];
      printed = 3 ∷ 5 ∷ [];
    }
    -- domain 1 gives its fill way up and keeps the hit way: no line is dropped, and NRU's bit of way 1 becomes one in both sets
    ∷ record {
      given = deed_numbers (policy_deed (nru 2 2) one policies 1 2 (tables_of (5 ∷ 6 ∷ 7 ∷ 8 ∷ []) (3 ∷ 3 ∷ []) (2 ∷ 2 ∷ []) (0 ∷ 1 ∷ [])));
      printed = policy 0 0 ++ (2 ∷ 0 ∷ 1 ∷ 2 ∷ 3 ∷ 4 ∷ 5 ∷ 6 ∷ 7 ∷ 5 ∷ 6 ∷ 7 ∷ 8 ∷ 3 ∷ 3 ∷ 2 ∷ 2 ∷ 2 ∷ 3 ∷ []);
    }
    -- a removal drops the line in way 1 of both sets, each dirty; 8 for way 0
    ∷ record {
      given = deed_numbers (policy_deed (nru 2 2) one policies 1 0 two);
      printed = policy 2 2 ++ (0 ∷ 0 ∷ 0 ∷ 0 ∷ 0 ∷ 0 ∷ 0 ∷ 0 ∷ 0 ∷ 5 ∷ 0 ∷ 7 ∷ 0 ∷ 1 ∷ 1 ∷ 0 ∷ 0 ∷ 3 ∷ 3 ∷ []);
    }
    -- one of the two lines is dirty
    ∷ record {
      given = answer_of (policy_deed (nru 2 2) one policies 1 0 (tables_of (5 ∷ 6 ∷ 7 ∷ 8 ∷ []) (3 ∷ 3 ∷ []) (2 ∷ 1 ∷ []) (3 ∷ 3 ∷ []))).answer;
      printed = policy 2 1;
    }
    -- a removal drops way 1 in three of four sets, twice with a dirty line
    ∷ record {
      given =
          deed_numbers (policy_deed (nru 4 2) one policies 1 0
          (tables_of (1 ∷ 2 ∷ 3 ∷ 4 ∷ 5 ∷ 6 ∷ 7 ∷ 8 ∷ []) (3 ∷ 2 ∷ 1 ∷ 3 ∷ []) (3 ∷ 0 ∷ 2 ∷ 2 ∷ []) (replicate 4 0)));
      printed = policy 3 2 ++ (replicate 9 0 ++ (1 ∷ 0 ∷ 3 ∷ 0 ∷ 5 ∷ 0 ∷ 7 ∷ 0 ∷ 1 ∷ 0 ∷ 1 ∷ 1 ∷ 1 ∷ 0 ∷ 0 ∷ 0 ∷ 2 ∷ 2 ∷ 2 ∷ 2 ∷ []));
    }
    ∷ record { given = deed_numbers (policy_deed (nru 2 2) one policies 1 0x10001 two); printed = refused 8 ++ (domain_numbers one ++ table_numbers two) }
    -- the record put back among the domains
    ∷ record {
      given =
          let o = put_deed 1 (record { answer = Hit 1; own = one; tables = two }) (record { records = both ∷ both ∷ both ∷ [] }) in
          o.answer ++ (table_numbers o.state.tables ++ all_numbers o.state.domains.records);
      printed = hit 1 ++ (table_numbers two ++ (domain_numbers both ++ (domain_numbers one ++ domain_numbers both)));
    }
    ∷ []

unfoldable pub deed_cases : List Case
deed_cases = deeds ++ drops
