-- Calls on one set, on the sixteen records and on a policy: what they give, and what was worked out by hand from document 01, "Steps" and "When a step is
-- turned down", and from document 02's job 6.
use Rattle.std.specs.Prelude.{Bool, true, false, cond, List, [], ◌∷◌, ◌++◌, ℕ, replicate}
use Rattle.waymap.specs.Bits.{bit}
use Rattle.replacement.specs.Rule as Rule
use Rattle.replacement.specs.declared.Change.{Change}
use Rattle.replacement.specs.declared.Change.TheVariants.{Clear, Raise, Age, Stay}
use Rattle.command.specs.Answer.{answer_of}
use Rattle.command.specs.declared.Answer.{Answer}
use Rattle.command.specs.declared.Answer.TheVariants.{Hit, Fill, Evict, Pass, Flush, Absent, Policy, Refused}
use Rattle.command.specs.declared.LineUse.TheVariants as Uses
use Rattle.policy.specs.Policy.{as_read}
use Rattle.policy.specs.declared.Maps.{Maps}
use Rattle.row.specs.Row.{Row, Effect}
use Rattle.row.specs.Calls.{row_of, told, effect_of, access_of, flush_of, use_of}
use Rattle.row.specs.Statements.{came, went}
use Rattle.row.specs.declared.Lines.{Lines}
use Rattle.sweep.specs.Clean.{clean}
use Rattle.sweep.specs.Sweep.{sweep_of, drops, swept_lines, sweep_by}
use Rattle.sweep.specs.Drops.{added_to}
use Rattle.sweep.specs.Number.{lines_among}
use Rattle.sweep.specs.declared.Sweep.{Sweep}
use Rattle.sweep.specs.declared.Drops.{Drops}
use Rattle.domains.specs.Domains.{no_domain, maps_of}
use Rattle.domains.specs.Calls.{policies_of, read_by, used_of, changed_of}
use Rattle.domains.specs.declared.Counts.{Counts}
use Rattle.domains.specs.declared.Domain.{Domain}
use Rattle.domains.specs.declared.Domains.{Domains}
use Rattle.domains.specs.declared.Policies.{Policies}
use Rattle.verdict.specs.Calls.{policy_refusal_of}
use Rattle.geometry.specs.Address.{place_of}
use Rattle.geometry.specs.Geometry.{sizes_of}
use Rattle.geometry.specs.declared.Geometry.{Geometry}
use Rattle.steps.specs.Tables.{Tables}
use Rattle.steps.specs.Step.{tables_of}
use Rattle.fresh.specs.Calls.{Made, fresh_of}
use Rattle.cases.specs.Case.{Case, hit, fill, evict, pass, flush, absent, policy, refused}
use Rattle.cases.specs.States.{plru, nru, lru, domain}

-- ---- Numbers of things

abbrev maps : ℕ → ℕ → Maps
maps hit_map fill_map = record { hit = hit_map; fill = fill_map }

abbrev map_numbers : Maps → List ℕ
map_numbers p = p.hit ∷ p.fill ∷ []

-- A row's tags, valid map, dirty map and replacement word.
abbrev row : List ℕ → ℕ → ℕ → ℕ → Row
row tags valid dirty word = record { tags = tags; valid = valid; dirty = dirty; word = word }

abbrev row_numbers : Row → List ℕ
row_numbers r = r.tags ++ (r.valid ∷ r.dirty ∷ r.word ∷ [])

-- What a call does to a row: its answer in document 01's words, and the row.
abbrev effect : Effect → List ℕ
effect e = (told e).answer ++ row_numbers (told e).row

-- ---- Access and flush of a row

abbrev rows : List Case
rows =
    -- a row of its lent tags and the rest
    record { given = row_numbers (row_of (8 ∷ 9 ∷ []) (record { valid = 1; dirty = 2; word = 3 })); printed = 8 ∷ 9 ∷ 1 ∷ 2 ∷ 3 ∷ [] }
    ∷ record {
      given = effect (effect_of (record { answer = Evict 1 7 true; lines = record { valid = 1; dirty = 2; word = 3 } }) (8 ∷ 9 ∷ []));
      printed = evict 1 7 1 ++ (8 ∷ 9 ∷ 1 ∷ 2 ∷ 3 ∷ []);
    }
    -- "the way is touched, and a store marks it dirty"
    ∷ record { given = effect (access_of 0 (maps 3 3) 6 true (row (5 ∷ 6 ∷ []) 3 0 1)); printed = hit 1 ++ (5 ∷ 6 ∷ 3 ∷ 2 ∷ 0 ∷ []) }
    ∷ record { given = effect (access_of 0 (maps 3 3) 6 false (row (5 ∷ 6 ∷ []) 3 0 1)); printed = hit 1 ++ (5 ∷ 6 ∷ 3 ∷ 0 ∷ 0 ∷ []) }
    -- "the victim is evicted and its tag and dirtiness answered": under NRU way 1
    ∷ record { given = effect (access_of 1 (maps 3 3) 9 false (row (5 ∷ 6 ∷ []) 3 2 2)); printed = evict 1 6 1 ++ (5 ∷ 9 ∷ 3 ∷ 0 ∷ 0 ∷ []) }
    -- "read with ways of W or more left out of both maps and the fill map cut to its hit map": ways 1 and 1, so that no node is free
    ∷ record { given = effect (access_of 0 (maps 0xfe 0xff) 9 false (row (5 ∷ 6 ∷ []) 0 0 1)); printed = fill 1 ++ (5 ∷ 9 ∷ 2 ∷ 0 ∷ 1 ∷ []) }
    -- a length or a rule outside the limits is 1, and nothing moves
    ∷ record { given = effect (access_of 0 (maps 3 3) 6 true (row (5 ∷ 6 ∷ 7 ∷ []) 3 0 1)); printed = refused 1 ++ (5 ∷ 6 ∷ 7 ∷ 3 ∷ 0 ∷ 1 ∷ []) }
    ∷ record { given = effect (access_of 3 (maps 3 3) 6 true (row (5 ∷ 6 ∷ []) 3 0 1)); printed = refused 1 ++ (5 ∷ 6 ∷ 3 ∷ 0 ∷ 1 ∷ []) }
    -- "is made invalid and not dirty; its tag and all replacement bits stay"; "Else the answer is absent"
    ∷ record { given = effect (flush_of (maps 3 0) 6 (row (5 ∷ 6 ∷ []) 3 2 1)); printed = flush 1 1 ++ (5 ∷ 6 ∷ 1 ∷ 0 ∷ 1 ∷ []) }
    ∷ record { given = effect (flush_of (maps 1 3) 6 (row (5 ∷ 6 ∷ []) 3 2 1)); printed = absent ++ (5 ∷ 6 ∷ 3 ∷ 2 ∷ 1 ∷ []) }
    ∷ record { given = effect (flush_of (maps 3 3) 6 (row (5 ∷ 6 ∷ 7 ∷ []) 3 2 1)); printed = refused 1 ++ (5 ∷ 6 ∷ 7 ∷ 3 ∷ 2 ∷ 1 ∷ []) }
    -- a load, a store and a flush
    ∷ record { given = effect (use_of Uses.Load 0 (maps 3 3) 6 (row (5 ∷ 6 ∷ []) 3 0 1)); printed = hit 1 ++ (5 ∷ 6 ∷ 3 ∷ 0 ∷ 0 ∷ []) }
    ∷ record { given = effect (use_of Uses.Store 0 (maps 3 3) 6 (row (5 ∷ 6 ∷ []) 3 0 1)); printed = hit 1 ++ (5 ∷ 6 ∷ 3 ∷ 2 ∷ 0 ∷ []) }
    ∷ record { given = effect (use_of Uses.Flush 0 (maps 3 3) 6 (row (5 ∷ 6 ∷ []) 3 0 1)); printed = flush 1 0 ++ (5 ∷ 6 ∷ 1 ∷ 0 ∷ 1 ∷ []) }
    ∷ []

-- ---- A change of policy on one set

abbrev change_numbers : Change → List ℕ
change_numbers (Clear nodes) = 0 ∷ nodes ∷ []
change_numbers (Raise ways) = 1 ∷ ways ∷ []
change_numbers (Age W m) = 2 ∷ W ∷ m.ways ∷ m.tail ∷ []
change_numbers Stay = 3 ∷ []

abbrev sweep_numbers : Sweep → List ℕ
sweep_numbers s = s.gone ∷ change_numbers s.change

abbrev lines : ℕ → ℕ → ℕ → Lines
lines valid dirty word = record { valid = valid; dirty = dirty; word = word }

abbrev line_numbers : Lines → List ℕ
line_numbers l = l.valid ∷ l.dirty ∷ l.word ∷ []

abbrev drop_numbers : Drops → List ℕ
drop_numbers d = d.dropped ∷ d.dirty ∷ []

abbrev sweeps : List Case
sweeps =
    -- from maps that are read as 3 and 2 to maps that are read as 6 and 6: ways 0 and 2 are cleaned, and NRU's bit of way 2 becomes one
    record { given = sweep_numbers (sweep_of 4 1 (maps 0x13 0x12) (maps 0x26 0x2e)); printed = 5 ∷ 1 ∷ 4 ∷ [] }
    ∷ record { given = sweep_numbers (sweep_of 16 1 (maps 0x8000 0x8000) (maps 1 1)); printed = 0x8001 ∷ 1 ∷ 0x8001 ∷ [] }
    ∷ record { given = sweep_numbers (sweep_of 32 1 (maps 0x10000 0) (maps 1 1)); printed = 1 ∷ 3 ∷ [] }
    -- "the number of valid lines dropped and how many of them were dirty": of ways 0 and 2
    ∷ record { given = answer_of (drops 5 (lines 7 12 0)) ++ answer_of (drops 5 (lines 6 9 0)); printed = policy 2 1 ++ policy 1 0 }
    ∷ record {
      given = answer_of (drops 0x8000 (lines 0x8000 0x8000 0)) ++ answer_of (drops 0x10000 (lines 0x10000 0x10000 0));
      printed = policy 1 1 ++ policy 0 0;
    }
    -- "invalid, not dirty", and the change of the word
    ∷ record { given = line_numbers (swept_lines 5 (Raise 4) (lines 7 6 1)); printed = 2 ∷ 2 ∷ 5 ∷ [] }
    -- a map has sixteen bits
    ∷ record { given = line_numbers (swept_lines 1 Stay (lines 0x18001 0x18000 1)); printed = 0x8000 ∷ 0x8000 ∷ 1 ∷ [] }
    -- "tag zero"; ways that the set does not have are left out
    ∷ record {
      given = effect (sweep_by (record { gone = 0x15; change = Raise 4 }) (row (5 ∷ 6 ∷ 7 ∷ 8 ∷ []) 0x1f 0x14 1));
      printed = policy 2 1 ++ (0 ∷ 6 ∷ 0 ∷ 8 ∷ 0x1a ∷ 0x10 ∷ 5 ∷ []);
    }
    ∷ record {
      given = effect (clean (Rule.nru 4) (maps 3 2) (maps 6 6) (row (5 ∷ 6 ∷ 7 ∷ 8 ∷ []) 15 12 1));
      printed = policy 2 1 ++ (0 ∷ 6 ∷ 0 ∷ 8 ∷ 10 ∷ 8 ∷ 5 ∷ []);
    }
    -- drops added up, in 64 bits; no other answer tells of drops
    ∷ record { given = drop_numbers (added_to (record { dropped = 1; dirty = 2 }) (Policy 3 4)); printed = 4 ∷ 6 ∷ [] }
    ∷ record {
      given = drop_numbers (added_to (record { dropped = 18446744073709551615; dirty = 18446744073709551615 }) (Policy 1 2));
      printed = 0 ∷ 1 ∷ [];
    }
    ∷ record {
      given =
          drop_numbers (added_to (record { dropped = 1; dirty = 2 }) (Hit 3)) ++ drop_numbers (added_to (record { dropped = 1; dirty = 2 }) (Fill 3))
          ++ drop_numbers (added_to (record { dropped = 1; dirty = 2 }) (Evict 3 4 true)) ++ drop_numbers (added_to (record { dropped = 1; dirty = 2 }) Pass);
      printed = 1 ∷ 2 ∷ 1 ∷ 2 ∷ 1 ∷ 2 ∷ 1 ∷ 2 ∷ [];
    }
    ∷ record {
      given =
          drop_numbers (added_to (record { dropped = 1; dirty = 2 }) (Flush 3 true)) ++ drop_numbers (added_to (record { dropped = 1; dirty = 2 }) Absent)
          ++ drop_numbers (added_to (record { dropped = 1; dirty = 2 }) (Refused 3));
      printed = 1 ∷ 2 ∷ 1 ∷ 2 ∷ 1 ∷ 2 ∷ [];
    }
    -- the lines in ways 1 and 2 of two sets; in way 15; there is no way 16
    ∷ record {
      given = lines_among (bit 6) (7 ∷ 2 ∷ []) ∷ lines_among (bit 0x8000) (0x8000 ∷ []) ∷ lines_among (bit 0x10000) (0x10000 ∷ []) ∷ [];
      printed = 3 ∷ 1 ∷ 0 ∷ [];
    }
    ∷ []

-- ---- The records

abbrev domain_numbers : Domain → List ℕ
domain_numbers x =
    let c = x.counts in
    x.hit ∷ x.fill ∷ c.hits ∷ c.misses ∷ c.evicted ∷ c.written ∷ c.flushed ∷ c.fills ∷ c.dropped ∷ []

abbrev all_maps : List Maps → List ℕ
all_maps [] = []
all_maps (p ∷ ps) = map_numbers p ++ all_maps ps

-- Domain 0 has the stored maps 0x13 and 0x1e, domain 15 ways 2 and 3.
abbrev stored : Domains
stored = record { records = domain 0x13 0x1e 1 2 3 4 5 6 7 ∷ (replicate 14 no_domain ++ (domain 12 8 0 0 0 0 0 0 0 ∷ [])) }

abbrev largest : ℕ
largest = 4294967295

abbrev records : List Case
records =
    record { given = all_maps (policies_of stored).maps; printed = 0x13 ∷ 0x1e ∷ (replicate 28 0 ++ (12 ∷ 8 ∷ [])) }
    -- "A map is a 16-bit word", also where it is read
    ∷ record { given = map_numbers (as_read 17 (maps 0x18001 0x18001)) ++ map_numbers (as_read 15 (maps 0x8001 0x8001)); printed = 0x8001 ∷ 0x8001 ∷ 1 ∷ 1 ∷ [] }
    -- as read with four ways; there is no domain 16
    ∷ record {
      given = map_numbers (read_by 4 (policies_of stored) 0) ++ (map_numbers (read_by 4 (policies_of stored) 15) ++ map_numbers (read_by 4 (policies_of stored) 16));
      printed = 3 ∷ 2 ∷ 12 ∷ 8 ∷ 0 ∷ 0 ∷ [];
    }
    -- a dirty eviction; a record of which a count is full stays as it is
    ∷ record { given = domain_numbers (used_of (Evict 0 5 true) (domain 3 1 1 2 3 4 5 6 7)); printed = 3 ∷ 1 ∷ 1 ∷ 3 ∷ 4 ∷ 5 ∷ 5 ∷ 7 ∷ 7 ∷ [] }
    ∷ record {
      given = domain_numbers (used_of (Evict 0 5 true) (domain 3 1 1 2 3 4 5 6 largest));
      printed = 3 ∷ 1 ∷ 1 ∷ 2 ∷ 3 ∷ 4 ∷ 5 ∷ 6 ∷ largest ∷ [];
    }
    -- "both maps are stored"; "Two zero maps remove the domain and zero its counts"; one that would pass the largest count stays
    ∷ record { given = domain_numbers (changed_of 0x20006 3 (domain 3 1 1 2 3 4 5 6 7)); printed = 6 ∷ 2 ∷ 1 ∷ 2 ∷ 3 ∷ 4 ∷ 5 ∷ 6 ∷ 10 ∷ [] }
    ∷ record {
      given = domain_numbers (changed_of 0xffffffff 1 (domain 3 1 1 2 3 4 5 6 7));
      printed = 0xffff ∷ 0xffff ∷ 1 ∷ 2 ∷ 3 ∷ 4 ∷ 5 ∷ 6 ∷ 8 ∷ [];
    }
    ∷ record { given = domain_numbers (changed_of 0 3 (domain 3 1 1 2 3 4 5 6 7)); printed = 0 ∷ 0 ∷ 0 ∷ 0 ∷ 0 ∷ 0 ∷ 0 ∷ 0 ∷ 0 ∷ [] }
    ∷ record {
      given = domain_numbers (changed_of 0x20006 1 (domain 3 1 1 2 3 4 5 6 largest));
      printed = 3 ∷ 1 ∷ 1 ∷ 2 ∷ 3 ∷ 4 ∷ 5 ∷ 6 ∷ largest ∷ [];
    }
    ∷ []

-- ---- A policy change alone, by the policies of others

-- Domain 1 has ways 0 and 2 of four.
abbrev others : Policies
others = record { maps = maps 0 0 ∷ maps 5 5 ∷ replicate 14 (maps 0 0) }

abbrev counts : ℕ → Counts
counts dropped = record { hits = 1; misses = 2; evicted = 3; written = 4; flushed = 5; fills = 6; dropped = dropped }

-- Domain 0, lines that it would drop, and an argument: the number.
abbrev number : Geometry → ℕ → ℕ → ℕ → ℕ
number g dropped drops arg = policy_refusal_of g others (counts dropped) drops 0 arg

abbrev verdicts : List Case
verdicts =
    -- maps 8 and 8 stand; 5 for a way of 4; 7 past the largest count; 8 for way 2; 9 under Tree-PLRU for ways 1 and 3, whose node 0 domain 1 has too
    record {
      given = number (plru 1 4) 7 1 0x80008 ∷ number (plru 1 4) 7 1 0x100010 ∷ number (plru 1 4) largest 1 0x80008 ∷ number (plru 1 4) 7 1 0x40004 ∷ [];
      printed = 0 ∷ 5 ∷ 7 ∷ 8 ∷ [];
    }
    ∷ record {
      given = number (plru 1 4) 7 1 0xa000a ∷ number (nru 1 4) 7 1 0xa000a ∷ number (plru 1 3) 7 1 0x20002 ∷ [];
      printed = 9 ∷ 0 ∷ 1 ∷ [];
    }
    -- "or a high bit set": bit 32, and bit 63; "a fill map that is not part of the hit map"
    ∷ record {
      given = number (plru 1 4) 7 1 0x100080008 ∷ number (plru 1 4) 7 1 0x8000000000080008 ∷ number (plru 1 4) 7 1 0x20008 ∷ [];
      printed = 5 ∷ 5 ∷ 5 ∷ [];
    }
    -- 8 goes by hit maps: way 2 in the hit map alone
    ∷ record { given = number (plru 1 4) 7 1 4 ∷ number (plru 1 4) 7 1 0xc ∷ number (plru 1 4) 7 1 8 ∷ []; printed = 8 ∷ 8 ∷ 0 ∷ [] }
    -- 9 goes by fill maps: domain 1 has ways 0 and 2 in its hit map and way 0 alone in its fill map, and no node is free for that
    ∷ record {
      given = policy_refusal_of (plru 1 4) (record { maps = maps 0 0 ∷ maps 5 1 ∷ replicate 14 (maps 0 0) }) (counts 7) 1 0 0xa000a ∷ [];
      printed = 0 ∷ [];
    }
    ∷ record { given = policy_refusal_of (plru 1 4) others (counts 7) 1 0 0x2000a ∷ []; printed = 0 ∷ [] }
    -- way 15 of sixteen
    ∷ record {
      given = policy_refusal_of (nru 1 16) (record { maps = maps 0x8000 0x8000 ∷ replicate 15 (maps 0 0) }) (counts 7) 1 15 0x80008000 ∷ [];
      printed = 8 ∷ [];
    }
    -- a rule outside the limits, and domain 1 itself
    ∷ record {
      given =
          number (record { sets = 1; ways = 4; rule = 3 }) 7 1 0x80008 ∷ policy_refusal_of (plru 1 4) others (counts 7) 1 1 0x40004
          ∷ policy_refusal_of (plru 1 4) others (counts largest) 1 1 0 ∷ [];
      printed = 1 ∷ 0 ∷ 0 ∷ [];
    }
    ∷ []

-- ---- Addresses, and fresh tables

abbrev placed : Geometry → ℕ → List ℕ
placed g address = let p = place_of g address in p.set ∷ p.tag ∷ []

abbrev made_numbers : Made → List ℕ
made_numbers m = let t = m.tables in m.number ∷ (t.tags ++ (t.valid ++ (t.dirty ++ t.words)))

abbrev lent_tables : List ℕ → Tables
lent_tables valid = tables_of (5 ∷ 6 ∷ []) valid (1 ∷ []) (7 ∷ [])

abbrev number2 : ℕ → ℕ → ℕ → ℕ → ℕ
number2 tags valid dirty words = sizes_of (lru 2 2) (record { tags = tags; valid = valid; dirty = dirty; words = words })

abbrev places : List Case
places =
    -- "Line = address / 64; set = line mod S; tag = line / S": line 7 of two sets
    record { given = placed (plru 2 4) 448 ++ placed (plru 2 4) 447; printed = 1 ∷ 3 ∷ 0 ∷ 3 ∷ [] }
    -- 0 and fresh tables; 2 for a valid map too many; 1 for three sets; nothing moves then
    ∷ record { given = made_numbers (fresh_of (nru 1 2) (lent_tables (3 ∷ []))); printed = 0 ∷ 0 ∷ 0 ∷ 0 ∷ 0 ∷ 3 ∷ [] }
    ∷ record { given = made_numbers (fresh_of (nru 1 2) (lent_tables (3 ∷ 3 ∷ []))); printed = 2 ∷ 5 ∷ 6 ∷ 3 ∷ 3 ∷ 1 ∷ 7 ∷ [] }
    ∷ record { given = made_numbers (fresh_of (nru 3 2) (lent_tables (3 ∷ []))); printed = 1 ∷ 5 ∷ 6 ∷ 3 ∷ 1 ∷ 7 ∷ [] }
    -- "a table whose length is not exactly the one above": of two sets of two ways each too short by one, and each too long
    ∷ record {
      given =
          number2 3 2 2 2 ∷ number2 4 1 2 2 ∷ number2 4 2 1 2 ∷ number2 4 2 2 1 ∷ number2 5 2 2 2 ∷ number2 4 3 2 2 ∷ number2 4 2 3 2
          ∷ number2 4 2 2 3 ∷ [];
      printed = replicate 8 2;
    }
    -- numbers 1 and 2 of a call
    ∷ record {
      given =
          sizes_of (lru 2 2) (record { tags = 4; valid = 2; dirty = 2; words = 2 }) ∷ sizes_of (lru 2 2) (record { tags = 4; valid = 2; dirty = 3; words = 2 })
          ∷ sizes_of (lru 2 3) (record { tags = 6; valid = 2; dirty = 3; words = 2 }) ∷ [];
      printed = 0 ∷ 2 ∷ 1 ∷ [];
    }
    ∷ []

-- Lines that come and go with an answer, in the order of document 01's words: "fills equal evicted plus flushed plus dropped plus the lines now valid".
abbrev moves : List Case
moves =
    record {
      given = came (Hit 1) ∷ came (Fill 1) ∷ came (Evict 1 2 true) ∷ came Pass ∷ came (Flush 1 true) ∷ came Absent ∷ came (Policy 2 1) ∷ came (Refused 6) ∷ [];
      printed = 0 ∷ 1 ∷ 1 ∷ 0 ∷ 0 ∷ 0 ∷ 0 ∷ 0 ∷ [];
    }
    ∷ record {
      given = went (Hit 1) ∷ went (Fill 1) ∷ went (Evict 1 2 true) ∷ went Pass ∷ went (Flush 1 true) ∷ went Absent ∷ went (Policy 2 1) ∷ went (Refused 6) ∷ [];
      printed = 0 ∷ 0 ∷ 1 ∷ 0 ∷ 1 ∷ 0 ∷ 0 ∷ 0 ∷ [];
    }
    ∷ []

unfoldable pub set_calls : List Case
set_calls = rows ++ (sweeps ++ (records ++ (verdicts ++ (places ++ moves))))
