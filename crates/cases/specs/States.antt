-- Lent states: caches, steps, and a step on tables, policies and counts as they are written out, with the answer and the whole state after it, so that a
-- case also says what does not move.
use Rattle.std.specs.Prelude.{List, [], ◌∷◌, ◌++◌, ℕ, ◌+◌, ◌-◌, ◌*◌, length, replicate}
use Rattle.command.specs.Command.{Command}
use Rattle.geometry.specs.declared.Geometry.{Geometry}
use Rattle.domains.specs.Domains.{no_domain}
use Rattle.domains.specs.declared.Domain.{Domain}
use Rattle.steps.specs.Step.{State, Outcome, tables_of}
use Rattle.steps.specs.Run.{step_on}
use Rattle.steps.specs.Fresh.{fresh}
use Rattle.cases.specs.Case.{Case}

-- ---- Caches and steps

-- S sets of W ways, under Tree-PLRU, under NRU and under true LRU.
abbrev pub plru : ℕ → ℕ → Geometry
plru S W = record { sets = S; ways = W; rule = 0 }

abbrev pub nru : ℕ → ℕ → Geometry
nru S W = record { sets = S; ways = W; rule = 1 }

abbrev pub lru : ℕ → ℕ → Geometry
lru S W = record { sets = S; ways = W; rule = 2 }

-- A domain fetches, loads, stores or flushes at an address, or takes a hit map and a fill map.
abbrev pub fetches : ℕ → ℕ → Command
fetches d address = record { domain = d; kind = 0; argument = address }

abbrev pub loads : ℕ → ℕ → Command
loads d address = record { domain = d; kind = 1; argument = address }

abbrev pub stores : ℕ → ℕ → Command
stores d address = record { domain = d; kind = 2; argument = address }

abbrev pub flushes : ℕ → ℕ → Command
flushes d address = record { domain = d; kind = 3; argument = address }

abbrev pub takes : ℕ → ℕ → ℕ → Command
takes d hit_map fill_map = record { domain = d; kind = 16; argument = hit_map + 65536 * fill_map }

-- The address of a line. In a cache of one set a line's number is its tag.
abbrev pub line : ℕ → ℕ
line n = 64 * n

-- ---- States

-- A domain: hit map, fill map, and the counts of hits, misses, evicted, written back, flushed, fills and dropped.
abbrev pub domain : ℕ → ℕ → ℕ → ℕ → ℕ → ℕ → ℕ → ℕ → ℕ → Domain
domain hit_map fill_map hits misses evicted written flushed fills dropped = record {
  hit = hit_map;
  fill = fill_map;
  counts = record { hits = hits; misses = misses; evicted = evicted; written = written; flushed = flushed; fills = fills; dropped = dropped };
}

-- Tags, valid maps, dirty maps, replacement words, and the domains from 0 on; the domains that are not named have nothing.
abbrev pub state : List ℕ → List ℕ → List ℕ → List ℕ → List Domain → State
state tags valid dirty words domains = record {
  tables = tables_of tags valid dirty words;
  domains = record { records = domains ++ replicate (16 - length domains) no_domain };
}

-- The same of a cache of one set: tags, valid map, dirty map, replacement word, domains.
abbrev pub row : List ℕ → ℕ → ℕ → ℕ → List Domain → State
row tags valid dirty word = state tags (valid ∷ []) (dirty ∷ []) (word ∷ [])

-- All numbers of domains, of a state, and of an answer with a state.
abbrev domain_numbers : List Domain → List ℕ
domain_numbers [] = []
domain_numbers (x ∷ xs) =
    let c = x.counts in
    x.hit ∷ x.fill ∷ c.hits ∷ c.misses ∷ c.evicted ∷ c.written ∷ c.flushed ∷ c.fills ∷ c.dropped ∷ domain_numbers xs

abbrev pub state_numbers : State → List ℕ
state_numbers s =
    let t = s.tables in
    t.tags ++ (t.valid ++ (t.dirty ++ (t.words ++ domain_numbers s.domains.records)))

abbrev numbers : Outcome → List ℕ
numbers o = o.answer ++ state_numbers o.state

-- ---- Cases

-- A cache, a step, the state before it, its answer, and the state after it.
abbrev pub after : Geometry → Command → State → List ℕ → State → Case
after g c before answer next = record {
  given = numbers (step_on g c before);
  printed = numbers (record { answer = answer; state = next });
}

-- A cache, a step that moves nothing, the state before and after it, and its answer.
abbrev pub still : Geometry → Command → State → List ℕ → Case
still g c before answer = after g c before answer before

-- A cache that is fresh, and its state.
abbrev pub begins : Geometry → State → Case
begins g s = record { given = state_numbers (fresh g); printed = state_numbers s }
