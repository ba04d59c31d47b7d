-- Document 01, "The struck-out run", for a reader who knows nothing of how the product is built. Used of the product are `step`, the definition
-- that the contract of the cache's `step` cites, the records of numbers and lists that a step takes and gives, and the one number of sets that
-- limits them, `max_sets`; the rest is written out here.
use Rattle.std.specs.Prelude.{◌≡◌, Bool, true, cond, not, ◌&&◌, List, [], ◌∷◌, ℕ, zero, suc, ◌+◌, ◌-◌, ◌*◌, ◌^◌, ◌≤◌, ◌<◌, eqb, ltb, length, get_or, replicate}
use Rattle.command.specs.Command.{Command}
use Rattle.geometry.specs.Geometry.{max_sets}
use Rattle.geometry.specs.declared.Geometry.{Geometry}
use Rattle.domains.specs.declared.Domain.{Domain}
use Rattle.steps.specs.Step.{State, step}
use Rattle.demand.specs.Free.{digit, is_free}
use Rattle.demand.specs.Order.{fresh_word, is_order, place_of}

-- ---- Geometry, and a fresh cache

-- "Sets S: a power of two", and by document 02, job 3, "S goes up to 4,096". "Ways W: 2, 4, 8 or 16. Rule: 0 Tree-PLRU, 1 NRU", and true LRU is
-- rule 2.
pub record Limits (g : Geometry) : Type 0 where
  pub sets_log : ℕ
  pub sets_power : g.sets ≡ 2 ^ sets_log
  pub sets_most : g.sets ≤ max_sets
  pub ways_log : ℕ
  pub ways_power : g.ways ≡ 2 ^ ways_log
  pub ways_least : 2 ≤ g.ways
  pub ways_most : g.ways ≤ 16
  pub rule_known : g.rule < 3

-- A domain without ways and counts.
abbrev pub empty_domain : Domain
empty_domain = record {
  hit = 0;
  fill = 0;
  counts = record { hits = 0; misses = 0; evicted = 0; written = 0; flushed = 0; fills = 0; dropped = 0 };
}

-- "Fresh: all zero, except that under NRU the low W bits of each replacement word are one", and under true LRU "place k holds way W − 1 − k".
-- "All policies and counts are zero."
unfoldable pub fresh : Geometry → State
fresh g = record {
  tables = record {
    tags = replicate (g.sets * g.ways) 0;
    valid = replicate g.sets 0;
    dirty = replicate g.sets 0;
    words = replicate g.sets (cond (eqb g.rule 1) (2 ^ g.ways - 1) (cond (eqb g.rule 2) (fresh_word g.ways) 0));
  };
  domains = record { records = replicate 16 empty_domain };
}

-- ---- The run, and the struck-out list

-- A step with what it answered.
pub record Event : Type 0 where
  pub command : Command
  pub answer : List ℕ

-- "each later step gets those that the step before it left, turned down or not": what happens in a run, and what its last step leaves.
unfoldable pub events : Geometry → List Command → State → List Event
events g [] s = []
events g (c ∷ cs) s =
    let o = step g c.domain c.kind c.argument s in
    record { command = c; answer = o.answer } ∷ events g cs o.state

unfoldable pub end : Geometry → List Command → State → State
end g [] s = s
end g (c ∷ cs) s = end g cs (step g c.domain c.kind c.argument s).state

-- "The struck-out list is the same list in its order, without the accesses and flushes (kinds 0 to 3) that belong to another domain; every other
-- step stays."
unfoldable pub struck_out : ℕ → List Command → List Command
struck_out d [] = []
struck_out d (c ∷ cs) = cond (ltb c.kind 4 && not (eqb c.domain d)) (struck_out d cs) (c ∷ struck_out d cs)

-- ---- What the chosen domain is told

-- "the whole answers to the steps that belong to the chosen domain, first to last, refusal numbers too"
unfoldable pub own_answers : ℕ → List Event → List (List ℕ)
own_answers d [] = []
own_answers d (e ∷ es) = cond (eqb e.command.domain d) (e.answer ∷ own_answers d es) (own_answers d es)

-- "whether it is accepted, and the number if it is not": word 7 is `refused`, and its number follows.
pub data Verdict : Type 0 where
  accepted : Verdict
  refused : ℕ → Verdict

unfoldable pub verdict_of : List ℕ → Verdict
verdict_of answer = cond (eqb (get_or answer 0 0) 7) (refused (get_or answer 1 0)) accepted

-- "for each policy change of another domain": kind 16.
unfoldable pub verdicts : ℕ → List Event → List Verdict
verdicts d [] = []
verdicts d (e ∷ es) =
    cond (eqb e.command.kind 16 && not (eqb e.command.domain d)) (verdict_of e.answer ∷ verdicts d es) (verdicts d es)

-- ---- What the chosen domain sees at the end

-- "both its maps and all its counts"
unfoldable pub domain_at : ℕ → State → Domain
domain_at d s = get_or s.domains.records d empty_domain

-- f 0, f 1 and so on, n of them.
module _ {A : Type 0} where
  unfoldable pub each : ℕ → (ℕ → A) → List A
  each zero f = []
  each (suc n) f = f 0 ∷ each n (λ i. f (suc i))

-- "in every set, the valid bit, dirty bit and tag of each of its ways, which are the ways in its hit map at that moment": the tag of way w in set s
-- stands at place s × W + w. Nothing for another way.
unfoldable pub lines : Geometry → ℕ → State → List (List (List ℕ))
lines g d s =
    each g.sets (λ set. each g.ways (λ w.
    cond (eqb (digit (domain_at d s).hit w) 1)
    (digit (get_or s.tables.valid set 0) w ∷ digit (get_or s.tables.dirty set 0) w ∷ get_or s.tables.tags (set * g.ways + w) 0 ∷ []) []))

-- "A domain's own replacement bits are its free nodes, or the NRU bits of its fill map." Node i is bit i. Under true LRU no bit is anybody's.
unfoldable pub is_own : Geometry → ℕ → ℕ → Bool
is_own g fill i = cond (eqb g.rule 1) (eqb (digit fill i) 1) (eqb g.rule 0 && is_free g.ways fill i)

-- "and its own replacement bits", in every set. Nothing for another bit.
unfoldable pub bits : Geometry → ℕ → State → List (List (List ℕ))
bits g d s =
    each g.sets (λ set. each g.ways (λ i. cond (is_own g (domain_at d s).fill i) (digit (get_or s.tables.words set 0) i ∷ []) []))

-- Under true LRU "a domain's own replacement data is the relative order of its fill ways": of each two ways of its fill map, whether the first stands
-- before the second.
unfoldable pub is_pair : Geometry → ℕ → ℕ → ℕ → Bool
is_pair g fill v w = eqb g.rule 2 && (eqb (digit fill v) 1 && eqb (digit fill w) 1)

-- In every set, for each way and each other. Nothing for another pair.
unfoldable pub pairs : Geometry → ℕ → State → List (List (List (List Bool)))
pairs g d s =
    each g.sets (λ set. each g.ways (λ v. each g.ways (λ w.
    let x = get_or s.tables.words set 0 in
    cond (is_pair g (domain_at d s).fill v w) (ltb (place_of g.ways x v) (place_of g.ways x w) ∷ []) [])))

-- All that is equal in both runs.
pub record Seen : Type 0 where
  pub answers : List (List ℕ)
  pub verdicts : List Verdict
  pub domain : Domain
  pub lines : List (List (List ℕ))
  pub bits : List (List (List ℕ))
  pub pairs : List (List (List (List Bool)))

unfoldable pub seen : Geometry → ℕ → List Event → State → Seen
seen g d es s = record {
  answers = own_answers d es;
  verdicts = verdicts d es;
  domain = domain_at d s;
  lines = lines g d s;
  bits = bits g d s;
  pairs = pairs g d s;
}

-- What the chosen domain is told and sees in the run of a list from a fresh cache.
unfoldable pub seen_in : Geometry → ℕ → List Command → Seen
seen_in g d cs = seen g d (events g cs (fresh g)) (end g cs (fresh g))

-- ---- The claim

-- Nothing is compared that is not there: the tables have their lengths, there are sixteen domains, and the chosen domain's ways are ways of the
-- cache, with its fill map a part of its hit map. Under true LRU every word holds an order, so that none is read as fresh.
pub record WellFormed (g : Geometry) (d : ℕ) (s : State) : Type 0 where
  pub tags_long : length s.tables.tags ≡ g.sets * g.ways
  pub valid_long : length s.tables.valid ≡ g.sets
  pub dirty_long : length s.tables.dirty ≡ g.sets
  pub words_long : length s.tables.words ≡ g.sets
  pub sixteen : length s.domains.records ≡ 16
  pub hit_within : (w : ℕ) → digit (domain_at d s).hit w ≡ 1 → w < g.ways
  pub fill_part : (w : ℕ) → digit (domain_at d s).fill w ≡ 1 → digit (domain_at d s).hit w ≡ 1
  pub orders : g.rule ≡ 2 → (set : ℕ) → set < g.sets → is_order g.ways (get_or s.tables.words set 0) ≡ true

-- The chosen domain is told and sees the same in the runs of two lists, each from a fresh cache.
pub record Indistinguishable (g : Geometry) (d : ℕ) (cs ds : List Command) : Type 0 where
  pub same : seen_in g d cs ≡ seen_in g d ds
  pub well_formed : WellFormed g d (end g cs (fresh g))
  pub well_formed_too : WellFormed g d (end g ds (fresh g))

-- Demand 3 of a list of steps: a list and its struck-out list.
abbrev pub Demand : Geometry → ℕ → List Command → Type 0
Demand g d cs = Indistinguishable g d cs (struck_out d cs)

-- Demand 3: so it is for every geometry within the limits, every domain, and every list of steps of any length, whatever domains, kinds and arguments
-- they have.
abbrev pub Demand3 : Type 0
Demand3 = (g : Geometry) → Limits g → (d : ℕ) → d < 16 → (cs : List Command) → Demand g d cs
