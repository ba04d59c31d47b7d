-- Demand 3 once more: of every set, way, node and pair of ways, one by one.
use Rattle.std.specs.Prelude.{◌≡◌, true, List, ℕ, ◌+◌, ◌*◌, ◌<◌, ltb, length, get_or}
use Rattle.command.specs.Command.{Command}
use Rattle.command.specs.declared.Answer.{Answer}
use Rattle.geometry.specs.Geometry.{within}
use Rattle.geometry.specs.declared.Geometry.{Geometry}
use Rattle.row.specs.Calls.{lookup_of, visited_of}
use Rattle.domains.specs.Domains.{domain_of, maps_of}
use Rattle.geometry.specs.Address.{set_of, tag_of}
use Rattle.steps.specs.Tables.{row_at}
use Rattle.steps.specs.Step.{State}
use Rattle.steps.specs.Run.{finally}
use Rattle.steps.specs.Fresh as Product
use Rattle.purge.specs.Purge.{belongs, purge}
use Rattle.isolation.specs.Lookups.{along, visits_of}
use Rattle.demand.specs.Free.{digit}
use Rattle.demand.specs.Order.{is_order, place_of}
use Rattle.demand.specs.Demand.{fresh, events, end, struck_out, own_answers, verdicts, domain_at, is_own, is_pair}

-- The state after a list of steps from a fresh cache.
abbrev pub after : Geometry → List Command → State
after g cs = end g cs (fresh g)

-- The tables of a state are whole, and the domain's maps are maps of the cache's ways.
pub record Whole (g : Geometry) (d : ℕ) (s : State) : Type 0 where
  pub tags : length s.tables.tags ≡ g.sets * g.ways
  pub valid : length s.tables.valid ≡ g.sets
  pub dirty : length s.tables.dirty ≡ g.sets
  pub words : length s.tables.words ≡ g.sets
  pub domains : length s.domains.records ≡ 16
  pub hit_ways : (w : ℕ) → digit (domain_at d s).hit w ≡ 1 → w < g.ways
  pub fill_ways : (w : ℕ) → digit (domain_at d s).fill w ≡ 1 → digit (domain_at d s).hit w ≡ 1
  pub orders : (set : ℕ) → set < g.sets → g.rule ≡ 2 → is_order g.ways (get_or s.tables.words set 0) ≡ true

-- What the domain is told in the runs of two lists, and what it finds after them.
pub record Unseen (g : Geometry) (d : ℕ) (cs ds : List Command) : Type 0 where
  pub answers : own_answers d (events g cs (fresh g)) ≡ own_answers d (events g ds (fresh g))
  pub numbers : verdicts d (events g cs (fresh g)) ≡ verdicts d (events g ds (fresh g))
  pub domain : domain_at d (after g cs) ≡ domain_at d (after g ds)
  pub valid : (set w : ℕ) → set < g.sets → w < g.ways → digit (domain_at d (after g cs)).hit w ≡ 1
      → digit (get_or (after g cs).tables.valid set 0) w ≡ digit (get_or (after g ds).tables.valid set 0) w
  pub dirty : (set w : ℕ) → set < g.sets → w < g.ways → digit (domain_at d (after g cs)).hit w ≡ 1
      → digit (get_or (after g cs).tables.dirty set 0) w ≡ digit (get_or (after g ds).tables.dirty set 0) w
  pub tags : (set w : ℕ) → set < g.sets → w < g.ways → digit (domain_at d (after g cs)).hit w ≡ 1
      → get_or (after g cs).tables.tags (set * g.ways + w) 0 ≡ get_or (after g ds).tables.tags (set * g.ways + w) 0
  pub bits : (set i : ℕ) → set < g.sets → i < g.ways → is_own g (domain_at d (after g cs)).fill i ≡ true
      → digit (get_or (after g cs).tables.words set 0) i ≡ digit (get_or (after g ds).tables.words set 0) i
  pub pairs : (set v w : ℕ) → set < g.sets → v < g.ways → w < g.ways → is_pair g (domain_at d (after g cs)).fill v w ≡ true
      → ltb (place_of g.ways (get_or (after g cs).tables.words set 0) v) (place_of g.ways (get_or (after g cs).tables.words set 0) w)
      ≡ ltb (place_of g.ways (get_or (after g ds).tables.words set 0) v) (place_of g.ways (get_or (after g ds).tables.words set 0) w)
  pub whole : Whole g d (after g cs)
  pub whole_too : Whole g d (after g ds)

-- Demand 3.
abbrev pub Demanded : Type 0
Demanded = (g : Geometry) → within g ≡ true → (d : ℕ) → d < 16 → (cs : List Command) → Unseen g d cs (struck_out d cs)

-- What a domain's lookup of an address answers after a list of steps, and how many ways it visits: by its stored maps and the row of the address's set.
abbrev pub looks : Geometry → ℕ → ℕ → State → Answer
looks g d address s = lookup_of (maps_of (domain_of s.domains d)) (tag_of g address) (row_at g.ways (set_of g address) s.tables)

abbrev pub visits_now : Geometry → ℕ → ℕ → State → ℕ
visits_now g d address s = visited_of (maps_of (domain_of s.domains d)) (tag_of g address) (row_at g.ways (set_of g address) s.tables)

-- The lookups of two runs: how many ways each of the domain's steps visits; and what its lookup of any address gives at the end.
pub record Looked (g : Geometry) (d : ℕ) (cs ds : List Command) : Type 0 where
  pub visits : along g (belongs d) (visits_of g) cs (Product.fresh g) ≡ along g (belongs d) (visits_of g) ds (Product.fresh g)
  pub answer : (address : ℕ) → looks g d address (finally g cs (Product.fresh g)) ≡ looks g d address (finally g ds (Product.fresh g))
  pub number : (address : ℕ) → visits_now g d address (finally g cs (Product.fresh g)) ≡ visits_now g d address (finally g ds (Product.fresh g))

abbrev pub LookedUp : Type 0
LookedUp = (g : Geometry) → within g ≡ true → (d : ℕ) → d < 16 → (cs : List Command) → Looked g d cs (purge d cs)
