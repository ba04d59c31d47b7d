-- What a lookup of the chosen domain tells in the run and in the struck-out run. Document 01 does not ask for it: how many ways a lookup visits is in no
-- answer, but in a cache it would show in time.
use Rattle.std.specs.Prelude.{◌≡◌, Bool, true, cond, ◌&&◌, List, [], ◌∷◌, ℕ, ◌<◌, eqb, leb}
use Rattle.row.specs.Calls.{lookup_of, visited_of}
use Rattle.domains.specs.Domains.{domain_of, maps_of}
use Rattle.geometry.specs.Geometry.{within}
use Rattle.geometry.specs.declared.Geometry.{Geometry}
use Rattle.geometry.specs.Address.{set_of, tag_of}
use Rattle.steps.specs.Tables.{row_at}
use Rattle.steps.specs.Step.{State}
use Rattle.steps.specs.Run.{step_on, finally}
use Rattle.steps.specs.Fresh.{fresh}
use Rattle.command.specs.Command.{Command}
use Rattle.command.specs.declared.Answer.{Answer}
use Rattle.purge.specs.Purge.{belongs, purge}
use Rattle.isolation.specs.StruckOut.{number_of}

-- A domain's lookup of an address: what it answers, and how many ways it visits.
unfoldable pub lookup_at : Geometry → ℕ → ℕ → State → Answer
lookup_at g d address s = lookup_of (maps_of (domain_of s.domains d)) (tag_of g address) (row_at g.ways (set_of g address) s.tables)

unfoldable pub visited_at : Geometry → ℕ → ℕ → State → ℕ
visited_at g d address s = visited_of (maps_of (domain_of s.domains d)) (tag_of g address) (row_at g.ways (set_of g address) s.tables)

-- How many ways a step's lookup visits: none where the step is refused, or is no access or flush (kinds 0 to 3).
unfoldable pub visits_of : Geometry → Command → State → ℕ
visits_of g c s = cond (leb c.kind 3 && eqb (number_of (step_on g c s).answer) 0) (visited_at g c.domain c.argument s) 0

-- Of a run, what is said of each step that passes a test, in the state before it.
module _ {A : Type 0} where
  unfoldable pub along : Geometry → (Command → Bool) → (Command → State → A) → List Command → State → List A
  along g p f [] s = []
  along g p f (c ∷ cs) s = cond (p c) (f c s ∷ along g p f cs (step_on g c s).state) (along g p f cs (step_on g c s).state)

-- The numbers of the steps that belong to the chosen domain, first to last.
unfoldable pub own_visits : Geometry → ℕ → List Command → State → List ℕ
own_visits g d cs s = along g (belongs d) (visits_of g) cs s

-- In a run and in the run of its purge, each from a fresh cache: the chosen domain's steps visit as many ways, one after the other; and after both, its
-- lookup of any address is the same.
pub record SameLookups (g : Geometry) (d : ℕ) (cs : List Command) : Type 0 where
  pub visits_same : own_visits g d cs (fresh g) ≡ own_visits g d (purge d cs) (fresh g)
  pub answer_same : (address : ℕ) → lookup_at g d address (finally g cs (fresh g)) ≡ lookup_at g d address (finally g (purge d cs) (fresh g))
  pub visited_same : (address : ℕ) → visited_at g d address (finally g cs (fresh g)) ≡ visited_at g d address (finally g (purge d cs) (fresh g))

-- So it is for every geometry within the limits, every domain and every list of steps.
abbrev pub Lookups : Type 0
Lookups = (g : Geometry) → within g ≡ true → (d : ℕ) → d < 16 → (cs : List Command) → SameLookups g d cs
