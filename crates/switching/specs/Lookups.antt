-- What a lookup of the chosen domain tells in the run and in the struck-out run, where core records are lent. As without them, no document asks for it.
use Rattle.std.specs.Prelude.{◌≡◌, Bool, true, cond, List, [], ◌∷◌, ℕ, ◌≤◌, ◌<◌}
use Rattle.command.specs.Command.{Command}
use Rattle.geometry.specs.Geometry.{within}
use Rattle.geometry.specs.declared.Geometry.{Geometry}
use Rattle.selectors.specs.Selectors.{max_cores, fresh_cores, Meant, plain, select, refused, meant}
use Rattle.steps.specs.Step.{State}
use Rattle.purge.specs.Purge.{belongs, core_purge}
use Rattle.isolation.specs.Lookups.{lookup_at, visited_at, visits_of}
use Rattle.cores.specs.Step.{Lent, core_step}
use Rattle.cores.specs.Run.{core_finally, fresh_lent}

-- Of a run, what is said of each step of the cache that is meant and passes a test, in the cache before it.
module _ {A : Type 0} where
  unfoldable pub along_by : (Command → Bool) → (Command → State → A) → Meant → State → List A → List A
  along_by p f (plain c) s rest = cond (p c) (f c s ∷ rest) rest
  along_by p f (select core) s rest = rest
  along_by p f (refused n) s rest = rest

  unfoldable pub core_along : Geometry → (Command → Bool) → (Command → State → A) → List Command → Lent → List A
  core_along g p f [] x = []
  core_along g p f (c ∷ cs) x = along_by p f (meant x.cores c) x.cache (core_along g p f cs (core_step g c x).lent)

-- How many ways the lookups of the steps visit that belong to the chosen domain at their moment, first to last.
unfoldable pub own_core_visits : Geometry → ℕ → List Command → Lent → List ℕ
own_core_visits g d cs x = core_along g (belongs d) (visits_of g) cs x

-- In both runs the chosen domain's steps visit as many ways, one after the other; and after both, its lookup of any address is the same.
pub record CoreSameLookups (g : Geometry) (d n : ℕ) (cs : List Command) : Type 0 where
  pub visits_same : own_core_visits g d cs (fresh_lent g n) ≡ own_core_visits g d (core_purge d (fresh_cores n) cs) (fresh_lent g n)
  pub answer_same : (address : ℕ)
      → lookup_at g d address (core_finally g cs (fresh_lent g n)).cache
      ≡ lookup_at g d address (core_finally g (core_purge d (fresh_cores n) cs) (fresh_lent g n)).cache
  pub visited_same : (address : ℕ)
      → visited_at g d address (core_finally g cs (fresh_lent g n)).cache
      ≡ visited_at g d address (core_finally g (core_purge d (fresh_cores n) cs) (fresh_lent g n)).cache

-- So it is for every geometry within the limits, every domain, every number of records up to 32, and every list of steps.
abbrev pub CoreLookups : Type 0
CoreLookups = (g : Geometry) → within g ≡ true → (d : ℕ) → d < 16 → (n : ℕ) → n ≤ max_cores → (cs : List Command) → CoreSameLookups g d n cs
