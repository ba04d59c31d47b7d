-- The struck-out run where cores switch, once more: of every set and way, one by one.
use Rattle.std.specs.Prelude.{◌≡◌, Bool, true, not, ◌&&◌, List, map, ℕ, ◌≤◌, ◌<◌, eqb, get_or}
use Rattle.waymap.specs.Bits.{bit}
use Rattle.replacement.specs.Rule.{rule_of}
use Rattle.row.specs.Row.{Row}
use Rattle.command.specs.Command.{Command}
use Rattle.domains.specs.Domains.{domain_of, policies}
use Rattle.geometry.specs.Geometry.{within}
use Rattle.geometry.specs.declared.Geometry.{Geometry}
use Rattle.selectors.specs.Selectors.{max_cores, fresh_cores, plain_steps}
use Rattle.steps.specs.Tables.{row_at}
use Rattle.steps.specs.Step.{State}
use Rattle.purge.specs.Purge.{belongs, core_purge}
use Rattle.isolation.specs.StruckOut.{number_of}
use Rattle.isolation.specs.Lookups.{visits_of, lookup_at, visited_at}
use Rattle.cores.specs.Step.{Lent}
use Rattle.cores.specs.Run.{core_answers, core_finally, fresh_lent}
use Rattle.switching.specs.StruckOut.{own, core_answers_to}
use Rattle.switching.specs.Lookups.{core_along}

-- What a run of a list leaves, where n fresh records are lent to it.
abbrev pub leaves : Geometry → ℕ → List Command → Lent
leaves g n cs = core_finally g cs (fresh_lent g n)

-- A set's row after it.
abbrev pub row_after : Geometry → ℕ → List Command → ℕ → Row
row_after g n cs i = row_at g.ways i (leaves g n cs).cache.tables

-- The way is in the domain's hit map after it; and the answers to the steps whose meaning passes a test.
abbrev pub Mine : Geometry → ℕ → ℕ → List Command → ℕ → Type 0
Mine g d n cs w = bit (policies g.ways (leaves g n cs).cache.domains d).hit w ≡ true

abbrev pub told : Geometry → ℕ → (Command → Bool) → List Command → List (List ℕ)
told g n p cs = core_answers_to p (fresh_cores n) cs (core_answers g cs (fresh_lent g n))

-- Two lists of steps, and a domain: all that it does, is told and finds is the same.
pub record Switched (g : Geometry) (d n : ℕ) (cs ds : List Command) : Type 0 where
  pub steps : own d (plain_steps (fresh_cores n) cs) ≡ own d (plain_steps (fresh_cores n) ds)
  pub answers : told g n (belongs d) cs ≡ told g n (belongs d) ds
  pub numbers : map number_of (told g n (λ c. eqb c.kind 16 && not (belongs d c)) cs)
      ≡ map number_of (told g n (λ c. eqb c.kind 16 && not (belongs d c)) ds)
  pub domain : domain_of (leaves g n cs).cache.domains d ≡ domain_of (leaves g n ds).cache.domains d
  pub valid : (i w : ℕ) → i < g.sets → Mine g d n cs w → bit (row_after g n cs i).valid w ≡ bit (row_after g n ds i).valid w
  pub dirty : (i w : ℕ) → i < g.sets → Mine g d n cs w → bit (row_after g n cs i).dirty w ≡ bit (row_after g n ds i).dirty w
  pub tags : (i w : ℕ) → i < g.sets → Mine g d n cs w → get_or (row_after g n cs i).tags w 0 ≡ get_or (row_after g n ds i).tags w 0
  pub cells : (i : ℕ) → i < g.sets → (c : (rule_of g.rule g.ways).Cell)
      → (rule_of g.rule g.ways).own (policies g.ways (leaves g n cs).cache.domains d).fill c ≡ true
      → (rule_of g.rule g.ways).view (row_after g n cs i).word c ≡ (rule_of g.rule g.ways).view (row_after g n ds i).word c
  pub records : (leaves g n cs).cores ≡ (leaves g n ds).cores
  pub visits : core_along g (belongs d) (visits_of g) cs (fresh_lent g n) ≡ core_along g (belongs d) (visits_of g) ds (fresh_lent g n)
  pub lookups : (address : ℕ) → lookup_at g d address (leaves g n cs).cache ≡ lookup_at g d address (leaves g n ds).cache
  pub visited : (address : ℕ) → visited_at g d address (leaves g n cs).cache ≡ visited_at g d address (leaves g n ds).cache

-- So it is of a list and its struck-out list, for any number of records up to 32.
abbrev pub Struck : Type 0
Struck =
    (g : Geometry) → within g ≡ true → (d : ℕ) → d < 16 → (n : ℕ) → n ≤ max_cores → (cs : List Command)
    → Switched g d n cs (core_purge d (fresh_cores n) cs)
