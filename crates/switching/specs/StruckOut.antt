-- What is equal in the run and in the struck-out run, where both are lent equally many fresh core records. Who a step belongs to goes by what it means at
-- that moment of the run: "A step of kinds 32 to 35 belongs to the domain its selector names at that moment." The records are followed from step to step by
-- `records_after`; law `run_plain`: they are those that the run itself has at that moment.
use Rattle.std.specs.Prelude.{◌≡◌, Bool, true, cond, not, ◌&&◌, List, [], ◌∷◌, map, ℕ, ◌≤◌, ◌<◌, eqb}
use Rattle.command.specs.Command.{Command}
use Rattle.geometry.specs.Geometry.{within}
use Rattle.geometry.specs.declared.Geometry.{Geometry}
use Rattle.selectors.specs.Selectors.{max_cores, fresh_cores, meant, means, records_after, plain_steps}
use Rattle.selectors.specs.declared.Core.{Core}
use Rattle.purge.specs.Purge.{belongs, core_purge}
use Rattle.isolation.specs.StruckOut.{number_of, SameTo}
use Rattle.cores.specs.Step.{Lent}
use Rattle.cores.specs.Run.{core_answers, core_finally, fresh_lent}

-- Of the answers of a run, those to the steps that mean a step of the cache which passes a test.
unfoldable pub core_answers_to : (Command → Bool) → List Core → List Command → List (List ℕ) → List (List ℕ)
core_answers_to p cores [] answers = []
core_answers_to p cores (c ∷ cs) [] = []
core_answers_to p cores (c ∷ cs) (a ∷ answers) =
    cond (means p (meant cores c)) (a ∷ core_answers_to p (records_after cores c) cs answers) (core_answers_to p (records_after cores c) cs answers)

-- "the whole answers to the steps that belong to the chosen domain, first to last, refusal numbers too"
unfoldable pub own_core_answers : Geometry → ℕ → List Command → Lent → List (List ℕ)
own_core_answers g d cs x = core_answers_to (belongs d) x.cores cs (core_answers g cs x)

-- "for each policy change of another domain, whether it is accepted, and the number if it is not"
unfoldable pub core_verdicts : Geometry → ℕ → List Command → Lent → List ℕ
core_verdicts g d cs x = map number_of (core_answers_to (λ c. eqb c.kind 16 && not (belongs d c)) x.cores cs (core_answers g cs x))

-- The chosen domain's steps of a list, as they are meant: steps of the cache, by the records at their moment.
unfoldable pub own : ℕ → List Command → List Command
own d [] = []
own d (c ∷ cs) = cond (belongs d c) (c ∷ own d cs) (own d cs)

abbrev pub own_steps : ℕ → List Core → List Command → List Command
own_steps d cores cs = own d (plain_steps cores cs)

-- A list of steps and its purge, each from a fresh cache of the same geometry and n fresh records, are the same to the chosen domain: its steps, as they are
-- meant, are the same list, with the same answers; and the records at the end are the same.
pub record CoreStruckOut (g : Geometry) (d n : ℕ) (cs : List Command) : Type 0 where
  pub steps_same : own_steps d (fresh_cores n) cs ≡ own_steps d (fresh_cores n) (core_purge d (fresh_cores n) cs)
  pub answers_same : own_core_answers g d cs (fresh_lent g n) ≡ own_core_answers g d (core_purge d (fresh_cores n) cs) (fresh_lent g n)
  pub verdicts_same : core_verdicts g d cs (fresh_lent g n) ≡ core_verdicts g d (core_purge d (fresh_cores n) cs) (fresh_lent g n)
  pub finally_same : SameTo g d (core_finally g cs (fresh_lent g n)).cache (core_finally g (core_purge d (fresh_cores n) cs) (fresh_lent g n)).cache
  pub records_same : (core_finally g cs (fresh_lent g n)).cores ≡ (core_finally g (core_purge d (fresh_cores n) cs) (fresh_lent g n)).cores

-- Isolation where cores switch: so it is for every geometry within the limits, every domain, every number of records up to 32, and every list of steps.
abbrev pub Switching : Type 0
Switching = (g : Geometry) → within g ≡ true → (d : ℕ) → d < 16 → (n : ℕ) → n ≤ max_cores → (cs : List Command) → CoreStruckOut g d n cs
