-- Document 02, job 5: a step where a list of core records is lent beside the tables. It is the cache's step, by the domain that a selector names; or a write of
-- selectors; or refused.
use Rattle.std.specs.Prelude.{cond, List, [], ◌∷◌, ℕ, eqb, ltb, length}
use Rattle.command.specs.Command.{Command}
use Rattle.command.specs.Answer.{answer_of}
use Rattle.command.specs.declared.Answer.TheVariants.{Refused}
use Rattle.geometry.specs.Geometry.{Lengths, sizes_of}
use Rattle.geometry.specs.declared.Geometry.{Geometry}
use Rattle.selectors.specs.Selectors.{max_cores, Meant, plain, select, refused, meant, records_by}
use Rattle.selectors.specs.declared.Core.{Core}
use Rattle.steps.specs.Tables.{lengths}
use Rattle.steps.specs.Step.{State}
use Rattle.steps.specs.Run.{step_on}

-- What a step finds and leaves: the cache, and the records.
pub record Lent : Type 0 where
  pub cache : State
  pub cores : List Core

-- Its answer, as the documents word it, and what it leaves.
pub record Result : Type 0 where
  pub answer : List ℕ
  pub lent : Lent

-- "An accepted one prints `select` and the three selectors": word 8, after the eight of document 01.
abbrev pub select_answer : Core → List ℕ
select_answer core = 8 ∷ core.cs ∷ core.ds ∷ core.es ∷ []

-- What a step gives by its meaning, in the answer and in the cache.
unfoldable pub answer_by : Meant → Geometry → State → List ℕ
answer_by (plain c) g s = (step_on g c s).answer
answer_by (select core) g s = select_answer core
answer_by (refused n) g s = answer_of (Refused n)

unfoldable pub cache_by : Meant → Geometry → State → State
cache_by (plain c) g s = (step_on g c s).state
cache_by (select core) g s = s
cache_by (refused n) g s = s

-- Numbers 1 and 2, then "11, a list too long", 0 for none: "checked after 2 and before 3".
unfoldable pub lent_refusal : Geometry → Lengths → ℕ → ℕ
lent_refusal g n count = cond (eqb (sizes_of g n) 0) (cond (ltb max_cores count) 11 0) (sizes_of g n)

-- A step, of any numbers, on tables, domains and records of any content and number.
unfoldable pub core_step : Geometry → Command → Lent → Result
core_step g c x =
    let number = lent_refusal g (lengths x.cache.tables) (length x.cores) in
    let m = meant x.cores c in
    cond (eqb number 0)
    (record { answer = answer_by m g x.cache; lent = record { cache = cache_by m g x.cache; cores = records_by m c.domain x.cores } })
    (record { answer = answer_of (Refused number); lent = x })
