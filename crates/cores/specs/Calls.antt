-- What the two calls of a step give.
use Rattle.std.specs.Prelude.{cond, List, ℕ, eqb, ltb}
use Rattle.command.specs.Command.{Command}
use Rattle.command.specs.Answer.{answer_of}
use Rattle.command.specs.declared.Answer.TheVariants.{Refused}
use Rattle.domains.specs.declared.Domains.{Domains}
use Rattle.geometry.specs.declared.Geometry.{Geometry}
use Rattle.selectors.specs.Selectors.{meant_by, record_by}
use Rattle.selectors.specs.declared.Core.{Core}
use Rattle.steps.specs.Tables.{Tables, lengths}
use Rattle.steps.specs.Step.{State}
use Rattle.cores.specs.Step.{Lent, Result, select_answer, answer_by, cache_by, lent_refusal}
use Rattle.cores.specs.declared.Reply.{Reply}
use Rattle.cores.specs.declared.Reply.TheVariants.{Cache, Select}
use Rattle.cores.specs.declared.Stepped.{Stepped}
use Rattle.cores.specs.declared.Turned.{Turned}

-- The word and values of what a step answers.
abbrev pub reply_of : Reply → List ℕ
reply_of (Cache a) = answer_of a
reply_of (Select core) = select_answer core

-- The lent tables, domains and records.
abbrev pub lent_of : Tables → Domains → List Core → Lent
lent_of t d cores = record { cache = record { tables = t; domains = d }; cores = cores }

-- Of `step`: its answer, the domains it gives back, the lent tables and the lent records, as a result of `core_step`.
abbrev pub result_of : Stepped → Tables → List Core → Result
result_of r t cores = record { answer = reply_of r.reply; lent = lent_of t r.domains cores }

-- ---- the step of one core's record: how many records there are and the record of the core that is named are given

-- The answer, the cache after the step, and that record after it.
pub record Turn : Type 0 where
  pub answer : List ℕ
  pub cache : State
  pub core : Core

-- It is `core_step` by these alone. Laws `turned_step`, `placed_step`: with the record put back where it was, it is `core_step`.
unfoldable pub turn_of : Geometry → Command → ℕ → Core → State → Turn
turn_of g c count core s =
    let number = lent_refusal g (lengths s.tables) count in
    let m = meant_by (ltb c.domain count) core c in
    cond (eqb number 0)
    (record { answer = answer_by m g s; cache = cache_by m g s; core = record_by m core })
    (record { answer = answer_of (Refused number); cache = s; core = core })

-- Of `turn`: its answer, the domains and the record it gives back, and the lent tables.
abbrev pub turn_is : Turned → Tables → Turn
turn_is r t = record { answer = reply_of r.stepped.reply; cache = record { tables = t; domains = r.stepped.domains }; core = r.core }
