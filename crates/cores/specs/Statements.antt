-- What is claimed of steps and runs where core records are lent, as closed statements. The theorem of each has its name in small letters, stands in proofs/,
-- and is of exactly that type.
use Rattle.std.specs.Prelude.{◌≡◌, true, false, List, ℕ, ◌%◌, ◌≤◌, length, get_or, set}
use Rattle.command.specs.Command.{Command}
use Rattle.geometry.specs.Geometry.{within}
use Rattle.geometry.specs.declared.Geometry.{Geometry}
use Rattle.selectors.specs.Selectors.{max_cores, no_core, names_core, coreless, records_finally, plain_steps}
use Rattle.selectors.specs.declared.Core.{Core}
use Rattle.steps.specs.Tables.{Tables}
use Rattle.steps.specs.Step.{Outcome}
use Rattle.steps.specs.Run.{step_on, answers_of, finally}
use Rattle.steps.specs.Statements.{Kept}
use Rattle.cores.specs.Step.{Lent, Result, core_step}
use Rattle.cores.specs.Run.{core_answers, core_finally, fresh_lent}
use Rattle.cores.specs.Calls.{result_of, turn_of, turn_is}
use Rattle.cores.specs.declared.Stepped.{Stepped}
use Rattle.cores.specs.declared.Turned.{Turned}

-- ---- Steps that name no core

-- The cache's outcome, with the records as they were.
abbrev pub beside : Lent → Outcome → Result
beside x o = record { answer = o.answer; lent = record { cache = o.state; cores = x.cores } }

-- Where at most 32 records are lent, of any content, a step that names no core is the cache's, on tables and domains of any content too, and leaves the
-- records.
abbrev pub OtherStep : Type 0
OtherStep =
    (g : Geometry) (c : Command) (x : Lent) → names_core c.kind ≡ false → length x.cores ≤ max_cores
    → core_step g c x ≡ beside x (step_on g c x.cache)

-- So the answers of a list of such steps are those of the run without records.
abbrev pub OthersAnswers : Type 0
OthersAnswers =
    (g : Geometry) (cs : List Command) (x : Lent) → coreless cs ≡ true → length x.cores ≤ max_cores
    → core_answers g cs x ≡ answers_of g cs x.cache

-- And so are the tables and domains at its end.
abbrev pub OthersFinally : Type 0
OthersFinally =
    (g : Geometry) (cs : List Command) (x : Lent) → coreless cs ≡ true → length x.cores ≤ max_cores
    → core_finally g cs x ≡ record { cache = finally g cs x.cache; cores = x.cores }

-- ---- A run with cores is a run of the cache

-- A cache such as every run from a fresh one keeps, and no more records than there may be.
pub record Standing (g : Geometry) (limits : within g ≡ true) (x : Lent) : Type 0 where
  pub kept : Kept g limits x.cache
  pub few : length x.cores ≤ max_cores

-- A fresh cache and up to 32 fresh records stand so.
abbrev pub FreshStanding : Type 0
FreshStanding = (g : Geometry) (limits : within g ≡ true) (n : ℕ) → n ≤ max_cores → Standing g limits (fresh_lent g n)

-- What a step leaves stands too, and so does every state that such a run reaches.
abbrev pub StepStanding : Type 0
StepStanding = (g : Geometry) (limits : within g ≡ true) (x : Lent) → Standing g limits x → (c : Command) → Standing g limits (core_step g c x).lent

-- The cache at the end of a list is that of the run, without records, of the cache's steps that the list means, and the records are those of its steps
-- alone.
abbrev pub RunPlain : Type 0
RunPlain =
    (g : Geometry) (limits : within g ≡ true) (cs : List Command) (x : Lent) → Standing g limits x
    → core_finally g cs x ≡ record { cache = finally g (plain_steps x.cores cs) x.cache; cores = records_finally x.cores cs }

-- ---- The step for callers that keep the records by value

-- With the named core's record put back, `turn` is the step.
abbrev pub TurnedStep : Type 0
TurnedStep =
    (g : Geometry) (c : Command) (x : Lent) (r : Turned) (t : Tables)
    → turn_is r t ≡ turn_of g c (length x.cores) (get_or x.cores c.domain no_core) x.cache
    → result_of r.stepped t (set x.cores c.domain r.core) ≡ core_step g c x

-- The same of a list of 32 records, at the core's number modulo 32: a core that is not in the list leaves what stands there.
abbrev pub PlacedStep : Type 0
PlacedStep =
    (g : Geometry) (c : Command) (x : Lent) → length x.cores ≡ max_cores → (p : ℕ) (r : Turned) (t : Tables) → p ≡ c.domain % max_cores
    → turn_is r t ≡ turn_of g c max_cores (get_or x.cores p no_core) x.cache
    → result_of r.stepped t (set x.cores p r.core) ≡ core_step g c x

-- ---- The contracts settle what the calls give

-- What the contract of `step` equates tells any two replies, domains, tables and records apart.
abbrev pub ResultInjective : Type 0
ResultInjective = (p q : Stepped) (t u : Tables) (x y : List Core) → result_of p t x ≡ result_of q u y → (p ≡ q) × (t ≡ u) × (x ≡ y)

-- So does that of `turn`.
abbrev pub TurnInjective : Type 0
TurnInjective = (p q : Turned) (t u : Tables) → turn_is p t ≡ turn_is q u → (p ≡ q) × (t ≡ u)
