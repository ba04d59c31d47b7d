-- Document 01, "Steps": what a step answers, and the tables, policies and counts after it.
use Rattle.std.specs.Prelude.{cond, List, ℕ, eqb}
use Rattle.replacement.specs.Rule.{rule_of}
use Rattle.command.specs.Answer.{answer_of}
use Rattle.row.specs.Row as Row
use Rattle.row.specs.Row.{Row, Effect}
use Rattle.sweep.specs.Clean.{drop_ways, dropped, dropped_dirty, cleaned}
use Rattle.policy.specs.Policy.{as_read, new_maps}
use Rattle.policy.specs.declared.Maps.{Maps}
use Rattle.command.specs.declared.Answer.{Answer}
use Rattle.command.specs.declared.Answer.TheVariants.{Policy, Refused}
use Rattle.domains.specs.Domains.{domain_of, policies, put_domain, used_domain, new_domain}
use Rattle.command.specs.Kind.{Kind, access, flush, policy, unknown, kind_of}
use Rattle.verdict.specs.Refusal.{held_elsewhere, refusal}
use Rattle.geometry.specs.declared.Geometry.{Geometry}
use Rattle.domains.specs.declared.Domains.{Domains}
use Rattle.geometry.specs.Address.{set_of, tag_of}
use Rattle.steps.specs.Tables.{Tables, lengths, row_at, put_row, each_set, total}

-- What a step finds and leaves.
pub record State : Type 0 where
  pub tables : Tables
  pub domains : Domains

-- Its answer, as document 01 words it, and what it leaves.
pub record Outcome : Type 0 where
  pub answer : List ℕ
  pub state : State

abbrev pub answers : Answer → State → Outcome
answers a s = record { answer = answer_of a; state = s }

-- ---- Access and flush: the work on the row of one set, and the counts

-- The state after a domain's step on one set.
unfoldable pub on_set : Geometry → ℕ → ℕ → Effect → State → Outcome
on_set g d set e s = answers e.answer (record {
  tables = put_row g.ways set e.row s.tables;
  domains = put_domain d (used_domain e.answer (domain_of s.domains d)) s.domains;
})

-- What the step does to the row of its address's set.
unfoldable pub row_effect : Geometry → (Maps → ℕ → Row → Effect) → ℕ → ℕ → State → Effect
row_effect g work d address s =
    work (policies g.ways s.domains d) (tag_of g address) (row_at g.ways (set_of g address) s.tables)

unfoldable pub use_line : Geometry → (Maps → ℕ → Row → Effect) → ℕ → ℕ → State → Outcome
use_line g work d address s = on_set g d (set_of g address) (row_effect g work d address s) s

-- ---- Policy

-- "the number of valid lines dropped", in all sets.
unfoldable pub dropped_by : Geometry → ℕ → ℕ → State → ℕ
dropped_by g d arg s =
    total g.ways g.sets (dropped (policies g.ways s.domains d) (as_read g.ways (new_maps arg))) s.tables

-- "Ways in exactly one of the old and new hit maps are cleaned in every set", the rule resets every replacement word, and the answer is
-- what was dropped in all. The domain's count of dropped lines rises by as many.
unfoldable pub change_policy : Geometry → ℕ → ℕ → State → Outcome
change_policy g d arg s =
    let W = g.ways in
    let old = policies W s.domains d in
    let new = as_read W (new_maps arg) in
    answers
    (Policy (dropped_by g d arg s) (total W g.sets (dropped_dirty old new) s.tables))
    (record {
      tables = each_set W g.sets (cleaned (rule_of g.rule W) old new) s.tables;
      domains = put_domain d (new_domain arg (dropped_by g d arg s) (domain_of s.domains d)) s.domains;
    })

-- The drops that number 7 looks at, of a change of policy that may yet be turned down: the lines that it would clean, but for those in ways
-- that it would take from another domain. Of a change that number 8 lets pass they are all that it drops (`drops_all`).
unfoldable pub drops_of : Geometry → ℕ → ℕ → State → ℕ
drops_of g d arg s =
    let W = g.ways in
    let p = policies W s.domains in
    total W g.sets (Row.lines_in (drop_ways (p d) (as_read W (new_maps arg)) (held_elsewhere p d))) s.tables

-- ---- A step

unfoldable pub step_by : Kind → Geometry → ℕ → ℕ → State → Outcome
step_by (access store) g d arg s = use_line g (λ p tag. Row.access (rule_of g.rule g.ways) p tag store) d arg s
step_by flush g d arg s = use_line g Row.flush d arg s
step_by policy g d arg s = change_policy g d arg s
step_by unknown g d arg s = answers (Refused 4) s

-- "The answer is the number alone and nothing else moves."
unfoldable pub decided : ℕ → Outcome → State → Outcome
decided n done s = cond (eqb n 0) done (answers (Refused n) s)

-- A step of kind and argument by a domain, of any numbers, on tables, policies and counts of any content.
unfoldable pub step : Geometry → ℕ → ℕ → ℕ → State → Outcome
step g d kind arg s =
    decided
    (refusal g (lengths s.tables) (policies g.ways s.domains) (domain_of s.domains d).counts (drops_of g d arg s) d kind arg)
    (step_by (kind_of kind) g d arg s) s

-- The four lent tables, as the code has them.
abbrev pub tables_of : List ℕ → List ℕ → List ℕ → List ℕ → Tables
tables_of tags valid dirty words = record { tags = tags; valid = valid; dirty = dirty; words = words }
