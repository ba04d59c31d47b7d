-- What a step does, given the record of the domain that steps: what the calls of a step go by.
use Rattle.std.specs.Prelude.{◌≡◌, cond, List, ℕ, eqb}
use Rattle.replacement.specs.Rule.{rule_of}
use Rattle.waymap.specs.Bits.{Bits}
use Rattle.row.specs.Row.{Row, Effect, lines_in}
use Rattle.row.specs.Calls.{use_of}
use Rattle.policy.specs.Policy.{as_read, new_maps}
use Rattle.policy.specs.declared.Maps.{Maps}
use Rattle.sweep.specs.Clean.{drop_ways, dropped, dropped_dirty, cleaned}
use Rattle.sweep.specs.Sweep.{sweep_by}
use Rattle.sweep.specs.Drops.{drops_in}
use Rattle.sweep.specs.Number.{lines_among}
use Rattle.sweep.specs.declared.Sweep.{Sweep}
use Rattle.sweep.specs.declared.Drops.{Drops}
use Rattle.command.specs.declared.Answer.{Answer}
use Rattle.command.specs.declared.Answer.TheVariants.{Policy, Refused}
use Rattle.command.specs.declared.LineUse.{LineUse}
use Rattle.domains.specs.Domains.{maps_of, put_domain, used_domain, new_domain}
use Rattle.domains.specs.Calls.{read_by}
use Rattle.domains.specs.declared.Domain.{Domain}
use Rattle.domains.specs.declared.Domains.{Domains}
use Rattle.domains.specs.declared.Policies.{Policies}
use Rattle.verdict.specs.Refusal.{held_elsewhere, use_refusal}
use Rattle.verdict.specs.Calls.{policy_refusal_of}
use Rattle.geometry.specs.Address.{set_of, tag_of}
use Rattle.geometry.specs.declared.Geometry.{Geometry}
use Rattle.steps.specs.Tables.{Tables, row_at, put_row, each_set, total}
use Rattle.steps.specs.Step.{Outcome, answers}

-- ---- The work on the tables

-- An answer with the tables that the work leaves.
pub record Work : Type 0 where
  pub answer : Answer
  pub tables : Tables

abbrev pub RowWork : Answer → Tables → Work → Type 0
RowWork a t w = record { answer = a; tables = t } ≡ w

-- The work on one set's row, put back.
unfoldable pub on_row : ℕ → ℕ → (Row → Effect) → Tables → Work
on_row W s f t = record { answer = (f (row_at W s t)).answer; tables = put_row W s (f (row_at W s t)).row t }

unfoldable pub work_at : Geometry → LineUse → Maps → ℕ → Tables → Work
work_at g u p address t = on_row g.ways (set_of g address) (use_of u g.rule p (tag_of g address)) t

-- The drops of a sweep in a set.
abbrev pub drops_by_sweep : Sweep → Row → Drops
drops_by_sweep s r = drops_in (sweep_by s r).answer

-- What the sweep of the first n sets leaves and tells.
pub record AllSwept (g : Geometry) (s : Sweep) (n : ℕ) (before after : Tables) (drops dirt : ℕ) : Type 0 where
  pub tables_is : after ≡ each_set g.ways n (λ r. (sweep_by s r).row) before
  pub dropped_is : drops ≡ total g.ways n (λ r. (drops_by_sweep s r).dropped) before
  pub dirty_is : dirt ≡ total g.ways n (λ r. (drops_by_sweep s r).dirty) before

-- ---- A step of one domain

-- What a step answers, the record of the domain after it, and the tables.
pub record Deed : Type 0 where
  pub answer : Answer
  pub own : Domain
  pub tables : Tables

-- A number that is not 0 turns the step down, and nothing moves.
unfoldable pub unless : ℕ → Domain → Tables → Deed → Deed
unless n x t done = cond (eqb n 0) done (record { answer = Refused n; own = x; tables = t })

unfoldable pub line_deed : Geometry → Domain → LineUse → ℕ → Tables → Deed
line_deed g x u arg t =
    let w = work_at g u (maps_of x) arg t in
    unless (use_refusal (as_read g.ways (maps_of x)) x.counts) x t
    (record { answer = w.answer; own = used_domain w.answer x; tables = w.tables })

-- The drops that number 7 looks at, from the valid maps and from the tables.
unfoldable pub drop_map : ℕ → Maps → Policies → ℕ → ℕ → Bits
drop_map W old p d arg = drop_ways (as_read W old) (as_read W (new_maps arg)) (held_elsewhere (read_by W p) d)

unfoldable pub drops_among : ℕ → Maps → Policies → ℕ → ℕ → List ℕ → ℕ
drops_among W old p d arg valid = lines_among (drop_map W old p d arg) valid

unfoldable pub drops_by : Geometry → Domain → Policies → ℕ → ℕ → Tables → ℕ
drops_by g x p d arg t = total g.ways g.sets (lines_in (drop_map g.ways (maps_of x) p d arg)) t

unfoldable pub policy_deed : Geometry → Domain → Policies → ℕ → ℕ → Tables → Deed
policy_deed g x p d arg t =
    let W = g.ways in
    let old = as_read W (maps_of x) in
    let new = as_read W (new_maps arg) in
    let n = total W g.sets (dropped old new) t in
    unless (policy_refusal_of g p x.counts (drops_by g x p d arg t) d arg) x t
    (record {
      answer = Policy n (total W g.sets (dropped_dirty old new) t);
      own = new_domain arg n x;
      tables = each_set W g.sets (cleaned (rule_of g.rule W) old new) t;
    })

-- The deed of domain d, its record put back among the domains.
unfoldable pub put_deed : ℕ → Deed → Domains → Outcome
put_deed d deed ds = answers deed.answer (record { tables = deed.tables; domains = put_domain d deed.own ds })
