-- A count of hits is never beyond the largest number that it can be.
use mathlib.Core.Path.{◌≡◌, sym, subst}
use mathlib.Core.Bool.{Bool, true}
use mathlib.Core.List.{List}
use Prim.Native.Nat.{ℕ, ◌+◌, ◌≤◌, ◌<◌}
use native.Mathlib.Omega.{arith}
use lib.Dec.{eqb}
use lib.ListN.{length}
use borrow.Author.Tests.{eqb-true, eqb-false}
use Rattle.waymap.proofs.Booleans.{cases}
use Rattle.replacement.specs.Rule.{rule_of}
use Rattle.row.specs.Row.{Effect}
use Rattle.command.specs.Command.{Command}
use Rattle.command.specs.declared.Answer.{Answer}
use Rattle.command.specs.declared.Answer.TheVariants.{Hit, Fill, Evict, Pass, Flush, Absent, Policy, Refused}
use Rattle.domains.specs.Domains.{domain_of, policies, counted, with_drops, new_domain}
use Rattle.domains.specs.declared.Counts.{Counts}
use Rattle.domains.specs.declared.Domain.{Domain}
use Rattle.domains.proofs.CountLaws.{unspent}
use Rattle.verdict.specs.Refusal.{use_refusal}
use Rattle.verdict.proofs.RefusalLaws.{not_full}
use Rattle.geometry.specs.Geometry.{within}
use Rattle.geometry.specs.Address.{set_of}
use Rattle.geometry.specs.declared.Geometry.{Geometry}
use Rattle.steps.specs.Step.{State, row_effect, use_line, dropped_by, change_policy}
use Rattle.steps.specs.Run.{finally}
use Rattle.steps.specs.Fresh.{fresh}
use Rattle.steps.specs.Inside.{change_number, line_work}
use Rattle.steps.proofs.StateLaws.{line_domain, line_domain_other, changed_domain, changed_other}
use Rattle.steps.specs.Statements.{Kept}
use Rattle.steps.proofs.RunLaws.{run_lasts, fresh_kept, fresh_domain, worked, worked_long, line_kept, change_kept, inside}
use Rattle.locking.specs.Once.{HitsFit}

-- the hits of counts fit 32 bits
abbrev Fits : Counts → Type 0
Fits c = c.hits ≤ 4294967295

-- an answer adds one hit at most
one_hit : (a : Answer) (c : Counts) → (counted a c).hits ≤ c.hits + 1
unfolding counted
one_hit (Hit w) c = omega arith
one_hit (Fill w) c = omega arith
one_hit (Evict w tag dirty) c = omega arith
one_hit Pass c = omega arith
one_hit (Flush w dirty) c = omega arith
one_hit Absent c = omega arith
one_hit (Policy dropped dirty) c = omega arith
one_hit (Refused n) c = omega arith

-- a change of policy keeps the counts or makes them zero
new_fits : (arg n : ℕ) (x : Domain) → Fits x.counts → Fits (new_domain arg n x).counts
unfolding new_domain with_drops
new_fits arg n x h = cases (eqb arg 0) (λ t. rw t (omega arith)) (λ t. rw t h)

module _ (g : Geometry) (limits : within g ≡ true) where
  -- every domain's hits fit
  record Fit (s : State) : Type 0 where
    kept : Kept g limits s
    all : (d : ℕ) → Fits (domain_of s.domains d).counts

  -- an access or a flush that is not turned down finds room for one more
  line_fit : (s : State) → Fit s → (e : ℕ) → e < 16 → use_refusal (policies g.ways s.domains e) (domain_of s.domains e).counts ≡ 0
      → (arg : ℕ) (flushes store : Bool) → Fit (use_line g (line_work flushes (rule_of g.rule g.ways) store) e arg s).state
  unfolding use_line row_effect
  line_fit s q e k z arg flushes store = record {
    kept = line_kept g limits s q.kept e k arg flushes store;
    all = λ d.
        cases (eqb d e)
        (λ t. rw (eqb-true d e t, line_domain g s q.kept.whole e k (set_of g arg) (inside g limits s q.kept e k arg) x long) room)
        (λ t. rw (line_domain_other g s q.kept.whole e k (set_of g arg) (inside g limits s q.kept e k arg) x long d (eqb-false d e t)) (q.all d));
  }
    where
      x : Effect
      x = worked g limits s q.kept e k arg flushes store

      long : length x.row.tags ≡ g.ways
      long = worked_long g limits s q.kept e k arg flushes store

      room : Fits (counted x.answer (domain_of s.domains e).counts)
      room =
          let c = (domain_of s.domains e).counts in
          omega (arith, one_hit x.answer c, (unspent c (not_full (policies g.ways s.domains e) c z)).hits, q.all e)

  -- no change of policy adds a hit
  change_fit : (s : State) → Fit s → (e : ℕ) → e < 16 → (arg : ℕ) → change_number g e arg s ≡ 0
      → Fit (change_policy g e arg s).state
  change_fit s q e k arg z = record {
    kept = change_kept g limits s q.kept e k arg z;
    all = λ d.
        cases (eqb d e)
        (λ t. rw (eqb-true d e t, changed_domain g e k arg s q.kept.whole) (new_fits arg (dropped_by g e arg s) (domain_of s.domains e) (q.all e)))
        (λ t. rw (changed_other g e k arg s q.kept.whole d (eqb-false d e t)) (q.all d));
  }

  -- a fresh cache has counted none
  fresh_fit : Fit (fresh g)
  fresh_fit = record { kept = fresh_kept g limits; all = λ d. rw (fresh_domain g limits d) (omega arith) }

  -- so every run keeps it
  run_fit : (cs : List Command) → Fit (finally g cs (fresh g))
  run_fit cs = run_lasts g limits Fit (λ s q. q.kept.whole) line_fit change_fit cs (fresh g) fresh_fit

-- In every state that a run reaches, each domain's hits fit 32 bits.
pub hits_fit : HitsFit
hits_fit g limits s r d low = subst (λ (t : State). Fits (domain_of t.domains d).counts) (sym r.is) ((run_fit g limits r.past).all d)
