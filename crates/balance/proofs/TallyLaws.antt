-- A domain's counts are the tally of its lines.
use mathlib.Core.Path.{◌≡◌, refl, sym, ap, subst, ◌∙◌}
use mathlib.Core.Bool.{Bool, true, false, cond}
use mathlib.Core.List.{List, [], ◌∷◌}
use Prim.Native.Nat.{ℕ, ◌<◌}
use lib.Dec.{eqb}
use borrow.Author.Tests.{eqb-true, eqb-false, eq-eqb, ne_eqb}
use Rattle.waymap.proofs.Booleans.{cases}
use Rattle.replacement.specs.Rule.{Rule, rule_of}
use Rattle.row.specs.Row as Row
use Rattle.row.specs.Row.{Row}
use Rattle.row.proofs.LineLaws.{access_cases}
use Rattle.policy.specs.declared.Maps.{Maps}
use Rattle.command.specs.Answer.{answer_of}
use Rattle.command.specs.Command.{Command}
use Rattle.command.specs.declared.Answer.{Answer}
use Rattle.command.specs.declared.Answer.TheVariants.{Hit, Fill, Evict, Pass, Flush, Absent, Policy, Refused}
use Rattle.domains.specs.Domains.{domain_of, policies, counted, with_drops, new_domain, no_counts}
use Rattle.domains.specs.declared.Counts.{Counts}
use Rattle.domains.specs.declared.Domain.{Domain}
use Rattle.geometry.specs.Geometry.{within}
use Rattle.geometry.specs.Address.{set_of, tag_of}
use Rattle.geometry.specs.declared.Geometry.{Geometry}
use Rattle.steps.specs.Tables.{row_at}
use Rattle.steps.specs.Step.{State, Outcome, on_set, row_effect, use_line, dropped_by, change_policy}
use Rattle.steps.specs.Run.{step_on, answers_of, finally}
use Rattle.steps.specs.Inside.{Whole, line_work}
use Rattle.steps.proofs.StateLaws.{line_domain, line_domain_other, changed_domain, changed_other}
use Rattle.steps.proofs.DidLaws.{Did, turned_down, used, changed, did}
use Rattle.steps.specs.Statements.{Kept}
use Rattle.steps.proofs.RunLaws.{inside, worked, worked_long, kept_lasts}
use Rattle.purge.specs.Purge.{belongs}
use Rattle.balance.specs.Tally.{told, removes, tallied, tally}

-- a dirty mark as it is printed
printed : (b : Bool) → eqb (cond b 1 0) 1 ≡ b
printed true = refl
printed false = refl

-- the answers of an access or a flush
data Line : Answer → Type 0 where
  hits : (w : ℕ) → Line (Hit w)
  fills : (w : ℕ) → Line (Fill w)
  evicts : (w tag : ℕ) (dirty : Bool) → Line (Evict w tag dirty)
  passes : Line Pass
  flushed : (w : ℕ) (dirty : Bool) → Line (Flush w dirty)
  absent : Line Absent

work_line : (flushes store : Bool) (R : Rule) (p : Maps) (tag : ℕ) (r : Row) → Line (line_work flushes R store p tag r).answer
unfolding Row.hit_at Row.fill_at Row.evict_at Row.flush Row.flush_at
work_line true store R p tag r = cases (Row.is_hit r p.hit tag) (λ t. rw t (flushed _ _)) (λ t. rw t absent)
work_line false store R p tag r =
    access_cases R p tag store r r (λ e f. Line e.answer) refl refl refl (λ t. hits _) passes (λ t. fills _) (λ t u. evicts _ _ _)

-- what their lines add is what they add, and none is a removal's
told_line : {a : Answer} (c : Command) (k : Counts) → Line a → (told (answer_of a) k ≡ counted a k) × (removes c (answer_of a) ≡ false)
unfolding told counted removes
told_line c k (hits w) = (refl, refl)
told_line c k (fills w) = (refl, refl)
told_line c k (evicts w tag dirty) = (rw (printed dirty), refl)
told_line c k passes = (refl, refl)
told_line c k (flushed w dirty) = (rw (printed dirty), refl)
told_line c k absent = (refl, refl)

-- ---- one step

module _ (g : Geometry) (limits : within g ≡ true) (d : ℕ) (c : Command) (s : State) (kept : Kept g limits s) where
  abbrev counts : State → Counts
  counts t = (domain_of t.domains d).counts

  -- a change of policy adds what it drops, or removes the domain
  change_line : tallied d c (change_policy g c.domain c.argument s).answer (counts s)
      ≡ cond (belongs d c) (cond (eqb c.argument 0) no_counts (with_drops (dropped_by g c.domain c.argument s) (counts s))) (counts s)
  unfolding tallied told removes change_policy
  change_line = refl

  change_counts : c.domain < 16 → counts (change_policy g c.domain c.argument s).state
      ≡ cond (belongs d c) (cond (eqb c.argument 0) no_counts (with_drops (dropped_by g c.domain c.argument s) (counts s))) (counts s)
  unfolding new_domain
  change_counts k =
      cases (eqb c.domain d)
      (λ t. rw (t, ← (eqb-true c.domain d t)) (ap (λ (x : Domain). x.counts) (changed_domain g c.domain k c.argument s kept.whole)))
      (λ t. rw t (ap (λ (x : Domain). x.counts) (changed_other g c.domain k c.argument s kept.whole d (λ q. eqb-false c.domain d t (sym q)))))

  step_tallied : {o : Outcome} → Did g c s o → counts o.state ≡ tallied d c o.answer (counts s)
  unfolding tallied told removes use_line row_effect on_set
  step_tallied (turned_down n z) = cases (belongs d c) (λ t. rw t) (λ t. rw t)
  step_tallied (used flushes store k few is z) =
      let x = worked g limits s kept c.domain k c.argument flushes store in
      let here = inside g limits s kept c.domain k c.argument in
      let long = worked_long g limits s kept c.domain k c.argument flushes store in
      let line = told_line c (counts s) (work_line flushes store (rule_of g.rule g.ways) (policies g.ways s.domains c.domain)
      (tag_of g c.argument) (row_at g.ways (set_of g c.argument) s.tables)) in
      cases (eqb c.domain d)
      (λ t. let mine : c.domain ≡ d = eqb-true c.domain d t in
      subst (λ (i : ℕ). (domain_of (on_set g c.domain (set_of g c.argument) x s).state.domains i).counts
      ≡ cond (belongs d c) (cond (removes c (answer_of x.answer)) no_counts (told (answer_of x.answer) (counts s))) (counts s))
      mine
      (rw (line_domain g s kept.whole c.domain k (set_of g c.argument) here x long, t, line.1, line.0, mine)))
      (λ t. rw (line_domain_other g s kept.whole c.domain k (set_of g c.argument) here x long d (λ q. eqb-false c.domain d t (sym q)), t))
  step_tallied (changed k is z) = change_counts k ∙ sym change_line

-- ---- a list of steps

module _ (g : Geometry) (limits : within g ≡ true) (d : ℕ) where
  pub run_tallied : (cs : List Command) (s : State) → Kept g limits s
      → (domain_of (finally g cs s).domains d).counts ≡ tally d cs (answers_of g cs s) (domain_of s.domains d).counts
  unfolding finally tally answers_of
  run_tallied [] s kept = refl
  run_tallied (c ∷ cs) s kept =
      run_tallied cs (step_on g c s).state (kept_lasts g limits (c ∷ []) s kept)
      ∙ ap (tally d cs (answers_of g cs (step_on g c s).state)) (step_tallied g limits d c s kept (did g limits c s kept.whole))
