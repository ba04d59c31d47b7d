-- What a step came to: it was turned down, or it used a line, or it changed a policy.
use mathlib.Core.Path.{◌≡◌}
use mathlib.Core.Bool.{Bool, true, false}
use Prim.Native.Nat.{ℕ, ◌<◌}
use native.Mathlib.Omega.{arith}
use lib.Dec.{eqb, leb, ltb}
use borrow.Author.Tests.{eqb-true, eqb-false, ne_eqb, leb-true, leb-false, ltb-true}
use Rattle.waymap.proofs.Booleans.{cases}
use Rattle.replacement.specs.Rule.{rule_of}
use Rattle.command.specs.Command.{Command}
use Rattle.command.specs.Kind.{kind_of}
use Rattle.command.specs.declared.Answer.TheVariants.{Refused}
use Rattle.domains.specs.Domains.{domain_of, policies}
use Rattle.verdict.specs.Refusal.{use_refusal, refusal_by}
use Rattle.geometry.specs.Geometry.{within}
use Rattle.geometry.specs.declared.Geometry.{Geometry}
use Rattle.steps.specs.Step.{State, Outcome, answers, use_line, change_policy, step_by, decided}
use Rattle.steps.specs.Run.{step_on}
use Rattle.steps.specs.Inside.{Whole, number_by, change_number, line_work}
use Rattle.steps.proofs.StateLaws.{step_beyond, step_within}

-- A step of kind 0 to 3 flushes where its kind is 3.
pub data Did (g : Geometry) (c : Command) (s : State) : Outcome → Type 0 where
  turned_down : (n : ℕ) → (n ≡ 0 → ⊥) → Did g c s (answers (Refused n) s)
  used : (flushes store : Bool) → c.domain < 16 → c.kind < 4 → eqb c.kind 3 ≡ flushes
      → use_refusal (policies g.ways s.domains c.domain) (domain_of s.domains c.domain).counts ≡ 0
      → Did g c s (use_line g (line_work flushes (rule_of g.rule g.ways) store) c.domain c.argument s)
  changed : c.domain < 16 → c.kind ≡ 16 → change_number g c.domain c.argument s ≡ 0
      → Did g c s (change_policy g c.domain c.argument s)

module _ (g : Geometry) (limits : within g ≡ true) (c : Command) (s : State) where
  decided_did : (n : ℕ) (o : Outcome) → (n ≡ 0 → Did g c s o) → Did g c s (decided n o s)
  unfolding decided
  decided_did n o f = cases (eqb n 0) (λ t. rw t (f (eqb-true n 0 t))) (λ t. rw t (turned_down n (eqb-false n 0 t)))

  kind_did : c.domain < 16
      → Did g c s (decided (number_by (kind_of c.kind) g c.domain c.argument s) (step_by (kind_of c.kind) g c.domain c.argument s) s)
  unfolding kind_of refusal_by step_by
  kind_did low =
      cases (ltb c.kind 3)
      (λ t. let few = ltb-true c.kind 3 t in
      rw t (decided_did _ _ (λ z. used false (eqb c.kind 2) low (omega (arith, few)) (ne_eqb c.kind 3 (λ e. omega (arith, few, e))) z)))
      (λ t. rw t (cases (eqb c.kind 3)
      (λ u. rw u (decided_did _ _ (λ z. used true false low (omega (arith, eqb-true c.kind 3 u)) u z)))
      (λ u. rw u (cases (eqb c.kind 16)
      (λ v. rw v (decided_did _ _ (λ z. changed low (eqb-true c.kind 16 v) z)))
      (λ v. rw v (decided_did 4 _ (λ z. absurd (omega arith))))))))

  pub did : Whole g s → Did g c s (step_on g c s)
  did whole =
      cases (leb 16 c.domain)
      (λ t. rw (step_beyond g limits c s whole (leb-true 16 c.domain t)) (turned_down 3 (λ z. omega arith)))
      (λ t. rw (step_within g limits c s whole (leb-false 16 c.domain t)) (kind_did (leb-false 16 c.domain t)))
