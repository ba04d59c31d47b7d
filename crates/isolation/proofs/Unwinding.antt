-- The unwinding lemmas of Goguen and Meseguer, for one step: `output_consistent`, `step_consistent` and `locally_respects`.
use mathlib.Core.Path.{◌≡◌, refl, fun_ext}
use mathlib.Core.Bool.{true, false}
use Prim.Native.Nat.{ℕ, ◌≤◌, ◌<◌}
use native.Mathlib.Omega.{arith}
use lib.Dec.{eqb, leb, ltb}
use borrow.Author.Tests.{eqb-true, eqb-false, eq-eqb, ne_eqb, leb-true, leb-false, ltb-false, le-ltb}
use Rattle.waymap.proofs.Booleans.{cases}
use Rattle.replacement.specs.Rule.{rule_of}
use Rattle.command.specs.declared.Answer.TheVariants.{Refused}
use Rattle.geometry.specs.Geometry.{within}
use Rattle.domains.specs.Domains.{domain_of, policies}
use Rattle.command.specs.Kind.{Kind, access, flush, policy, unknown, kind_of}
use Rattle.verdict.specs.Refusal.{use_refusal, refusal_by}
use Rattle.geometry.specs.declared.Geometry.{Geometry}
use Rattle.steps.specs.Step.{State, Outcome, answers, use_line, change_policy, step_by, decided}
use Rattle.command.specs.Command.{Command}
use Rattle.steps.specs.Run.{step_on}
use Rattle.steps.specs.Inside.{Whole, number_by, change_number, line_work}
use Rattle.steps.proofs.StateLaws.{step_beyond, step_within}
use Rattle.purge.specs.Purge.{belongs, keeps}
use Rattle.purge.proofs.KeepLaws.{struck, kept_kind}
use Rattle.isolation.specs.StruckOut.{number_of}
use Rattle.reached.proofs.Reached.{step_reached, reached_whole, number_same}
use Rattle.isolation.proofs.Relation.{Tied, Related}
use Rattle.isolation.proofs.LineUnwinding.{own_line, other_line}
use Rattle.isolation.proofs.PolicyUnwinding.{policy_tied, policy_answer}

module _ (g : Geometry) (limits : within g ≡ true) (d : ℕ) (low : d < 16) where
  -- ---- two outcomes are consistent

  record Consistent (o p : Outcome) : Type 0 where
    answer_same : o.answer ≡ p.answer
    tied : Tied g d o.state p.state

  -- a verdict that both runs share
  module _ (a b : State) (rel : Related g d a b) where
    both_decided : (n : ℕ) (o p : Outcome) → (n ≡ 0 → Consistent o p) → Consistent (decided n o a) (decided n p b)
    unfolding decided
    both_decided n o p f = cases (eqb n 0) (λ t. rw t (f (eqb-true n 0 t))) (λ t. rw t (record { answer_same = refl; tied = rel.tied }))

    whole_a : Whole g a
    whole_a = reached_whole g limits a rel.reached_a

    whole_b : Whole g b
    whole_b = reached_whole g limits b rel.reached_b

    policies_same : policies g.ways a.domains ≡ policies g.ways b.domains
    policies_same = fun_ext rel.tied.policy_same

    -- A change of policy, of any domain, has the same number. A neighbour's drops may differ; but neither run gives it number 7, and the other numbers
    -- go by the policies.
    change_number_lem : (e : ℕ) → e < 16 → (arg : ℕ) → change_number g e arg a ≡ change_number g e arg b
    change_number_lem = number_same g limits a b rel.reached_a rel.reached_b rel.tied.policy_same

    -- ---- a step of the domain itself

    own_by : (k : Kind) (arg : ℕ)
        → Consistent (decided (number_by k g d arg a) (step_by k g d arg a) a) (decided (number_by k g d arg b) (step_by k g d arg b) b)
    unfolding refusal_by step_by
    own_by (access store) arg =
        rw (← policies_same, ← rel.tied.domain_same)
        (both_decided (use_refusal (policies g.ways a.domains d) (domain_of a.domains d).counts) _ _
        (λ z. let r = own_line g limits d low false store arg a b rel in record { answer_same = r.0; tied = r.1 }))
    own_by flush arg =
        rw (← policies_same, ← rel.tied.domain_same)
        (both_decided (use_refusal (policies g.ways a.domains d) (domain_of a.domains d).counts) _ _
        (λ z. let r = own_line g limits d low true false arg a b rel in record { answer_same = r.0; tied = r.1 }))
    own_by policy arg =
        rw (← (change_number_lem d low arg))
        (both_decided (change_number g d arg a) _ _
        (λ z. record { answer_same = policy_answer g limits d low d low arg a b rel z refl; tied = policy_tied g limits d low d low arg a b rel z }))
    own_by unknown arg = both_decided 4 _ _ (λ z. absurd (omega arith))

    own_step : (c : Command) → c.domain ≡ d → Consistent (step_on g c a) (step_on g c b)
    own_step c e =
        rw (step_within g limits c a whole_a (rw e low), step_within g limits c b whole_b (rw e low), e) (own_by (kind_of c.kind) c.argument)

    -- ---- a kept step of another domain

    -- the same number, and the relation is kept; what it drops may differ
    record Agreed (o p : Outcome) : Type 0 where
      number_same : number_of o.answer ≡ number_of p.answer
      tied : Tied g d o.state p.state

    other_decided : (n : ℕ) (o p : Outcome) → (n ≡ 0 → Agreed o p) → Agreed (decided n o a) (decided n p b)
    unfolding decided
    other_decided n o p f = cases (eqb n 0) (λ t. rw t (f (eqb-true n 0 t))) (λ t. rw t (record { number_same = refl; tied = rel.tied }))

    -- an accepted change of policy has no number
    policy_number : (e arg : ℕ) → number_of (change_policy g e arg a).answer ≡ number_of (change_policy g e arg b).answer
    unfolding change_policy number_of
    policy_number e arg = refl

    other_policy : (e : ℕ) → e < 16 → (arg : ℕ)
        → Agreed (decided (change_number g e arg a) (change_policy g e arg a) a) (decided (change_number g e arg b) (change_policy g e arg b) b)
    other_policy e h arg =
        rw (← (change_number_lem e h arg))
        (other_decided (change_number g e arg a) (change_policy g e arg a) (change_policy g e arg b)
        (λ z. record { number_same = policy_number e arg; tied = policy_tied g limits d low e h arg a b rel z }))

    other_unknown : (o p : Outcome) → Agreed (decided 4 o a) (decided 4 p b)
    other_unknown o p = other_decided 4 o p (λ z. absurd (omega arith))

    -- a kind that is no access and no flush is a policy change or unknown
    other_by : (k e arg : ℕ) → 4 ≤ k → e < 16
        → Agreed (decided (number_by (kind_of k) g e arg a) (step_by (kind_of k) g e arg a) a)
        (decided (number_by (kind_of k) g e arg b) (step_by (kind_of k) g e arg b) b)
    unfolding kind_of refusal_by step_by
    other_by k e arg h low_e =
        rw (le-ltb k 3 (omega arith), ne_eqb k 3 (λ q. omega arith))
        (cases (eqb k 16)
        (λ t. rw t (other_policy e low_e arg))
        (λ t. rw t (other_unknown (answers (Refused 4) a) (answers (Refused 4) b))))

    kept_step : (c : Command) → 4 ≤ c.kind → Agreed (step_on g c a) (step_on g c b)
    kept_step c h =
        cases (leb 16 c.domain)
        (λ t. rw (step_beyond g limits c a whole_a (leb-true 16 c.domain t), step_beyond g limits c b whole_b (leb-true 16 c.domain t))
        (record { number_same = refl; tied = rel.tied }))
        (λ t. rw (step_within g limits c a whole_a (leb-false 16 c.domain t), step_within g limits c b whole_b (leb-false 16 c.domain t))
        (other_by c.kind c.domain c.argument h (leb-false 16 c.domain t)))

    -- ---- a neighbour's access or flush, in one run alone

    one_decided : (n : ℕ) (o : Outcome) → Tied g d o.state b → Tied g d (decided n o a).state b
    unfolding decided
    one_decided n o f = cases (eqb n 0) (λ t. rw t f) (λ t. rw t rel.tied)

    dropped_by_lem : (k e arg : ℕ) → k < 4 → e < 16 → (e ≡ d → ⊥)
        → Tied g d (decided (number_by (kind_of k) g e arg a) (step_by (kind_of k) g e arg a) a).state b
    unfolding kind_of step_by
    dropped_by_lem k e arg h low_e n =
        cases (ltb k 3)
        (λ t. rw t (one_decided _ (use_line g (line_work false (rule_of g.rule g.ways) (eqb k 2)) e arg a)
        (other_line g limits d low false (eqb k 2) arg a b rel e low_e n)))
        (λ t. rw (t, eq-eqb k 3 (omega (arith, ltb-false k 3 t)))
        (one_decided _ (use_line g (line_work true (rule_of g.rule g.ways) false) e arg a) (other_line g limits d low true false arg a b rel e low_e n)))

    dropped_step : (c : Command) → c.kind < 4 → (c.domain ≡ d → ⊥) → Tied g d (step_on g c a).state b
    dropped_step c h n =
        cases (leb 16 c.domain)
        (λ t. rw (step_beyond g limits c a whole_a (leb-true 16 c.domain t)) rel.tied)
        (λ t. rw (step_within g limits c a whole_a (leb-false 16 c.domain t))
        (dropped_by_lem c.kind c.domain c.argument h (leb-false 16 c.domain t) n))

    -- ---- the three unwinding lemmas

    -- a step of the chosen domain answers the same in two related states
    pub output_consistent : (c : Command) → belongs d c ≡ true → (step_on g c a).answer ≡ (step_on g c b).answer
    output_consistent c t = (own_step c (eqb-true c.domain d t)).answer_same

    -- a policy change of another domain is accepted or refused alike
    pub verdict_consistent : (c : Command) → eqb c.kind 16 ≡ true → number_of (step_on g c a).answer ≡ number_of (step_on g c b).answer
    verdict_consistent c t = (kept_step c (rw (eqb-true c.kind 16 t) (omega arith))).number_same

    -- a step that stays leads from related states to related states
    pub step_consistent : (c : Command) → keeps d c ≡ true → Related g d (step_on g c a).state (step_on g c b).state
    step_consistent c t = record {
      reached_a = step_reached g c a rel.reached_a;
      reached_b = step_reached g c b rel.reached_b;
      tied = cases (belongs d c) (λ u. (own_step c (eqb-true c.domain d u)).tied) (λ u. (kept_step c (kept_kind d c t u)).tied);
    }

    -- a step that is struck out leads to a state that is related to where it started
    pub locally_respects : (c : Command) → keeps d c ≡ false → Related g d (step_on g c a).state b
    locally_respects c t = record {
      reached_a = step_reached g c a rel.reached_a;
      reached_b = rel.reached_b;
      tied = dropped_step c (struck d c t).kind (eqb-false c.domain d (struck d c t).other);
    }
