-- The relation on whole states: changes of policy.
use mathlib.Core.Path.{◌≡◌, sym, ap₂, subst, ◌∙◌}
use mathlib.Core.Bool.{true}
use Prim.Native.Nat.{ℕ, ◌<◌}
use lib.Dec.{eqb}
use borrow.Author.Tests.{eqb-true, eqb-false}
use Rattle.waymap.specs.Bits.{bit}
use Rattle.waymap.proofs.Booleans.{cases, not_both}
use Rattle.policy.specs.Policy.{as_read, new_maps}
use Rattle.sweep.specs.Clean.{dropped, dropped_dirty}
use Rattle.command.specs.Answer.{answer_of}
use Rattle.policy.specs.declared.Maps.{Maps}
use Rattle.command.specs.declared.Answer.TheVariants.{Policy}
use Rattle.domains.specs.Domains.{domain_of, policies, new_domain}
use Rattle.geometry.specs.Geometry.{within}
use Rattle.geometry.specs.Inside.{Limited}
use Rattle.geometry.specs.declared.Geometry.{Geometry}
use Rattle.geometry.proofs.GeometryLaws.{limited}
use Rattle.steps.specs.Tables.{row_at}
use Rattle.steps.specs.Step.{State, dropped_by, change_policy}
use Rattle.steps.specs.Inside.{Whole, change_number}
use Rattle.steps.proofs.SetLaws.{row_long}
use Rattle.steps.proofs.TotalLaws.{total_ext}
use Rattle.steps.proofs.StateLaws.{passed, changed_domain, changed_other, changed_policy, changed_policy_other, changed_row, changed_same}
use Rattle.reached.specs.Reached.{Separate}
use Rattle.reached.proofs.SeparateLaws.{policy_cut, new_apart}
use Rattle.reached.proofs.Reached.{reached_whole, reached_separate}
use Rattle.isolation.proofs.Relation.{Unheld, Tied, Related}
use Rattle.isolation.proofs.RowUnwinding.{clean_alike, own_drops}

-- ---- the state after a change of policy

module _ (g : Geometry) (limits : within g ≡ true) (d : ℕ) (low : d < 16) (e : ℕ) (k : e < 16) (arg : ℕ) (a b : State) (rel : Related g d a b) where
  l : Limited g
  l = limited g limits

  tied : Tied g d a b
  tied = rel.tied

  whole_a : Whole g a
  whole_a = reached_whole g limits a rel.reached_a

  whole_b : Whole g b
  whole_b = reached_whole g limits b rel.reached_b

  apart : Separate g (policies g.ways a.domains)
  apart = reached_separate g limits a rel.reached_a

  abbrev W : ℕ
  W = g.ways

  abbrev policy : ℕ → Maps
  policy = policies g.ways a.domains

  abbrev next : Maps
  next = as_read g.ways (new_maps arg)

  -- a change that is accepted, in both runs
  module _ (z : change_number g e arg a ≡ 0) where
    -- ---- the domain's own drops the same lines

    gains : e ≡ d → (w : ℕ) → bit next.hit w ≡ true → Unheld d policy w
    gains own w t f hf n =
        not_both (bit next.hit w) (bit (policy f).hit w)
        (new_apart g l policy (policy_cut W a.domains) e arg (passed g a e arg z) f hf (λ q. n (q ∙ own)) w) t

    drops : e ≡ d → (s : ℕ) → s < g.sets
        → (dropped (policy e) next (row_at g.ways s a.tables) ≡ dropped (policy e) next (row_at g.ways s b.tables))
        × (dropped_dirty (policy e) next (row_at g.ways s a.tables) ≡ dropped_dirty (policy e) next (row_at g.ways s b.tables))
    drops own s h =
        own_drops g l d low policy (policy_cut W a.domains) apart e k next
        (policies g.ways (change_policy g e arg a).state.domains) (changed_policy g e k arg a whole_a)
        (changed_policy_other g e k arg a whole_a) (row_at g.ways s a.tables) (row_at g.ways s b.tables) (tied.alike s h) own (gains own)
        (row_long g whole_a.shaped s h) (row_long g whole_b.shaped s h)

    dropped_same : e ≡ d → dropped_by g e arg a ≡ dropped_by g e arg b
    unfolding dropped_by
    dropped_same own =
        rw (← (tied.policy_same e))
        (total_ext W g.sets (dropped (policy e) next) (dropped (policy e) next) a.tables b.tables (λ s h. (drops own s h).0))

    pub policy_answer : e ≡ d → (change_policy g e arg a).answer ≡ (change_policy g e arg b).answer
    unfolding change_policy
    policy_answer own =
        ap₂ (λ (x y : ℕ). answer_of (Policy x y)) (dropped_same own)
        (rw (← (tied.policy_same e))
        (total_ext W g.sets (dropped_dirty (policy e) next) (dropped_dirty (policy e) next) a.tables b.tables (λ s h. (drops own s h).1)))

    -- ---- and the relation is kept

    own_record : e ≡ d → domain_of (change_policy g e arg a).state.domains e ≡ domain_of (change_policy g e arg b).state.domains e
    own_record own =
        changed_domain g e k arg a whole_a
        ∙ ap₂ (new_domain arg) (dropped_same own) (subst (λ (i : ℕ). domain_of a.domains i ≡ domain_of b.domains i) (sym own) tied.domain_same)
        ∙ sym (changed_domain g e k arg b whole_b)

    pub policy_tied : Tied g d (change_policy g e arg a).state (change_policy g e arg b).state
    policy_tied = record {
      policy_same = changed_same g e k arg a b whole_a whole_b tied.policy_same;
      domain_same =
          cases (eqb d e)
          (λ t. subst (λ (i : ℕ). domain_of (change_policy g e arg a).state.domains i ≡ domain_of (change_policy g e arg b).state.domains i)
          (sym (eqb-true d e t)) (own_record (sym (eqb-true d e t))))
          (λ t.
          changed_other g e k arg a whole_a d (eqb-false d e t) ∙ tied.domain_same
          ∙ sym (changed_other g e k arg b whole_b d (eqb-false d e t)));
      alike = λ s h.
          rw (changed_row g e k arg a whole_a s h, changed_row g e k arg b whole_b s h, ← (tied.policy_same e))
          (clean_alike g l d low policy (policy_cut W a.domains) apart e k next
          (policies g.ways (change_policy g e arg a).state.domains) (changed_policy g e k arg a whole_a)
          (changed_policy_other g e k arg a whole_a) (row_at g.ways s a.tables) (row_at g.ways s b.tables) (tied.alike s h));
    }
