-- The relation on whole states: accesses and flushes.
use mathlib.Core.Path.{◌≡◌, sym, ap, ap₂, subst, fun_ext, ◌∙◌}
use mathlib.Core.Bool.{Bool, true, false}
use Prim.Native.Nat.{ℕ, ◌/◌, ◌<◌}
use native.Mathlib.Nat.{mod-lt}
use lib.Dec.{eqb}
use lib.ListN.{length}
use borrow.Author.Tests.{eqb-true, eqb-false}
use Rattle.waymap.proofs.Booleans.{cases}
use Rattle.replacement.specs.Rule.{rule_of}
use Rattle.row.specs.Row.{Row, Effect}
use Rattle.command.specs.Answer.{answer_of}
use Rattle.policy.specs.declared.Maps.{Maps}
use Rattle.command.specs.declared.Answer.{Answer}
use Rattle.domains.specs.Domains.{policies, counted}
use Rattle.geometry.specs.Geometry.{within}
use Rattle.geometry.specs.Inside.{Limited}
use Rattle.geometry.specs.declared.Geometry.{Geometry}
use Rattle.domains.specs.declared.Domain.{Domain}
use Rattle.geometry.specs.Address.{set_of, tag_of}
use Rattle.geometry.proofs.GeometryLaws.{limited}
use Rattle.steps.specs.Tables.{row_at}
use Rattle.steps.specs.Step.{State, on_set, row_effect, use_line}
use Rattle.steps.specs.Inside.{Whole, line_work}
use Rattle.steps.proofs.SetLaws.{row_long}
use Rattle.steps.proofs.StateLaws.{work_long, line_domain, line_domain_other, line_policy, line_row, line_row_other}
use Rattle.reached.specs.Reached.{Separate}
use Rattle.reached.proofs.SeparateLaws.{policy_cut}
use Rattle.reached.proofs.Reached.{reached_whole, reached_separate}
use Rattle.isolation.proofs.Relation.{Alike, Tied, Related}
use Rattle.isolation.proofs.RowUnwinding.{own_access, own_flush, other_access, other_flush}

module _ (g : Geometry) (limits : within g ≡ true) (d : ℕ) (low : d < 16) (flushes store : Bool) (arg : ℕ) (a b : State) (rel : Related g d a b) where
  l : Limited g
  l = limited g limits

  tied : Tied g d a b
  tied = rel.tied

  whole_a : Whole g a
  whole_a = reached_whole g limits a rel.reached_a

  whole_b : Whole g b
  whole_b = reached_whole g limits b rel.reached_b

  apart : Separate g (policies g.ways a.domains)
  apart = reached_separate g limits a rel.reached_a

  abbrev work : Maps → ℕ → Row → Effect
  work = line_work flushes (rule_of g.rule g.ways) store

  at : ℕ
  at = set_of g arg

  inside : set_of g arg < g.sets
  unfolding set_of
  inside = mod-lt (arg / 64) l.some_set

  abbrev policy : ℕ → Maps
  policy = policies g.ways a.domains

  long_a : (s : ℕ) → s < g.sets → length (row_at g.ways s a.tables).tags ≡ g.ways
  long_a s h = row_long g whole_a.shaped s h

  long_b : (s : ℕ) → s < g.sets → length (row_at g.ways s b.tables).tags ≡ g.ways
  long_b s h = row_long g whole_b.shaped s h

  -- ---- the domain's own

  own_row : (r q : Row) → length r.tags ≡ g.ways → length q.tags ≡ g.ways → Alike g d policy r q → (tag : ℕ)
      → ((work (policy d) tag r).answer ≡ (work (policy d) tag q).answer) × Alike g d policy (work (policy d) tag r).row (work (policy d) tag q).row
  own_row r q lr lq x tag = pick flushes
    where
      pick : (f : Bool)
          → ((line_work f (rule_of g.rule g.ways) store (policy d) tag r).answer ≡ (line_work f (rule_of g.rule g.ways) store (policy d) tag q).answer)
          × Alike g d policy (line_work f (rule_of g.rule g.ways) store (policy d) tag r).row
          (line_work f (rule_of g.rule g.ways) store (policy d) tag q).row
      pick true = own_flush g l d low policy (policy_cut g.ways a.domains) apart r q lr lq x tag
      pick false = own_access g l d low policy (policy_cut g.ways a.domains) apart r q lr lq x tag store

  own_pair : ((work (policy d) (tag_of g arg) (row_at g.ways (set_of g arg) a.tables)).answer
      ≡ (work (policy d) (tag_of g arg) (row_at g.ways (set_of g arg) b.tables)).answer)
      × Alike g d policy (work (policy d) (tag_of g arg) (row_at g.ways (set_of g arg) a.tables)).row
      (work (policy d) (tag_of g arg) (row_at g.ways (set_of g arg) b.tables)).row
  own_pair = own_row (row_at g.ways (set_of g arg) a.tables) (row_at g.ways (set_of g arg) b.tables) (long_a (set_of g arg) inside)
      (long_b (set_of g arg) inside) (tied.alike (set_of g arg) inside) (tag_of g arg)

  -- two states whose sets are alike and whose policies are those of a, with one set worked on
  module _ (e : ℕ) (k : e < 16) (x : Effect) (long_x : length x.row.tags ≡ g.ways) where
    abbrev a' : State
    a' = (on_set g e (set_of g arg) x a).state

    policies_stay : policies g.ways (on_set g e (set_of g arg) x a).state.domains ≡ policies g.ways a.domains
    policies_stay = fun_ext (line_policy g a whole_a e k (set_of g arg) inside x long_x)

    -- rows that are alike under the policies before are alike under those after
    alike_stays : {r q : Row} → Alike g d policy r q → Alike g d (policies g.ways (on_set g e (set_of g arg) x a).state.domains) r q
    alike_stays {r} {q} z = subst (λ (p : ℕ → Maps). Alike g d p r q) (sym policies_stay) z

  own_on : (x y : Effect) → length x.row.tags ≡ g.ways → length y.row.tags ≡ g.ways → x.answer ≡ y.answer → Alike g d policy x.row y.row
      → Tied g d (on_set g d (set_of g arg) x a).state (on_set g d (set_of g arg) y b).state
  own_on x y lx ly same z = record {
    policy_same = λ e.
        line_policy g a whole_a d low (set_of g arg) inside x lx e ∙ tied.policy_same e
        ∙ sym (line_policy g b whole_b d low (set_of g arg) inside y ly e);
    domain_same =
        line_domain g a whole_a d low (set_of g arg) inside x lx
        ∙ ap₂ (λ (m : Domain) (w : Answer). domain_of m w) tied.domain_same same
        ∙ sym (line_domain g b whole_b d low (set_of g arg) inside y ly);
    alike = λ s h. alike_stays d low x lx
        (cases (eqb s (set_of g arg))
        (λ t. rw (
          eqb-true s (set_of g arg) t,
          line_row g a whole_a d low (set_of g arg) inside x lx,
          line_row g b whole_b d low (set_of g arg) inside y ly,
        ) z)
        (λ t. rw (
          line_row_other g a whole_a d low (set_of g arg) inside x lx s (eqb-false s (set_of g arg) t),
          line_row_other g b whole_b d low (set_of g arg) inside y ly s (eqb-false s (set_of g arg) t),
        ) (tied.alike s h)));
  }
    where
      domain_of : Domain → Answer → Domain
      domain_of m w = record { hit = m.hit; fill = m.fill; counts = counted w m.counts }

  -- a step of the domain itself: the same answer, and the relation is kept
  pub own_line : ((use_line g work d arg a).answer ≡ (use_line g work d arg b).answer) × Tied g d (use_line g work d arg a).state (use_line g work d arg b).state
  unfolding use_line row_effect on_set
  own_line =
      rw (← (tied.policy_same d)) (
        ap answer_of own_pair.0,
        own_on (work (policy d) (tag_of g arg) (row_at g.ways (set_of g arg) a.tables))
            (work (policy d) (tag_of g arg) (row_at g.ways (set_of g arg) b.tables))
            (work_long flushes store (rule_of g.rule g.ways) (policy d) (tag_of g arg) (row_at g.ways (set_of g arg) a.tables)
            ∙ long_a (set_of g arg) inside)
            (work_long flushes store (rule_of g.rule g.ways) (policy d) (tag_of g arg) (row_at g.ways (set_of g arg) b.tables)
            ∙ long_b (set_of g arg) inside)
            own_pair.0 own_pair.1,
      )

  -- ---- a neighbour's, on one side

  other_row : (e : ℕ) → e < 16 → (e ≡ d → ⊥) → (r q : Row) → length r.tags ≡ g.ways → length q.tags ≡ g.ways → Alike g d policy r q → (tag : ℕ)
      → Alike g d policy (work (policy e) tag r).row q
  other_row e k n r q lr lq x tag = pick flushes
    where
      pick : (f : Bool) → Alike g d policy (line_work f (rule_of g.rule g.ways) store (policy e) tag r).row q
      pick true = other_flush g l d low policy (policy_cut g.ways a.domains) apart r q lr lq x tag e k n
      pick false = other_access g l d low policy (policy_cut g.ways a.domains) apart r q lr lq x tag e k n store

  other_on : (e : ℕ) (k : e < 16) → (e ≡ d → ⊥) → (x : Effect) → length x.row.tags ≡ g.ways
      → Alike g d policy x.row (row_at g.ways (set_of g arg) b.tables)
      → Tied g d (on_set g e (set_of g arg) x a).state b
  other_on e k n x lx z = record {
    policy_same = λ f. line_policy g a whole_a e k (set_of g arg) inside x lx f ∙ tied.policy_same f;
    domain_same = line_domain_other g a whole_a e k (set_of g arg) inside x lx d (λ q. n (sym q)) ∙ tied.domain_same;
    alike = λ s h. alike_stays e k x lx
        (cases (eqb s (set_of g arg))
        (λ t. rw (eqb-true s (set_of g arg) t, line_row g a whole_a e k (set_of g arg) inside x lx) z)
        (λ t. rw (line_row_other g a whole_a e k (set_of g arg) inside x lx s (eqb-false s (set_of g arg) t)) (tied.alike s h)));
  }

  -- a neighbour's access or flush keeps the relation
  pub other_line : (e : ℕ) → e < 16 → (e ≡ d → ⊥) → Tied g d (use_line g work e arg a).state b
  unfolding use_line row_effect
  other_line e k n =
      other_on e k n (work (policy e) (tag_of g arg) (row_at g.ways (set_of g arg) a.tables))
      (work_long flushes store (rule_of g.rule g.ways) (policy e) (tag_of g arg) (row_at g.ways (set_of g arg) a.tables) ∙ long_a (set_of g arg) inside)
      (other_row e k n (row_at g.ways (set_of g arg) a.tables) (row_at g.ways (set_of g arg) b.tables) (long_a (set_of g arg) inside)
      (long_b (set_of g arg) inside) (tied.alike (set_of g arg) inside) (tag_of g arg))
