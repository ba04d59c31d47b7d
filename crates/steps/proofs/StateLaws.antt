-- What a step comes to, and what it leaves of a state in which the tables have their lengths.
use mathlib.Core.Path.{◌≡◌, refl, sym, ap, ◌∙◌}
use mathlib.Core.Bool.{Bool, true, false}
use Prim.Native.Nat.{ℕ, ◌*◌, ◌≤◌, ◌<◌}
use native.Mathlib.Omega.{arith}
use lib.Dec.{eqb}
use lib.ListN.{length}
use borrow.Author.Tests.{eqb-true, eqb-false, eq-eqb, le-leb, lt-leb}
use Rattle.waymap.proofs.Booleans.{cases}
use Rattle.replacement.specs.Rule.{Rule, rule_of}
use Rattle.row.specs.Row.{Row, Effect}
use Rattle.row.proofs.LineLaws.{access_long, flush_long}
use Rattle.policy.specs.Policy.{as_read, new_maps}
use Rattle.policy.specs.declared.Maps.{Maps}
use Rattle.sweep.specs.Clean.{cleaned}
use Rattle.sweep.proofs.CleanLaws.{clean_long}
use Rattle.command.specs.Command.{Command}
use Rattle.command.specs.Kind.{kind_of}
use Rattle.command.specs.declared.Answer.TheVariants.{Refused}
use Rattle.domains.specs.Domains.{domain_of, maps_of, overflows, policies, used_domain, new_domain}
use Rattle.domains.specs.declared.Domain.{Domain}
use Rattle.domains.proofs.DomainLaws as DomainLaws
use Rattle.verdict.specs.Refusal.{refusal}
use Rattle.verdict.proofs.PolicyLaws.{Passed, policy_passed}
use Rattle.geometry.specs.Geometry.{within, sized}
use Rattle.geometry.specs.declared.Geometry.{Geometry}
use Rattle.steps.specs.Tables.{lengths, row_at}
use Rattle.steps.specs.Step.{State, answers, on_set, dropped_by, drops_of, change_policy, step_by, decided, step}
use Rattle.steps.specs.Run.{step_on}
use Rattle.steps.specs.Inside.{Whole, number_by, change_number, line_work}
use Rattle.steps.proofs.SetLaws.{put_shaped, row_put_same, row_put_other, each_shaped, each_row}

-- ---- a step is decided by its domain and its kind

module _ (g : Geometry) (s : State) (w : Whole g s) where
  -- the tables are of their lengths
  pub whole_sized : sized g (lengths s.tables) ≡ true
  unfolding sized
  whole_sized =
      rw (
        w.shaped.tags_long,
        w.shaped.valid_long,
        w.shaped.dirty_long,
        w.shaped.words_long,
        eq-eqb (g.sets * g.ways) (g.sets * g.ways) refl,
        eq-eqb g.sets g.sets refl,
      )

module _ (g : Geometry) (limits : within g ≡ true) (c : Command) (s : State) (w : Whole g s) where
  -- a domain of 16 or more is refused by 3
  pub step_beyond : 16 ≤ c.domain → step_on g c s ≡ answers (Refused 3) s
  unfolding step refusal decided
  step_beyond h = rw (limits, whole_sized g s w, le-leb 16 c.domain h)

  -- another's step is decided by its kind
  pub step_within : c.domain < 16
      → step_on g c s ≡ decided (number_by (kind_of c.kind) g c.domain c.argument s) (step_by (kind_of c.kind) g c.domain c.argument s) s
  unfolding step refusal
  step_within h = rw (limits, whole_sized g s w, lt-leb 16 c.domain h)

-- ---- the state after a domain's work on one set

-- the work keeps the row's length
pub work_long : (flushes store : Bool) (R : Rule) (p : Maps) (tag : ℕ) (r : Row) → length (line_work flushes R store p tag r).row.tags ≡ length r.tags
work_long true store R p tag r = flush_long p tag r
work_long false store R p tag r = access_long R p tag store r

module _ (g : Geometry) (s : State) (whole : Whole g s) (e : ℕ) (k : e < 16) (set : ℕ) (h : set < g.sets) (x : Effect)
    (long : length x.row.tags ≡ g.ways) where
  pub line_whole : Whole g (on_set g e set x s).state
  unfolding on_set
  line_whole = record {
    shaped = put_shaped g s.tables x.row whole.shaped set h long;
    sixteen = DomainLaws.put_sixteen s.domains e (used_domain x.answer (domain_of s.domains e)) whole.sixteen;
  }

  pub line_domain : domain_of (on_set g e set x s).state.domains e ≡ used_domain x.answer (domain_of s.domains e)
  unfolding on_set
  line_domain = DomainLaws.put_same s.domains e (used_domain x.answer (domain_of s.domains e)) whole.sixteen k

  pub line_domain_other : (f : ℕ) → (f ≡ e → ⊥) → domain_of (on_set g e set x s).state.domains f ≡ domain_of s.domains f
  unfolding on_set
  line_domain_other f n = DomainLaws.put_other s.domains e (used_domain x.answer (domain_of s.domains e)) f n

  -- all maps stay, and with them the policies
  pub line_maps : (f : ℕ) → maps_of (domain_of (on_set g e set x s).state.domains f) ≡ maps_of (domain_of s.domains f)
  line_maps f =
      cases (eqb f e)
      (λ t. rw (eqb-true f e t) (ap maps_of line_domain))
      (λ t. ap maps_of (line_domain_other f (eqb-false f e t)))

  pub line_policy : (f : ℕ) → policies g.ways (on_set g e set x s).state.domains f ≡ policies g.ways s.domains f
  unfolding policies
  line_policy f = ap (as_read g.ways) (line_maps f)

  pub line_row : row_at g.ways set (on_set g e set x s).state.tables ≡ x.row
  unfolding on_set
  line_row = row_put_same g s.tables x.row whole.shaped set h long

  pub line_row_other : (u : ℕ) → (u ≡ set → ⊥) → row_at g.ways u (on_set g e set x s).state.tables ≡ row_at g.ways u s.tables
  unfolding on_set
  line_row_other u n = row_put_other g s.tables x.row whole.shaped set h long u n

-- ---- the state after a change of policy

-- what numbers 5, 8 and 9 let pass, and number 7
pub passed : (g : Geometry) (s : State) (e arg : ℕ) → change_number g e arg s ≡ 0 → Passed g (policies g.ways s.domains) e arg
passed g s e arg z =
    (policy_passed g (policies g.ways s.domains) (domain_of s.domains e).counts (drops_of g e arg s) e arg z).1

pub passed_room : (g : Geometry) (s : State) (e arg : ℕ) → change_number g e arg s ≡ 0
    → overflows arg (drops_of g e arg s) (domain_of s.domains e).counts ≡ false
passed_room g s e arg z =
    (policy_passed g (policies g.ways s.domains) (domain_of s.domains e).counts (drops_of g e arg s) e arg z).0

module _ (g : Geometry) (e : ℕ) (k : e < 16) (arg : ℕ) (s : State) (whole : Whole g s) where
  abbrev W : ℕ
  W = g.ways

  abbrev next : Maps
  next = as_read g.ways (new_maps arg)

  abbrev R : Rule
  R = rule_of g.rule g.ways

  abbrev record_after : Domain
  record_after = new_domain arg (dropped_by g e arg s) (domain_of s.domains e)

  pub changed_whole : Whole g (change_policy g e arg s).state
  unfolding change_policy
  changed_whole = record {
    shaped = each_shaped g (cleaned R (policies W s.domains e) next) (clean_long R (policies W s.domains e) next) s.tables whole.shaped
        g.sets (omega arith);
    sixteen = DomainLaws.put_sixteen s.domains e _ whole.sixteen;
  }

  pub changed_domain : domain_of (change_policy g e arg s).state.domains e ≡ new_domain arg (dropped_by g e arg s) (domain_of s.domains e)
  unfolding change_policy
  changed_domain = DomainLaws.put_same s.domains e record_after whole.sixteen k

  pub changed_other : (f : ℕ) → (f ≡ e → ⊥) → domain_of (change_policy g e arg s).state.domains f ≡ domain_of s.domains f
  unfolding change_policy
  changed_other f n = DomainLaws.put_other s.domains e record_after f n

  pub changed_policy : policies g.ways (change_policy g e arg s).state.domains e ≡ as_read g.ways (new_maps arg)
  unfolding change_policy new_domain
  changed_policy = DomainLaws.policy_same s.domains e record_after W whole.sixteen k

  pub changed_policy_other : (f : ℕ) → (f ≡ e → ⊥) → policies g.ways (change_policy g e arg s).state.domains f ≡ policies g.ways s.domains f
  unfolding change_policy
  changed_policy_other f n = DomainLaws.policy_other s.domains e record_after W f n

  pub changed_row : (i : ℕ) → i < g.sets → row_at g.ways i (change_policy g e arg s).state.tables
      ≡ cleaned (rule_of g.rule g.ways) (policies g.ways s.domains e) (as_read g.ways (new_maps arg)) (row_at g.ways i s.tables)
  unfolding change_policy
  changed_row i h = each_row g (cleaned R (policies W s.domains e) next) (clean_long R (policies W s.domains e) next) s.tables whole.shaped
      g.sets (omega arith) i h

-- Where all policies of two states are the same, they are the same after one change of policy in both.
pub changed_same : (g : Geometry) (e : ℕ) → e < 16 → (arg : ℕ) (a b : State) → Whole g a → Whole g b
    → ((f : ℕ) → policies g.ways a.domains f ≡ policies g.ways b.domains f)
    → (f : ℕ) → policies g.ways (change_policy g e arg a).state.domains f ≡ policies g.ways (change_policy g e arg b).state.domains f
changed_same g e k arg a b whole_a whole_b same f =
    cases (eqb f e)
    (λ t. rw (eqb-true f e t) (changed_policy g e k arg a whole_a ∙ sym (changed_policy g e k arg b whole_b)))
    (λ t.
    changed_policy_other g e k arg a whole_a f (eqb-false f e t) ∙ same f
    ∙ sym (changed_policy_other g e k arg b whole_b f (eqb-false f e t)))
