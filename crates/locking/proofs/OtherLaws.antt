-- What an access or a flush of one domain leaves as it was to another.
use mathlib.Core.Path.{◌≡◌, refl, ap, sym, ◌∙◌}
use mathlib.Core.Bool.{Bool, true, false}
use Prim.Native.Nat.{ℕ, ◌<◌}
use lib.Dec.{eqb}
use lib.ListN.{length}
use borrow.Author.Tests.{eqb-true, eqb-false}
use Rattle.waymap.proofs.Booleans.{cases}
use Rattle.replacement.specs.Rule.{Rule, rule_of}
use Rattle.row.specs.Row.{Row, Effect}
use Rattle.row.specs.View.{SameView}
use Rattle.row.proofs.LineLaws.{same_line, access_leaves, access_stays, flush_leaves, flush_word}
use Rattle.policy.specs.declared.Maps.{Maps}
use Rattle.policy.specs.Policy.{Cut}
use Rattle.domains.specs.Domains.{domain_of, policies}
use Rattle.geometry.specs.Address.{set_of, tag_of}
use Rattle.geometry.specs.Geometry.{within}
use Rattle.geometry.specs.Inside.{Limited}
use Rattle.geometry.specs.declared.Geometry.{Geometry}
use Rattle.geometry.proofs.AddressLaws.{set_below}
use Rattle.geometry.proofs.GeometryLaws.{limited}
use Rattle.steps.specs.Tables.{row_at}
use Rattle.steps.specs.Step.{State, row_effect, use_line}
use Rattle.steps.specs.Inside.{Whole, line_work}
use Rattle.steps.proofs.SetLaws.{row_long}
use Rattle.steps.proofs.StateLaws.{work_long, line_whole, line_domain_other, line_policy, line_row, line_row_other}
use Rattle.isolation.proofs.RowUnwinding.{own_unheld, own_unwritten}
use Rattle.reached.proofs.SeparateLaws.{policy_cut}
use Rattle.reached.specs.Reached.{Separate}
use Rattle.locking.proofs.WordFits.{rule}

-- State t is to domain d what s was: the policies, its record, and in every set what it sees.
pub record Leaves (g : Geometry) (d : ℕ) (t s : State) : Type 0 where
  pub whole : Whole g t
  pub policy_same : (e : ℕ) → policies g.ways t.domains e ≡ policies g.ways s.domains e
  pub domain_same : domain_of t.domains d ≡ domain_of s.domains d
  pub rows : (i : ℕ) → i < g.sets
      → SameView (rule_of g.rule g.ways) (policies g.ways s.domains d) (row_at g.ways i t.tables) (row_at g.ways i s.tables)

pub same_view : (R : Rule) (p : Maps) (r : Row) → SameView R p r r
same_view R p r = record { lines = λ w t. same_line r w; own = λ x t. refl }

pub leaves_itself : (g : Geometry) (d : ℕ) (s : State) → Whole g s → Leaves g d s s
leaves_itself g d s whole = record {
  whole = whole;
  policy_same = λ e. refl;
  domain_same = refl;
  rows = λ i h. same_view (rule_of g.rule g.ways) (policies g.ways s.domains d) (row_at g.ways i s.tables);
}

module _ (g : Geometry) (limits : within g ≡ true) (d : ℕ) (low : d < 16) (e : ℕ) (k : e < 16) (n : e ≡ d → ⊥) where
  l : Limited g
  l = limited g limits

  abbrev R : Rule
  R = rule_of g.rule g.ways

  -- one set
  module _ (policy : ℕ → Maps) (cut : (f : ℕ) → Cut g.ways (policy f)) (apart : Separate g policy) (tag : ℕ) (r : Row)
      (long : length r.tags ≡ g.ways) where
    other_view : (flushes store : Bool) → SameView R (policy d) (line_work flushes R store (policy e) tag r).row r
    other_view true store = record {
      lines = λ w t.
          flush_leaves _ _ (rule g limits).isolates l.most_ways (policy e) (cut e) tag r long w ((cut d).within w t)
          (own_unheld g l d low policy cut apart w t e k n);
      own = λ x t. ap (λ (y : ℕ). R.view y x) (flush_word (rule g limits).isolates l.most_ways (policy e) (cut e) tag r long);
    }
    other_view false store = record {
      lines = λ w t.
          access_leaves _ _ (rule g limits).isolates l.most_ways (policy e) (cut e) tag r long store w ((cut d).within w t)
          (own_unheld g l d low policy cut apart w t e k n);
      own = λ x t.
          access_stays _ _ (rule g limits).isolates l.most_ways (policy e) (cut e) tag r long store x (own_unwritten g l d low policy cut apart x t e k n);
    }

  -- the whole state
  pub other_leaves : (flushes store : Bool) (arg : ℕ) (s : State) → Whole g s → Separate g (policies g.ways s.domains)
      → Leaves g d (use_line g (line_work flushes R store) e arg s).state s
  unfolding use_line row_effect
  other_leaves flushes store arg s whole apart = record {
    whole = line_whole g s whole e k (set_of g arg) inside x long;
    policy_same = line_policy g s whole e k (set_of g arg) inside x long;
    domain_same = line_domain_other g s whole e k (set_of g arg) inside x long d (λ q. n (sym q));
    rows = λ i h.
        cases (eqb i (set_of g arg))
        (λ t. rw (eqb-true i (set_of g arg) t, line_row g s whole e k (set_of g arg) inside x long)
        (other_view policy (policy_cut g.ways s.domains) apart (tag_of g arg) row (row_long g whole.shaped (set_of g arg) inside) flushes store))
        (λ t. rw (line_row_other g s whole e k (set_of g arg) inside x long i (eqb-false i (set_of g arg) t))
        (same_view R (policy d) (row_at g.ways i s.tables)));
  }
    where
      inside : set_of g arg < g.sets
      inside = set_below g arg l

      policy : ℕ → Maps
      policy = policies g.ways s.domains

      row : Row
      row = row_at g.ways (set_of g arg) s.tables

      x : Effect
      x = line_work flushes R store (policies g.ways s.domains e) (tag_of g arg) (row_at g.ways (set_of g arg) s.tables)

      long : length x.row.tags ≡ g.ways
      long = work_long flushes store R (policies g.ways s.domains e) (tag_of g arg) (row_at g.ways (set_of g arg) s.tables)
          ∙ row_long g whole.shaped (set_of g arg) inside
