-- Lines in and lines out of an accepted change of policy: it keeps the balance of every domain.
use mathlib.Core.Path.{◌≡◌, refl, sym, ap, ◌∙◌}
use mathlib.Core.Bool.{Bool, true, false, xor, and_comm, false≢true}
use Prim.Native.Nat.{ℕ, ◌+◌, ◌%◌, ◌<◌}
use native.Mathlib.Nat.{le_of_eq, lt_of_lt_of_le}
use native.Mathlib.Omega.{arith}
use lib.Dec.{eqb}
use lib.ListN.{length}
use borrow.Author.Tests.{eqb-true, eqb-false}
use Rattle.waymap.specs.Bits.{bit}
use Rattle.waymap.proofs.Booleans.{cases, not_both}
use Rattle.waymap.proofs.BitLaws.{bit_none}
use Rattle.replacement.specs.Rule.{Rule, rule_of}
use Rattle.row.specs.Row.{Row, lines_in}
use Rattle.row.proofs.LinesLaws.{lines_none}
use Rattle.policy.specs.Policy.{as_read, new_maps}
use Rattle.policy.specs.declared.Maps.{Maps}
use Rattle.policy.proofs.ReadLaws.{read_hit}
use Rattle.sweep.specs.Clean.{moved, dropped, cleaned}
use Rattle.sweep.proofs.CleanLaws.{without_bit, clean_lines, clean_own}
use Rattle.domains.specs.Domains.{domain_of, policies, new_domain, with_drops}
use Rattle.verdict.proofs.PolicyLaws.{Passed}
use Rattle.geometry.specs.Geometry.{within}
use Rattle.geometry.specs.Inside.{Limited}
use Rattle.geometry.specs.declared.Geometry.{Geometry}
use Rattle.geometry.proofs.GeometryLaws.{limited}
use Rattle.steps.specs.Tables.{row_at, total}
use Rattle.steps.specs.Step.{State, dropped_by, change_policy}
use Rattle.steps.specs.Inside.{change_number}
use Rattle.steps.proofs.SetLaws.{row_long}
use Rattle.steps.proofs.TotalLaws.{total_ext, total_sum, total_le}
use Rattle.steps.proofs.StateLaws.{passed, changed_domain, changed_other, changed_policy, changed_policy_other, changed_row}
use Rattle.steps.specs.Statements.{Kept}
use Rattle.reached.specs.Reached.{Separate}
use Rattle.reached.specs.Balance.{held, Balanced}
use Rattle.reached.specs.Inside.{Unowned, Empty, FillsFit}
use Rattle.reached.proofs.SeparateLaws.{policy_cut, new_apart}

-- a way that does not move and is not there afterwards was not there before
pub unmoved : (old new : Bool) → xor old new ≡ false → new ≡ false → old ≡ false
unfolding xor
unmoved true true e f = f
unmoved true false e f = e
unmoved false new e f = refl

module _ (g : Geometry) (limits : within g ≡ true) (s : State) (kept : Kept g limits s) (apart : Separate g (policies g.ways s.domains))
    (none : Empty g s) (e : ℕ) (k : e < 16) (arg : ℕ) (z : change_number g e arg s ≡ 0) where
  l : Limited g
  l = limited g limits

  abbrev R : Rule
  R = rule_of g.rule g.ways

  abbrev policy : ℕ → Maps
  policy = policies g.ways s.domains

  abbrev next : Maps
  next = as_read g.ways (new_maps arg)

  lets : Passed g policy e arg
  lets = passed g s e arg z

  abbrev after : State
  after = (change_policy g e arg s).state

  abbrev row : ℕ → Row
  row i = row_at g.ways i s.tables

  wide : (i : ℕ) → i < g.sets → length (row i).tags ≡ g.ways
  wide i h = row_long g kept.whole.shaped i h

  -- a way of another domain is in neither map
  untaken : (d : ℕ) → d < 16 → (d ≡ e → ⊥) → (w : ℕ) → bit (policy d).hit w ≡ true → (bit (policy e).hit w ≡ false) × (bit next.hit w ≡ false)
  untaken d low n w t = (
    not_both (bit (policy d).hit w) (bit (policy e).hit w) (apart.ways_apart d e low k n w) t,
    not_both (bit (policy d).hit w) (bit next.hit w)
        (and_comm (bit (policy d).hit w) (bit next.hit w) ∙ new_apart g l policy (policy_cut g.ways s.domains) e arg lets d low n w) t,
  )

  -- a way that the domain gains was nobody's, and is empty
  gained : (i : ℕ) → i < g.sets → (w : ℕ) → w < g.ways → bit (policy e).hit w ≡ false → bit next.hit w ≡ true → bit (row i).valid w ≡ false
  gained i h w hw old new =
      none w i hw h
      (λ f low. cases (eqb f e)
      (λ t. rw (eqb-true f e t) old)
      (λ t. not_both (bit next.hit w) (bit (policy f).hit w)
      (new_apart g l policy (policy_cut g.ways s.domains) e arg lets f low (eqb-false f e t) w) new))

  -- the lines that it held are those that it holds and those that were dropped
  held_own : total g.ways g.sets (lines_in (bit next.hit)) after.tables + dropped_by g e arg s ≡ held g e s
  unfolding held dropped_by
  held_own =
      total_sum g.ways g.sets (lines_in (bit next.hit)) (dropped (policy e) next) (lines_in (bit (policy e).hit))
      after.tables s.tables s.tables
      (λ i h. rw (changed_row g e k arg s kept.whole i h) (clean_own _ R l.most_ways (policy e) next (row i) (wide i h) (gained i h)))

  held_other : (d : ℕ) → d < 16 → (d ≡ e → ⊥) → held g d after ≡ held g d s
  unfolding held moved xor
  held_other d low n =
      rw (changed_policy_other g e k arg s kept.whole d n)
      (total_ext g.ways g.sets (lines_in (bit (policy d).hit)) (lines_in (bit (policy d).hit)) after.tables s.tables
      (λ i h. rw (changed_row g e k arg s kept.whole i h)
      (clean_lines R l.most_ways (policy e) next (row i) (wide i h) (bit (policy d).hit) (λ w hw t. unmoved w (untaken d low n w t)))))
    where
      unmoved : (w : ℕ) → (bit (policy e).hit w ≡ false) × (bit next.hit w ≡ false) → moved (policy e) next w ≡ false
      unmoved w both = rw (both.0, both.1)

  -- a domain that is removed holds none
  held_none : arg ≡ 0 → total g.ways g.sets (lines_in (bit next.hit)) after.tables ≡ 0
  unfolding new_maps
  held_none q =
      let few = total_le g.ways g.sets 0 (lines_in (bit next.hit)) after.tables
      (λ i h. le_of_eq (lines_none (bit next.hit) (row_at g.ways i after.tables) (λ w hw t. absurd (empty w t)))) in
      omega (arith, few)
    where
      empty : (w : ℕ) → bit next.hit w ≡ true → ⊥
      empty w t = false≢true (sym (bit_none w) ∙ ap (λ (a : ℕ). bit (a % 65536) w) (sym q) ∙ (read_hit g.ways (new_maps arg) w t).1)

  -- its own balance
  own_balanced : Balanced g e s → Balanced g e after
  unfolding Balanced held new_domain with_drops
  own_balanced b =
      rw (changed_domain g e k arg s kept.whole, changed_policy g e k arg s kept.whole)
      (cases (eqb arg 0)
      (λ t. rw t (omega (arith, held_none (eqb-true arg 0 t))))
      (λ t. rw t (omega (arith, held_own))))

  pub change_balanced : ((d : ℕ) → d < 16 → Balanced g d s) → (d : ℕ) → d < 16 → Balanced g d after
  unfolding Balanced
  change_balanced b d low =
      cases (eqb d e)
      (λ t. rw (eqb-true d e t) (own_balanced (b e k)))
      (λ t. rw (changed_other g e k arg s kept.whole d (eqb-false d e t), held_other d low (eqb-false d e t)) (b d low))

  -- fills stay as they were, or are zero
  pub change_fills : ((d : ℕ) → d < 16 → FillsFit d s) → (d : ℕ) → d < 16 → FillsFit d after
  unfolding new_domain with_drops
  change_fills b d low =
      cases (eqb d e)
      (λ t. rw (eqb-true d e t, changed_domain g e k arg s kept.whole) (cases (eqb arg 0) (λ u. rw u (omega arith)) (λ u. rw u (b e k))))
      (λ t. rw (changed_other g e k arg s kept.whole d (eqb-false d e t)) (b d low))

  -- what no domain holds afterwards none held before, or it was cleaned
  pub change_empty : Empty g after
  unfolding cleaned moved
  change_empty w i hw hi free =
      rw (changed_row g e k arg s kept.whole i hi, without_bit (moved (policy e) next) (row i).valid w (lt_of_lt_of_le hw l.most_ways))
      (cases (moved (policy e) next w) (λ t. rw t) (λ t. rw t (none w i hw hi (before t))))
    where
      gone : bit next.hit w ≡ false
      gone = ap (λ (p : Maps). bit p.hit w) (sym (changed_policy g e k arg s kept.whole)) ∙ free e k

      before : moved (policy e) next w ≡ false → Unowned policy w
      before t f low =
          cases (eqb f e)
          (λ u. rw (eqb-true f e u) (unmoved (bit (policy e).hit w) (bit next.hit w) t gone))
          (λ u. ap (λ (p : Maps). bit p.hit w) (sym (changed_policy_other g e k arg s kept.whole f (eqb-false f e u))) ∙ free f low)
