-- From a fresh cache number 7 is never given to a change of policy: what it would drop the domain holds, and what it dropped and holds it once filled.
use mathlib.Core.Path.{◌≡◌, refl, sym, ap, ◌∙◌}
use mathlib.Core.Bool.{Bool, true, false, cond, not, ◌&&◌, xor, and-false, true≢false, false≢true}
use Prim.Native.Nat.{ℕ, ◌+◌, ◌≤◌, ◌<◌}
use native.Mathlib.Omega.{arith}
use lib.Dec.{eqb}
use lib.ListN.{length}
use borrow.Author.Tests.{eqb-true, eqb-false, le-ltb}
use Rattle.waymap.specs.Bits.{bit}
use Rattle.waymap.proofs.Booleans.{cases, and_left, and_right}
use Rattle.replacement.specs.Rule.{rule_of}
use Rattle.row.specs.Row.{lines_in}
use Rattle.row.proofs.LinesLaws.{lines_mono}
use Rattle.policy.specs.Policy.{as_read, new_maps, bad_argument}
use Rattle.policy.specs.declared.Maps.{Maps}
use Rattle.sweep.specs.Clean.{moved, drop_ways}
use Rattle.domains.specs.Domains.{largest, overflows, domain_of, policies}
use Rattle.verdict.specs.Refusal.{held_elsewhere, shares_way, shares_node, sharing_refusal, policy_refusal}
use Rattle.geometry.specs.declared.Geometry.{Geometry}
use Rattle.steps.specs.Tables.{row_at}
use Rattle.steps.specs.Step.{State, drops_of}
use Rattle.steps.specs.Inside.{Whole, change_number}
use Rattle.steps.proofs.SetLaws.{row_long}
use Rattle.steps.proofs.TotalLaws.{total_mono}
use Rattle.reached.specs.Balance.{held, Balanced}
use Rattle.reached.specs.Inside.{Unowned, Empty, FillsFit}
use Rattle.reached.proofs.SeparateLaws.{held_at}

-- a way that is dropped and was not in the old hit map is gained, and not from another domain
gained : (old new elsewhere : Bool) → (xor old new && not (new && elsewhere)) ≡ true → old ≡ false → elsewhere ≡ false
unfolding xor
gained true new elsewhere e f = absurd (true≢false f)
gained false true true e f = sym e
gained false true false e f = refl
gained false false elsewhere e f = absurd (false≢true e)

module _ (g : Geometry) (s : State) (whole : Whole g s) (none : Empty g s) (e arg : ℕ) where
  abbrev policy : ℕ → Maps
  policy = policies g.ways s.domains

  -- only lines that the domain holds are dropped
  drops_held : drops_of g e arg s ≤ held g e s
  unfolding drops_of held drop_ways moved
  drops_held =
      total_mono g.ways g.sets (lines_in (drop_ways (policy e) (as_read g.ways (new_maps arg)) (held_elsewhere policy e)))
      (lines_in (bit (policy e).hit)) s.tables s.tables
      (λ i h. lines_mono (drop_ways (policy e) (as_read g.ways (new_maps arg)) (held_elsewhere policy e)) (bit (policy e).hit) (row_at g.ways i s.tables)
      (λ w hw t v. own i h w (rw (row_long g whole.shaped i h) at hw) t v))
    where
      own : (i : ℕ) → i < g.sets → (w : ℕ) → w < g.ways → drop_ways (policy e) (as_read g.ways (new_maps arg)) (held_elsewhere policy e) w ≡ true
          → bit (row_at g.ways i s.tables).valid w ≡ true → bit (policy e).hit w ≡ true
      own i h w hw t v =
          cases (bit (policy e).hit w) (λ mine. mine)
          (λ mine. let free = gained (bit (policy e).hit w) (bit (as_read g.ways (new_maps arg)).hit w) (held_elsewhere policy e w) t mine in
          absurd (false≢true (sym (none w i hw h (unowned w mine free)) ∙ v)))
        where
          unowned : (w : ℕ) → bit (policy e).hit w ≡ false → held_elsewhere policy e w ≡ false → Unowned policy w
          unowned w mine free f low =
              cases (eqb f e)
              (λ u. rw (eqb-true f e u) mine)
              (λ u. cases (bit (policy f).hit w)
              (λ theirs. absurd (false≢true (sym free ∙ held_at policy e f low (eqb-false f e u) w theirs)))
              (λ theirs. theirs))

  module _ (balanced : Balanced g e s) (fits : FillsFit e s) where
    -- so the count has room for them
    never_spent : overflows arg (drops_of g e arg s) (domain_of s.domains e).counts ≡ false
    unfolding overflows Balanced
    never_spent =
        let c = (domain_of s.domains e).counts in
        rw (le-ltb largest (c.dropped + drops_of g e arg s) (omega (arith, drops_held))) (and-false (not (eqb arg 0)))

    -- and the verdict on a change goes by the policies alone
    pub number_is : change_number g e arg s ≡ cond (bad_argument g.ways arg) 5 (sharing_refusal g (policies g.ways s.domains) e arg)
    unfolding policy_refusal
    number_is = rw never_spent

-- which is 5, 8, 9 or none
pub not_seven : (g : Geometry) (policy : ℕ → Maps) (e arg : ℕ) → cond (bad_argument g.ways arg) 5 (sharing_refusal g policy e arg) ≡ 7 → ⊥
unfolding sharing_refusal
not_seven g policy e arg q =
    cases (bad_argument g.ways arg)
    (λ t. omega (arith, rw t at q))
    (λ t. cases (shares_way policy e (new_maps arg))
    (λ u. omega (arith, rw (t, u) at q))
    (λ u. cases (shares_node (rule_of g.rule g.ways) policy e (new_maps arg))
    (λ v. omega (arith, rw (t, u, v) at q))
    (λ v. omega (arith, rw (t, u, v) at q))))
