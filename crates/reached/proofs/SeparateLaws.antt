-- Domains stay separate.
use mathlib.Core.Path.{◌≡◌, sym, ◌∙◌}
use mathlib.Core.Bool.{true, false, not, ◌&&◌, and_comm, and-false}
use Prim.Native.Nat.{ℕ, ◌<◌}
use native.Mathlib.Nat.{le_trans, lt_of_lt_of_le}
use lib.Dec.{eqb, ltb, lit≤}
use borrow.Author.Tests.{eqb-true, eqb-false, ne_eqb}
use Rattle.waymap.specs.Bits.{bit}
use Rattle.waymap.proofs.Booleans.{cases}
use Rattle.waymap.proofs.BitLaws.{bit_none}
use Rattle.waymap.proofs.WordLaws.{bit_word}
use Rattle.waymap.proofs.WayLaws.{any_at, none_at}
use Rattle.replacement.specs.Rule.{Rule, rule_of}
use Rattle.replacement.specs.Isolates.{Isolates, Apart}
use Rattle.replacement.proofs.RuleLaws.{isolates}
use Rattle.policy.specs.Policy.{as_read, new_maps, Cut}
use Rattle.policy.specs.declared.Maps.{Maps}
use Rattle.policy.proofs.ReadLaws.{cut_read}
use Rattle.policy.proofs.ArgumentLaws.{good_maps}
use Rattle.domains.specs.Domains.{domain_of, policies}
use Rattle.domains.specs.declared.Domains.{Domains}
use Rattle.verdict.specs.Refusal.{held_elsewhere, shares_way, shares_node}
use Rattle.verdict.proofs.PolicyLaws.{Passed}
use Rattle.geometry.specs.Geometry.{within}
use Rattle.geometry.specs.Inside.{Limited}
use Rattle.geometry.specs.declared.Geometry.{Geometry}
use Rattle.steps.specs.Step.{State, change_policy}
use Rattle.steps.specs.Fresh.{fresh}
use Rattle.steps.specs.Inside.{Whole, change_number}
use Rattle.steps.proofs.StateLaws.{passed, changed_policy, changed_policy_other}
use Rattle.steps.proofs.RunLaws.{fresh_domain}
use Rattle.reached.specs.Reached.{Separate}

-- a policy as read is cut
pub policy_cut : (W : ℕ) (ds : Domains) (e : ℕ) → Cut W (policies W ds e)
unfolding policies
policy_cut W ds e = cut_read W (record { hit = (domain_of ds e).hit; fill = (domain_of ds e).fill })

-- the rule in use isolates
pub rule : (g : Geometry) → Limited g → Isolates g.ways (rule_of g.rule g.ways)
rule g l = isolates g.rule g.ways (le_trans l.most_ways (lit≤ tt))

-- a way that another domain has is held elsewhere
pub held_at : (policy : ℕ → Maps) (e f : ℕ) → f < 16 → (f ≡ e → ⊥) → (w : ℕ) → bit (policy f).hit w ≡ true → held_elsewhere policy e w ≡ true
unfolding held_elsewhere
held_at policy e f k n w t =
    any_at 16 (λ (i : ℕ). not (eqb e i) && bit (policy i).hit w) f k (rw (ne_eqb e f (λ q. n (sym q)), t))

-- ---- what numbers 5, 8 and 9 let pass

module _ (g : Geometry) (l : Limited g) (policy : ℕ → Maps) (cut : (f : ℕ) → Cut g.ways (policy f)) (e arg : ℕ) (p : Passed g policy e arg) where
  -- what is read is what the argument says
  pub new_is : as_read g.ways (new_maps arg) ≡ new_maps arg
  new_is = good_maps g.ways arg p.good

  -- another domain has none of its ways and none of its nodes
  pub new_apart : (f : ℕ) → f < 16 → (f ≡ e → ⊥) → Apart (as_read g.ways (new_maps arg)).hit (policy f).hit
  unfolding shares_way
  new_apart f k n w =
      cases (bit (policy f).hit w)
      (λ t. let low : w < 16 = lt_of_lt_of_le ((cut f).within w t) l.most_ways in
      let one : (bit (new_maps arg).hit w && held_elsewhere policy e w) ≡ false =
      none_at 16 (λ (v : ℕ). bit (new_maps arg).hit v && held_elsewhere policy e v) w p.ways_free low in
      rw (new_is, t) (rw (held_at policy e f k n w t) at one))
      (λ t. rw (t, and-false (bit (as_read g.ways (new_maps arg)).hit w)))

  pub new_nodes : (f : ℕ) → f < 16 → (f ≡ e → ⊥) → (rule_of g.rule g.ways).shares (as_read g.ways (new_maps arg)).fill (policy f).fill ≡ false
  unfolding shares_node
  new_nodes f k n =
      let one : (not (eqb e f) && (rule_of g.rule g.ways).shares (new_maps arg).fill (policy f).fill) ≡ false =
      none_at 16 (λ (i : ℕ). not (eqb e i) && (rule_of g.rule g.ways).shares (new_maps arg).fill (policy i).fill) f p.nodes_free k in
      rw new_is (rw (ne_eqb e f (λ q. n (sym q))) at one)

-- ---- after a change of policy

module _ (g : Geometry) (l : Limited g) (e : ℕ) (k : e < 16) (arg : ℕ) (s : State) (whole : Whole g s)
    (apart : Separate g (policies g.ways s.domains)) (z : change_number g e arg s ≡ 0) where
  abbrev W : ℕ
  W = g.ways

  abbrev policy : ℕ → Maps
  policy = policies g.ways s.domains

  abbrev next : Maps
  next = as_read g.ways (new_maps arg)

  abbrev R : Rule
  R = rule_of g.rule g.ways

  lets : Passed g (policies g.ways s.domains) e arg
  lets = passed g s e arg z

  pub separate_after : Separate g (policies g.ways (change_policy g e arg s).state.domains)
  separate_after = record { ways_apart = ways; nodes_apart = nodes }
    where
      ways : (i j : ℕ) → i < 16 → j < 16 → (i ≡ j → ⊥)
          → Apart (policies g.ways (change_policy g e arg s).state.domains i).hit (policies g.ways (change_policy g e arg s).state.domains j).hit
      ways i j hi hj n w =
          cases (eqb i e)
          (λ t. let same : i ≡ e = eqb-true i e t in
          let other : j ≡ e → ⊥ = λ q. n (same ∙ sym q) in
          rw (same, changed_policy g e k arg s (whole), changed_policy_other g e k arg s (whole) j other)
          (new_apart g l policy (policy_cut W s.domains) e arg lets j hj other w))
          (λ t. cases (eqb j e)
          (λ u. let same : j ≡ e = eqb-true j e u in
          rw (same, changed_policy g e k arg s (whole), changed_policy_other g e k arg s (whole) i (eqb-false i e t))
          (and_comm (bit (policy i).hit w) (bit next.hit w) ∙ new_apart g l policy (policy_cut W s.domains) e arg lets i hi (eqb-false i e t) w))
          (λ u. rw (changed_policy_other g e k arg s (whole) i (eqb-false i e t), changed_policy_other g e k arg s (whole) j (eqb-false j e u))
          (apart.ways_apart i j hi hj n w)))

      nodes : (i j : ℕ) → i < 16 → j < 16 → (i ≡ j → ⊥)
          → R.shares (policies g.ways (change_policy g e arg s).state.domains i).fill
          (policies g.ways (change_policy g e arg s).state.domains j).fill ≡ false
      nodes i j hi hj n =
          cases (eqb i e)
          (λ t. let same : i ≡ e = eqb-true i e t in
          let other : j ≡ e → ⊥ = λ q. n (same ∙ sym q) in
          rw (same, changed_policy g e k arg s (whole), changed_policy_other g e k arg s (whole) j other)
          (new_nodes g l policy (policy_cut W s.domains) e arg lets j hj other))
          (λ t. cases (eqb j e)
          (λ u. let same : j ≡ e = eqb-true j e u in
          rw (same, changed_policy g e k arg s (whole), changed_policy_other g e k arg s (whole) i (eqb-false i e t))
          ((rule g l).shares_sym (policy i).fill next.fill ∙ new_nodes g l policy (policy_cut W s.domains) e arg lets i hi (eqb-false i e t)))
          (λ u. rw (changed_policy_other g e k arg s (whole) i (eqb-false i e t), changed_policy_other g e k arg s (whole) j (eqb-false j e u))
          (apart.nodes_apart i j hi hj n)))

-- ---- a fresh cache, in which no domain has a way

module _ (g : Geometry) (limits : within g ≡ true) (l : Limited g) where
  no_hit : (e w : ℕ) → bit (policies g.ways (fresh g).domains e).hit w ≡ false
  unfolding policies as_read
  no_hit e w = rw (fresh_domain g limits e, bit_word 16 (λ (v : ℕ). bit 0 v && ltb v g.ways) w, bit_none w) (and-false (ltb w 16))

  no_fill : (e w : ℕ) → bit (policies g.ways (fresh g).domains e).fill w ≡ false
  unfolding policies as_read
  no_fill e w = rw (fresh_domain g limits e, bit_word 16 (λ (v : ℕ). bit 0 v && (bit 0 v && ltb v g.ways)) w, bit_none w) (and-false (ltb w 16))

  pub fresh_separate : Separate g (policies g.ways (fresh g).domains)
  fresh_separate = record {
    ways_apart = λ e f he hf n w. rw (no_hit e w);
    nodes_apart = λ e f he hf n.
        (rule g l).shares_empty (policies g.ways (fresh g).domains e).fill (policies g.ways (fresh g).domains f).fill (no_fill e);
  }
