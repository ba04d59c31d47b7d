-- A verdict on a change of policy goes by the policies alone.
use mathlib.Core.Path.{◌≡◌, ap}
use mathlib.Core.Bool.{Bool, false, cond, not, ◌&&◌}
use Prim.Native.Nat.{ℕ, ◌<◌}
use native.Mathlib.Nat.{suc-ne-zero}
use lib.Dec.{eqb}
use Rattle.waymap.specs.Bits.{bit, any}
use Rattle.waymap.proofs.Booleans.{cases}
use Rattle.waymap.proofs.WayLaws.{any_ext}
use Rattle.replacement.specs.Rule.{rule_of}
use Rattle.policy.specs.Policy.{as_read, new_maps, bad_argument}
use Rattle.policy.specs.declared.Maps.{Maps}
use Rattle.domains.specs.Domains.{overflows, policies}
use Rattle.verdict.specs.Refusal.{held_elsewhere, shares_way, shares_node, sharing_refusal, policy_refusal}
use Rattle.domains.specs.Calls.{policies_of, read_by}
use Rattle.domains.proofs.PolicyLaws.{from_first}
use Rattle.geometry.specs.declared.Geometry.{Geometry}
use Rattle.domains.specs.declared.Counts.{Counts}
use Rattle.domains.specs.declared.Domains.{Domains}

-- A verdict on a change of policy goes by the policies of the sixteen domains.
sharing_ext : (g : Geometry) (p q : ℕ → Maps) (d arg : ℕ) → ((e : ℕ) → e < 16 → p e ≡ q e) → sharing_refusal g p d arg ≡ sharing_refusal g q d arg
unfolding sharing_refusal held_elsewhere shares_way shares_node
sharing_ext g p q d arg same = λ i.
    cond (ways_same i) 8 (cond (nodes_same i) 9 0)
  where
    new : Maps
    new = new_maps arg

    held_same : (w : ℕ) → held_elsewhere p d w ≡ held_elsewhere q d w
    held_same w = any_ext 16 (λ e h. ap (λ (m : Maps). not (eqb d e) && bit m.hit w) (same e h))

    ways_same : any 16 (λ (w : ℕ). bit new.hit w && held_elsewhere p d w) ≡ any 16 (λ (w : ℕ). bit new.hit w && held_elsewhere q d w)
    ways_same = any_ext 16 (λ w h. ap (λ (b : Bool). bit new.hit w && b) (held_same w))

    nodes_same : any 16 (λ (e : ℕ). not (eqb d e) && (rule_of g.rule g.ways).shares new.fill (p e).fill)
        ≡ any 16 (λ (e : ℕ). not (eqb d e) && (rule_of g.rule g.ways).shares new.fill (q e).fill)
    nodes_same = any_ext 16 (λ e h. ap (λ (m : Maps). not (eqb d e) && (rule_of g.rule g.ways).shares new.fill m.fill) (same e h))

-- The policies without the counts get the verdict that the domains' policies get.
read_same : (W : ℕ) (ds : Domains) (e : ℕ) → e < 16 → read_by W (policies_of ds) e ≡ policies W ds e
unfolding read_by policies_of policies
read_same W ds e h = ap (as_read W) (from_first ds 16 e h)

pub read_policies : (g : Geometry) (ds : Domains) (c : Counts) (drops d arg : ℕ)
    → policy_refusal g (read_by g.ways (policies_of ds)) c drops d arg ≡ policy_refusal g (policies g.ways ds) c drops d arg
unfolding policy_refusal
read_policies g ds c drops d arg =
    ap (λ (n : ℕ). cond (bad_argument g.ways arg) 5 (cond (overflows arg drops c) 7 n))
    (sharing_ext g (read_by g.ways (policies_of ds)) (policies g.ways ds) d arg (read_same g.ways ds))

-- and they hold the same ways elsewhere
pub read_held : (W : ℕ) (ds : Domains) (d w : ℕ) → held_elsewhere (read_by W (policies_of ds)) d w ≡ held_elsewhere (policies W ds) d w
unfolding held_elsewhere
read_held W ds d w = any_ext 16 (λ e h. ap (λ (m : Maps). not (eqb d e) && bit m.hit w) (read_same W ds e h))

-- ---- what numbers 5, 8 and 9 let pass

pub record Passed (g : Geometry) (policy : ℕ → Maps) (e arg : ℕ) : Type 0 where
  pub good : bad_argument g.ways arg ≡ false
  pub ways_free : shares_way policy e (new_maps arg) ≡ false
  pub nodes_free : shares_node (rule_of g.rule g.ways) policy e (new_maps arg) ≡ false

-- a change that is not turned down passes them, and its drops pass number 7
pub policy_passed : (g : Geometry) (policy : ℕ → Maps) (c : Counts) (drops e arg : ℕ) → policy_refusal g policy c drops e arg ≡ 0
    → (overflows arg drops c ≡ false) × Passed g policy e arg
unfolding policy_refusal sharing_refusal
policy_passed g policy c drops e arg z =
    cases (bad_argument g.ways arg)
    (λ t. absurd (suc-ne-zero 4 (rw t at z)))
    (λ t. cases (overflows arg drops c)
    (λ f. absurd (suc-ne-zero 6 (rw (t, f) at z)))
    (λ f. cases (shares_way policy e (new_maps arg))
    (λ u. absurd (suc-ne-zero 7 (rw (t, f, u) at z)))
    (λ u. cases (shares_node (rule_of g.rule g.ways) policy e (new_maps arg))
    (λ v. absurd (suc-ne-zero 8 (rw (t, f, u, v) at z)))
    (λ v. (f, record { good = t; ways_free = u; nodes_free = v })))))

-- of the drops a verdict asks only whether they carry the count past the largest
pub drops_judged : (g : Geometry) (policy : ℕ → Maps) (c : Counts) (n m e arg : ℕ) → overflows arg n c ≡ overflows arg m c
    → policy_refusal g policy c n e arg ≡ policy_refusal g policy c m e arg
unfolding policy_refusal
drops_judged g policy c n m e arg same = ap (λ (b : Bool). cond (bad_argument g.ways arg) 5 (cond b 7 (sharing_refusal g policy e arg))) same
