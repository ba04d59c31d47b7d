-- A step of one domain: turned down, or done.
use mathlib.Core.Path.{◌≡◌, sym, ap, ◌∙◌}
use mathlib.Core.Bool.{false, cond}
use Prim.Native.Nat.{ℕ}
use borrow.Author.Tests.{ne_eqb}
use Rattle.waymap.specs.Bits.{Bits}
use Rattle.replacement.specs.Calls.{in_limits}
use Rattle.row.specs.Row.{lines_in}
use Rattle.policy.specs.Policy.{as_read, new_maps}
use Rattle.sweep.specs.Clean.{dropped}
use Rattle.sweep.specs.Sweep.{sweep_of}
use Rattle.policy.specs.declared.Maps.{Maps}
use Rattle.command.specs.declared.Answer.{Answer}
use Rattle.command.specs.declared.LineUse.{LineUse}
use Rattle.command.specs.declared.Answer.TheVariants.{Policy, Refused}
use Rattle.sweep.specs.declared.Sweep.{Sweep}
use Rattle.domains.specs.Domains.{maps_of, is_full, overflows, new_domain, used_domain}
use Rattle.domains.specs.Calls.{read_by}
use Rattle.verdict.specs.Refusal.{use_refusal, policy_refusal}
use Rattle.verdict.specs.Calls.{policy_refusal_of}
use Rattle.geometry.specs.declared.Geometry.{Geometry}
use Rattle.domains.specs.declared.Domain.{Domain}
use Rattle.domains.specs.declared.Policies.{Policies}
use Rattle.verdict.proofs.RefusalLaws.{not_full}
use Rattle.verdict.proofs.PolicyLaws.{policy_passed, drops_judged}
use Rattle.steps.specs.Tables.{Tables, total}
use Rattle.steps.specs.Inside.{Shaped}
use Rattle.steps.proofs.DropLaws.{drop_ways_all}
use Rattle.steps.specs.Deed.{Work, RowWork, work_at, AllSwept, Deed, unless, line_deed, drop_map, drops_among, drops_by, policy_deed}
use Rattle.sweep.specs.declared.Drops.{Drops}
use Rattle.steps.proofs.SweepLaws.{all_clean}
use Rattle.steps.proofs.JudgeLaws.{drops_are}

down : {n m : ℕ} {y : Deed} (x : Domain) (t : Tables) (done : Deed) → n ≡ m → (n ≡ 0 → ⊥) → y ≡ record { answer = Refused n; own = x; tables = t }
    → y ≡ unless m x t done
unfolding unless
down {n} x t done e z f = rw (← e, ne_eqb n 0 z, f)

done_is : {n m : ℕ} {y : Deed} (x : Domain) (t : Tables) (done : Deed) → n ≡ m → n ≡ 0 → y ≡ done → y ≡ unless m x t done
unfolding unless
done_is x t done e z f = rw (← e, z, f)

-- ---- an access or a flush

module _ (g : Geometry) (x : Domain) (u : LineUse) (arg : ℕ) (t : Tables)
    {n : ℕ} (e : n ≡ use_refusal (as_read g.ways (maps_of x)) x.counts) where
  pub line_down : {y : Deed} → (n ≡ 0 → ⊥) → y ≡ record { answer = Refused n; own = x; tables = t } → y ≡ line_deed g x u arg t
  unfolding line_deed
  line_down z f = down x t _ e z f

  pub line_room : n ≡ 0 → is_full x.counts ≡ false
  line_room z = not_full (as_read g.ways (maps_of x)) x.counts (sym e ∙ z)

  pub line_done : {a : Answer} {v : Tables} {y : Deed} → n ≡ 0 → RowWork a v (work_at g u (maps_of x) arg t)
      → y ≡ record { answer = a; own = used_domain a x; tables = v } → y ≡ line_deed g x u arg t
  unfolding line_deed
  line_done z w f =
      done_is x t _ e z (f ∙ ap (λ (o : Work). record { answer = o.answer; own = used_domain o.answer x; tables = o.tables }) w)

-- ---- a change of policy

module _ (g : Geometry) (x : Domain) (p : Policies) (d arg : ℕ) (t : Tables) {n : ℕ} (drops : ℕ) (shaped : Shaped g t)
    (judged : overflows arg drops x.counts ≡ overflows arg (drops_among g.ways (maps_of x) p d arg t.valid) x.counts)
    (e : n ≡ policy_refusal_of g p x.counts drops d arg) where
  -- the verdict on the drops as they are
  number_is : n ≡ policy_refusal_of g p x.counts (drops_by g x p d arg t) d arg
  unfolding policy_refusal_of
  number_is =
      e
      ∙ ap (λ (r : ℕ). cond (in_limits g.ways g.rule) r 1)
      (drops_judged g (read_by g.ways p) x.counts drops (drops_by g x p d arg t) d arg
      (judged ∙ ap (λ (m : ℕ). overflows arg m x.counts) (drops_are g x p d arg t shaped)))

  pub policy_down : {y : Deed} → (n ≡ 0 → ⊥) → y ≡ record { answer = Refused n; own = x; tables = t } → y ≡ policy_deed g x p d arg t
  unfolding policy_deed
  policy_down z f = down x t _ number_is z f

  module _ {new : Maps} {sweep : Sweep} {done : Drops} {v : Tables} (z : n ≡ 0) (m : new ≡ new_maps arg)
      (s : sweep ≡ sweep_of g.ways g.rule (maps_of x) new) (a : AllSwept g sweep g.sets t v done.dropped done.dirty) where
    -- what was dropped fits its count
    pub policy_room : overflows arg done.dropped x.counts ≡ false
    unfolding policy_refusal_of drops_by drop_map dropped
    policy_room =
        let whole : policy_refusal_of g p x.counts (drops_by g x p d arg t) d arg ≡ 0 = sym number_is ∙ z in
        let number : policy_refusal g (read_by g.ways p) x.counts (drops_by g x p d arg t) d arg ≡ 0 = rw shaped.limited.limits at whole in
        let passes = policy_passed g (read_by g.ways p) x.counts (drops_by g x p d arg t) d arg number in
        let all = all_clean g (maps_of x) (new_maps arg) t shaped a (s ∙ ap (sweep_of g.ways g.rule (maps_of x)) m) in
        ap (λ (k : ℕ). overflows arg k x.counts)
        (all.1
        ∙ ap (λ (map : Bits). total g.ways g.sets (lines_in map) t)
        (sym (drop_ways_all g.ways (read_by g.ways p) (as_read g.ways (maps_of x)) d arg passes.1.ways_free)))
        ∙ passes.0

    pub policy_done : {y : Deed} → y ≡ record { answer = Policy done.dropped done.dirty; own = new_domain arg done.dropped x; tables = v }
        → y ≡ policy_deed g x p d arg t
    unfolding policy_deed
    policy_done f =
        let all = all_clean g (maps_of x) (new_maps arg) t shaped a (s ∙ ap (sweep_of g.ways g.rule (maps_of x)) m) in
        done_is x t _ number_is z
        (f
        ∙ (λ i. record { answer = Policy (all.1 i) (all.2 i); own = new_domain arg (all.1 i) x; tables = all.0 i }))
