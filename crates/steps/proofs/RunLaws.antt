-- What every state of a run from a fresh cache is like.
use mathlib.Core.Path.{◌≡◌, refl, sym, ap, subst, ◌∙◌}
use mathlib.Core.Bool.{Bool, true, false}
use mathlib.Core.List.{List, [], ◌∷◌}
use Prim.Native.Nat.{ℕ, ◌*◌, ◌/◌, ◌<◌}
use native.Mathlib.Nat.{mod-lt}
use native.Mathlib.Omega.{arith}
use lib.Dec.{eqb, leb, ltb}
use lib.ListN.{length, replicate, length-replicate, get_or-replicate, get_or-eq_default}
use borrow.Author.Tests.{eqb-true, eqb-false, leb-true, leb-false, ltb-true, ltb-false}
use Rattle.waymap.specs.Bits.{bit, word}
use Rattle.waymap.proofs.Booleans.{cases}
use Rattle.replacement.specs.Rule.{rule_of}
use Rattle.row.specs.Row.{Effect}
use Rattle.policy.specs.Policy.{as_read}
use Rattle.policy.specs.declared.Maps.{Maps}
use Rattle.policy.proofs.ArgumentLaws.{good_maps}
use Rattle.command.specs.Command.{Command}
use Rattle.command.specs.Kind.{Kind, access, flush, policy, unknown, kind_of}
use Rattle.domains.specs.Domains.{no_domain, domain_of, maps_of, policies, new_domain}
use Rattle.domains.specs.declared.Domain.{Domain}
use Rattle.verdict.specs.Refusal.{use_refusal, refusal_by}
use Rattle.geometry.specs.Geometry.{within}
use Rattle.geometry.specs.Address.{set_of, tag_of}
use Rattle.geometry.specs.Inside.{Limited}
use Rattle.geometry.specs.declared.Geometry.{Geometry}
use Rattle.geometry.proofs.GeometryLaws.{limited}
use Rattle.steps.specs.Tables.{row_at}
use Rattle.steps.specs.Step.{State, Outcome, on_set, row_effect, use_line, change_policy, step_by, decided}
use Rattle.steps.specs.Run.{step_on, finally}
use Rattle.steps.specs.Fresh.{fresh_tables, fresh_domains, fresh}
use Rattle.steps.specs.Inside.{Whole, number_by, change_number, line_work}
use Rattle.steps.specs.Statements.{Kept, RunKept}
use Rattle.steps.proofs.SetLaws.{row_long}
use Rattle.steps.proofs.StateLaws.{
  step_beyond,
  step_within,
  work_long,
  line_whole,
  line_maps,
  passed,
  changed_whole,
  changed_domain,
  changed_other,
}

-- ---- what every access, flush and change of policy keeps, every run keeps

module _ (g : Geometry) (limits : within g ≡ true) (Q : State → Type 0) (whole : (s : State) → Q s → Whole g s)
    (line : (s : State) → Q s → (e : ℕ) → e < 16 → use_refusal (policies g.ways s.domains e) (domain_of s.domains e).counts ≡ 0
    → (arg : ℕ) (flushes store : Bool) → Q (use_line g (line_work flushes (rule_of g.rule g.ways) store) e arg s).state)
    (change : (s : State) → Q s → (e : ℕ) → e < 16 → (arg : ℕ) → change_number g e arg s ≡ 0
    → Q (change_policy g e arg s).state) where
  -- a step that is turned down leaves what was there
  decided_lasts : (s : State) → Q s → (n : ℕ) (o : Outcome) → (n ≡ 0 → Q o.state) → Q (decided n o s).state
  unfolding decided
  decided_lasts s q n o f = cases (eqb n 0) (λ t. rw t (f (eqb-true n 0 t))) (λ t. rw t q)

  kind_lasts : (s : State) → Q s → (e : ℕ) → e < 16 → (arg : ℕ) (y : Kind)
      → Q (decided (number_by y g e arg s) (step_by y g e arg s) s).state
  unfolding refusal_by step_by
  kind_lasts s q e k arg (access store) = decided_lasts s q _ _ (λ z. line s q e k z arg false store)
  kind_lasts s q e k arg flush = decided_lasts s q _ _ (λ z. line s q e k z arg true false)
  kind_lasts s q e k arg policy = decided_lasts s q _ _ (λ z. change s q e k arg z)
  kind_lasts s q e k arg unknown = decided_lasts s q 4 _ (λ z. absurd (omega arith))

  pub step_lasts : (c : Command) (s : State) → Q s → Q (step_on g c s).state
  step_lasts c s q =
      cases (leb 16 c.domain)
      (λ t. rw (step_beyond g limits c s (whole s q) (leb-true 16 c.domain t)) q)
      (λ t.
      rw (step_within g limits c s (whole s q) (leb-false 16 c.domain t))
      (kind_lasts s q c.domain (leb-false 16 c.domain t) c.argument (kind_of c.kind)))

  pub run_lasts : (cs : List Command) (s : State) → Q s → Q (finally g cs s)
  unfolding finally
  run_lasts [] s q = q
  run_lasts (c ∷ cs) s q = run_lasts cs (step_on g c s).state (step_lasts c s q)

-- ---- a fresh cache

module _ (g : Geometry) (limits : within g ≡ true) where
  l : Limited g
  l = limited g limits

  pub fresh_whole : Whole g (fresh g)
  unfolding fresh fresh_tables fresh_domains
  fresh_whole = record {
    shaped = record {
      limited = l;
      tags_long = length-replicate (g.sets * g.ways) 0;
      valid_long = length-replicate g.sets 0;
      dirty_long = length-replicate g.sets 0;
      words_long = length-replicate g.sets (rule_of g.rule g.ways).fresh;
    };
    sixteen = refl;
  }

  -- no domain has a way
  pub fresh_domain : (e : ℕ) → domain_of (fresh g).domains e ≡ no_domain
  unfolding fresh fresh_domains domain_of
  fresh_domain e =
      cases (ltb e 16)
      (λ t. get_or-replicate 16 e no_domain no_domain (ltb-true e 16 t))
      (λ t. get_or-eq_default (replicate 16 no_domain) no_domain (ltb-false e 16 t))

  -- ---- every state

  -- a stored policy is as it is read, and so is one with the same maps
  same_maps : (x y : Domain) → maps_of x ≡ maps_of y → as_read g.ways (maps_of y) ≡ maps_of y → as_read g.ways (maps_of x) ≡ maps_of x
  same_maps x y e = subst (λ (m : Maps). as_read g.ways m ≡ m) (sym e)

  pub fresh_kept : Kept g limits (fresh g)
  unfolding as_read word bit
  fresh_kept = record { whole = fresh_whole; as_stored = λ e. same_maps (domain_of (fresh g).domains e) no_domain (ap maps_of (fresh_domain e)) refl }

  module _ (s : State) (kept : Kept g limits s) (e : ℕ) (k : e < 16) (arg : ℕ) where
    pub inside : set_of g arg < g.sets
    unfolding set_of
    inside = mod-lt (arg / 64) l.some_set

    -- what an access or a flush does to its set, whose row stays as long
    abbrev pub worked : Bool → Bool → Effect
    worked flushes store =
        line_work flushes (rule_of g.rule g.ways) store (policies g.ways s.domains e) (tag_of g arg) (row_at g.ways (set_of g arg) s.tables)

    pub worked_long : (flushes store : Bool) → length (worked flushes store).row.tags ≡ g.ways
    worked_long flushes store =
        work_long flushes store (rule_of g.rule g.ways) (policies g.ways s.domains e) (tag_of g arg)
        (row_at g.ways (set_of g arg) s.tables)
        ∙ row_long g kept.whole.shaped (set_of g arg) inside

    pub line_kept : (flushes store : Bool) → Kept g limits (use_line g (line_work flushes (rule_of g.rule g.ways) store) e arg s).state
    unfolding use_line row_effect
    line_kept flushes store =
        let x = worked flushes store in
        let long = worked_long flushes store in
        record {
          whole = line_whole g s kept.whole e k (set_of g arg) inside x long;
          as_stored = λ f.
              same_maps (domain_of (on_set g e (set_of g arg) x s).state.domains f) (domain_of s.domains f)
              (line_maps g s kept.whole e k (set_of g arg) inside x long f) (kept.as_stored f);
        }

    pub change_kept : change_number g e arg s ≡ 0 → Kept g limits (change_policy g e arg s).state
    unfolding new_domain
    change_kept z = record {
      whole = changed_whole g e k arg s kept.whole;
      as_stored = λ f.
          cases (eqb f e)
          (λ t. rw (eqb-true f e t) new)
          (λ t.
          same_maps (domain_of (change_policy g e arg s).state.domains f) (domain_of s.domains f)
          (ap maps_of (changed_other g e k arg s kept.whole f (eqb-false f e t))) (kept.as_stored f));
    }
      where
        new : as_read g.ways (maps_of (domain_of (change_policy g e arg s).state.domains e)) ≡ maps_of (domain_of (change_policy g e arg s).state.domains e)
        new =
            rw (changed_domain g e k arg s kept.whole)
            (good_maps g.ways arg (passed g s e arg z).good)

  -- A run keeps it; so in a run from a fresh cache stored maps need no cutting.
  pub kept_lasts : (cs : List Command) (s : State) → Kept g limits s → Kept g limits (finally g cs s)
  kept_lasts = run_lasts g limits (Kept g limits) (λ s kept. kept.whole) (λ s kept e k z. line_kept s kept e k) change_kept

pub run_kept : RunKept
run_kept g limits cs = kept_lasts g limits cs (fresh g) (fresh_kept g limits)
