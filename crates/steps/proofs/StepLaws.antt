-- A step: what it gives, by what its tests find.
use mathlib.Core.Path.{◌≡◌, refl, sym, ap, fun_ext, ◌∙◌}
use mathlib.Core.Bool.{true}
use mathlib.Core.List.{List, [], ◌∷◌}
use Prim.Native.Nat.{ℕ, zero, suc, ◌/◌, ◌<◌}
use native.Mathlib.Nat.{mod-lt}
use native.Mathlib.Omega.{arith}
use lib.Dec.{eqb}
use lib.ListN.{length, get_or, set}
use borrow.Author.Tests.{ne_eqb}
use Rattle.waymap.specs.Bits.{Bits}
use Rattle.waymap.proofs.Booleans.{cases}
use Rattle.replacement.specs.Rule.{rule_of}
use Rattle.replacement.specs.Calls.{in_limits}
use Rattle.replacement.proofs.CallLaws.{ways}
use Rattle.row.specs.Row.{Row, Effect, lines_in}
use Rattle.policy.specs.Policy.{as_read, new_maps}
use Rattle.sweep.specs.Clean.{drop_ways, dropped, dropped_dirty, cleaned}
use Rattle.row.specs.Calls.{access_of, flush_of, flushes, stores, use_of}
use Rattle.policy.specs.declared.Maps.{Maps}
use Rattle.command.specs.declared.Answer.{Answer}
use Rattle.command.specs.declared.Answer.TheVariants.{Policy, Refused}
use Rattle.geometry.specs.Geometry.{sizes_of}
use Rattle.domains.specs.Domains.{no_domain, domain_of, maps_of, policies, put_domain, new_domain, used_domain}
use Rattle.command.specs.Kind.{Kind, kind_of, kind_is, use_is}
use Rattle.verdict.specs.Refusal.{use_refusal, policy_refusal, refusal}
use Rattle.domains.specs.Calls.{policies_of}
use Rattle.verdict.specs.Calls.{policy_refusal_of}
use Rattle.geometry.specs.declared.Geometry.{Geometry}
use Rattle.command.specs.declared.Asked.{Asked}
use Rattle.command.specs.declared.Asked.TheVariants as AskedIs
use Rattle.command.specs.declared.LineUse.{LineUse}
use Rattle.command.specs.declared.LineUse.TheVariants.{Load, Store, Flush}
use Rattle.domains.specs.declared.Domain.{Domain}
use Rattle.domains.specs.declared.Domains.{Domains}
use Rattle.domains.specs.declared.Policies.{Policies}
use Rattle.verdict.proofs.RefusalLaws.{by_line, by_policy, by_unknown}
use Rattle.verdict.proofs.PolicyLaws.{read_policies, read_held}
use Rattle.geometry.specs.Address.{set_of, tag_of}
use Rattle.steps.specs.Tables.{Tables, lengths, row_at, each_set, total}
use Rattle.steps.specs.Step.{State, Outcome, answers, on_set, row_effect, use_line, dropped_by, change_policy, drops_of, step_by, decided, step}
use Rattle.steps.specs.Inside.{Shaped, line_work}
use Rattle.steps.specs.Deed.{Work, on_row, work_at, Deed, unless, line_deed, drop_map, drops_by, policy_deed, put_deed}
use Rattle.steps.proofs.SetLaws.{row_long}

-- ---- a verdict, and what is done without one

pub decided_no : {n : ℕ} (done : Outcome) (s : State) → (n ≡ 0 → ⊥) → answers (Refused n) s ≡ decided n done s
unfolding decided
decided_no {n} done s h = rw (ne_eqb n 0 h)

-- ---- an access or a flush

-- on a row of W tags the call's work is the rule's
line_work_lem : (g : Geometry) (y : LineUse) (p : Maps) (tag : ℕ) (r : Row) → in_limits g.ways g.rule ≡ true → length r.tags ≡ g.ways
    → use_of y g.rule p tag r ≡ line_work (flushes y) (rule_of g.rule g.ways) (stores y) (as_read g.ways p) tag r
unfolding use_of flush_of access_of in_limits
line_work_lem g Load p tag r limits h = rw (h, limits)
line_work_lem g Store p tag r limits h = rw (h, limits)
line_work_lem g Flush p tag r limits h = rw (h, ways g.ways g.rule limits)

module _ (g : Geometry) (d : ℕ) (y : LineUse) (arg : ℕ) (t : Tables) (ds : Domains) (h : Shaped g t) where
  abbrev before : State
  before = record { tables = t; domains = ds }

  effect : Effect
  effect = row_effect g (line_work (flushes y) (rule_of g.rule g.ways) (stores y)) d arg before

  effect_is : use_of y g.rule (maps_of (domain_of ds d)) (tag_of g arg) (row_at g.ways (set_of g arg) t) ≡ effect
  unfolding effect row_effect policies set_of
  effect_is =
      line_work_lem g y (maps_of (domain_of ds d)) (tag_of g arg) (row_at g.ways (set_of g arg) t) h.limited.limits
      (row_long g h (set_of g arg) (mod-lt (arg / 64) h.limited.some_set))

  line_done :
      let w = work_at g y (maps_of (domain_of ds d)) arg t in
      answers w.answer (record { tables = w.tables; domains = put_domain d (used_domain w.answer (domain_of ds d)) ds })
      ≡ use_line g (line_work (flushes y) (rule_of g.rule g.ways) (stores y)) d arg before
  unfolding work_at on_row use_line on_set effect
  line_done = ap (λ (e : Effect). on_set g d (set_of g arg) e before) effect_is

-- ---- a change of policy

-- the drops by the policies alone are those by the domains
drops_read : (g : Geometry) (d arg : ℕ) (t : Tables) (ds : Domains)
    → drops_by g (domain_of ds d) (policies_of ds) d arg t ≡ drops_of g d arg (record { tables = t; domains = ds })
unfolding drops_by drop_map drops_of policies
drops_read g d arg t ds =
    ap (λ (held : Bits). total g.ways g.sets (lines_in (drop_ways (policies g.ways ds d) (as_read g.ways (new_maps arg)) held)) t)
    (fun_ext (read_held g.ways ds d))

-- ---- the step

-- a domain's own record put back changes nothing
pub put_own : (d : ℕ) (ds : Domains) → put_domain d (domain_of ds d) ds ≡ ds
unfolding put_domain domain_of
put_own d ds = ap (λ (xs : List Domain). record { records = xs }) (set_own ds.records d)
  where
    set_own : (xs : List Domain) (i : ℕ) → set xs i (get_or xs i no_domain) ≡ xs
    set_own [] i = refl
    set_own (x ∷ xs) zero = refl
    set_own (x ∷ xs) (suc i) = ap (λ (l : List Domain). x ∷ l) (set_own xs i)

module _ (g : Geometry) (d kind arg : ℕ) (t : Tables) (ds : Domains) where
  abbrev found : State
  found = record { tables = t; domains = ds }

  -- the step's number
  abbrev step_number : ℕ
  step_number = refusal g (lengths t) (policies g.ways ds) (domain_of ds d).counts (drops_of g d arg found) d kind arg

  -- what is turned down before a domain is looked at
  pub step_refused : {n : ℕ} → n ≡ step_number → (n ≡ 0 → ⊥) → answers (Refused n) found ≡ step g d kind arg found
  unfolding step
  step_refused e z = rw (← e) (decided_no (step_by (kind_of kind) g d arg found) found z)

  -- the domain's deed, put back: done where its number is 0, and else nothing moves
  step_done : {n : ℕ} {deed : Deed} (a : Answer) (x : Domain) (u : Tables)
      → n ≡ step_number
      → answers a (record { tables = u; domains = put_domain d x ds }) ≡ step_by (kind_of kind) g d arg found
      → deed ≡ unless n (domain_of ds d) t (record { answer = a; own = x; tables = u })
      → put_deed d deed ds ≡ step g d kind arg found
  unfolding step decided unless put_deed
  step_done {n} a x u e done f =
      ap (λ (y : Deed). put_deed d y ds) f
      ∙ rw (← e)
      (cases (eqb n 0)
      (λ z. rw z done)
      (λ z. rw (z, put_own d ds)))

  module _ (h : Shaped g t) (q : Asked) (k : kind_is q ≡ kind_of kind)
      {m : ℕ} (e : m ≡ sizes_of g (lengths t)) (z : m ≡ 0) (l : d < 16) where
    pub step_line : (y : LineUse) {deed : Deed} → q ≡ AskedIs.Line y → deed ≡ line_deed g (domain_of ds d) y arg t
        → put_deed d deed ds ≡ step g d kind arg found
    unfolding line_deed step_by policies
    step_line y is f =
        step_done w.answer (used_domain w.answer (domain_of ds d)) w.tables number
        (line_done g d y arg t ds h ∙ kind_line y (sym (ap kind_is is) ∙ k)) f
      where
        w : Work
        w = work_at g y (maps_of (domain_of ds d)) arg t

        number : use_refusal (policies g.ways ds d) (domain_of ds d).counts ≡ step_number
        number =
            by_line g (lengths t) (policies g.ways ds) (domain_of ds d).counts (drops_of g d arg found) d kind arg e z q k l y is refl

        kind_line : (y : LineUse) → use_is y ≡ kind_of kind
            → use_line g (line_work (flushes y) (rule_of g.rule g.ways) (stores y)) d arg found ≡ step_by (kind_of kind) g d arg found
        kind_line Load p = ap (λ (x : Kind). step_by x g d arg found) p
        kind_line Store p = ap (λ (x : Kind). step_by x g d arg found) p
        kind_line Flush p = ap (λ (x : Kind). step_by x g d arg found) p

    pub step_policy : {p : Policies} {deed : Deed} → q ≡ AskedIs.Policy → p ≡ policies_of ds
        → deed ≡ policy_deed g (domain_of ds d) p d arg t → put_deed d deed ds ≡ step g d kind arg found
    unfolding policy_deed policy_refusal_of step_by change_policy dropped_by policies
    step_policy {p} is o f =
        step_done (Policy n (total W g.sets (dropped_dirty old new) t)) (new_domain arg n (domain_of ds d))
        (each_set W g.sets (cleaned (rule_of g.rule W) old new) t) number
        (ap (λ (x : Kind). step_by x g d arg found) (sym (ap kind_is is) ∙ k)) f
      where
        W : ℕ
        W = g.ways

        old : Maps
        old = as_read W (maps_of (domain_of ds d))

        new : Maps
        new = as_read W (new_maps arg)

        n : ℕ
        n = total W g.sets (dropped old new) t

        own : Domain
        own = domain_of ds d

        -- the drops by the policies alone are those of the domains
        drops : drops_by g (domain_of ds d) (policies_of ds) d arg t ≡ drops_of g d arg found
        drops = drops_read g d arg t ds

        verdict : policy_refusal g (policies W ds) own.counts (drops_of g d arg found) d arg ≡ step_number
        verdict = by_policy g (lengths t) (policies W ds) own.counts (drops_of g d arg found) d kind arg e z q k l is refl

        number : policy_refusal_of g p own.counts (drops_by g own p d arg t) d arg ≡ step_number
        number =
            ap (λ (x : Policies). policy_refusal_of g x own.counts (drops_by g own x d arg t) d arg) o
            ∙ rw (h.limited.limits, drops) (read_policies g ds own.counts (drops_of g d arg found) d arg) ∙ verdict

  pub step_unknown : (q : Asked) → kind_is q ≡ kind_of kind → {m : ℕ} → m ≡ sizes_of g (lengths t) → m ≡ 0 → d < 16
      → q ≡ AskedIs.Unknown → answers (Refused 4) found ≡ step g d kind arg found
  step_unknown q k e z l is =
      step_refused (by_unknown g (lengths t) (policies g.ways ds) (domain_of ds d).counts (drops_of g d arg found) d kind arg e z q k l is)
      (λ n. omega arith)
