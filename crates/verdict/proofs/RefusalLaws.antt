-- The numbers by which a step is turned down.
use mathlib.Core.Path.{◌≡◌, refl, sym, ap, ap₂, ◌∙◌}
use mathlib.Core.List.{[], ◌∷◌}
use lib.ListN.{get_or}
use mathlib.Core.Bool.{Bool, true, false, cond, not, ◌&&◌, ◌||◌}
use Prim.Native.Nat.{ℕ, ◌+◌, ◌^◌, ◌≤◌, ◌<◌}
use native.Mathlib.Nat.{suc-ne-zero, lt_of_le_of_lt}
use native.Mathlib.Omega.{arith}
use native.Mathlib.Numerals.{add-one}
use lib.Dec.{eqb, leb, lit<}
use lib.Bits.{bit_and, bit_or, and_le_l, or_lt}
use borrow.Author.Tests.{le-leb, lt-leb, leb-false}
use Rattle.waymap.specs.Bits.{Bits, bit, word, any, reaches}
use Rattle.waymap.proofs.Booleans.{cases}
use Rattle.waymap.proofs.BitLaws.{bit_none, bit_and_lem, bit_or_lem}
use Rattle.waymap.proofs.WordLaws.{bit_word_in, from_bits}
use Rattle.waymap.proofs.WayLaws.{any_ext, any_last, any_bits}
use Rattle.replacement.specs.Rule.{rule_of}
use Rattle.std.specs.Prelude.{Result, Ok, Err}
use Rattle.std.specs.Result.{is_err}
use Rattle.replacement.specs.Calls.{in_limits, shares_of}
use Rattle.replacement.specs.Answer.{answer_of}
use Rattle.replacement.specs.declared.Refusal.{Refusal}
use Rattle.replacement.proofs.ReplyLaws.{some_number, first_same}
use Rattle.policy.specs.declared.Maps.{Maps}
use Rattle.policy.proofs.ReadLaws.{hit_small, fill_within}
use Rattle.geometry.proofs.GeometryLaws.{sizes_passed}
use Rattle.geometry.specs.Geometry.{within, Lengths, sized, sizes_of}
use Rattle.domains.specs.Domains.{no_domain, maps_of, is_full}
use Rattle.command.specs.Kind.{Kind, kind_of, use_is, kind_is}
use Rattle.verdict.specs.Refusal.{held_elsewhere, use_refusal, policy_refusal, refusal_by, refusal}
use Rattle.domains.specs.Calls.{read_by}
use Rattle.geometry.specs.declared.Geometry.{Geometry}
use Rattle.domains.specs.declared.Counts.{Counts}
use Rattle.domains.specs.declared.Policies.{Policies}
use Rattle.command.specs.declared.Asked.{Asked}
use Rattle.command.specs.declared.Asked.TheVariants as AskedIs
use Rattle.command.specs.declared.LineUse.{LineUse}
use Rattle.command.specs.declared.LineUse.TheVariants.{Load, Store, Flush}

-- ---- number 8

-- The ways of the domains before e, gathered.
pub record Holding (ways : ℕ) (all : Policies) (d held e : ℕ) : Type 0 where
  pub within : e ≤ 16
  pub small : held < 2 ^ 16
  pub is : (w : ℕ) → bit held w ≡ any e (λ (i : ℕ). not (eqb d i) && bit (read_by ways all i).hit w)

pub none_held : (ways : ℕ) (all : Policies) (d : ℕ) → Holding ways all d 0 0
unfolding any
none_held ways all d = record { within = omega arith; small = lit< tt; is = bit_none }

pub more_held : {ways : ℕ} {all : Policies} {d held e more : ℕ} → Holding ways all d held e → e < 16 → more ≡ cond (eqb d e) 0 (read_by ways all e).hit
    → Holding ways all d (bit_or held more) (e + 1)
unfolding read_by
more_held {ways} {all} {d} {held} {e} {more} l h q = record {
  within = omega arith;
  small = or_lt 16 held more l.small (cases (eqb d e) (λ t. rw (q, t) (lit< tt)) (λ t. rw (q, t) (hit_small ways (get_or all.maps e (maps_of no_domain)))));
  is = λ w.
      let here : bit more w ≡ (not (eqb d e) && bit (read_by ways all e).hit w) =
      cases (eqb d e) (λ t. rw (q, t) (bit_none w)) (λ t. rw (q, t)) in
      bit_or_lem held more w ∙ ap₂ ◌||◌ (l.is w) here
      ∙ rw (add-one e) (sym (any_last e (λ (i : ℕ). not (eqb d i) && bit (read_by ways all i).hit w)));
}

pub all_held : {ways : ℕ} {all : Policies} {d held e : ℕ} → Holding ways all d held e → 16 ≤ e → held ≡ word 16 (held_elsewhere (read_by ways all) d)
unfolding held_elsewhere
all_held {ways} {all} {d} {held} {e} l h =
    let last : e ≡ 16 = omega (arith, l.within) in
    from_bits 16 l.small (λ w k. (rw last at l).is w)

-- a map has a way in common with the ways held elsewhere
pub common_is : (hit held : ℕ) (f : Bits) → hit < 2 ^ 16 → held ≡ word 16 f → not (eqb (bit_and hit held) 0) ≡ any 16 (λ (w : ℕ). bit hit w && f w)
common_is hit held f h e =
    sym (any_bits 16 (bit_and hit held) (lt_of_le_of_lt (and_le_l hit held) h))
    ∙ any_ext 16 (λ w k. bit_and_lem hit held w ∙ ap (λ (b : Bool). bit hit w && b) (rw e (bit_word_in 16 f w k)))

-- ---- number 9, for one other domain

-- what the answer to a conflict says: of a call within the limits, whether a node is shared
module _ (W rule fill other : ℕ) (limits : in_limits W rule ≡ true) (f : reaches W fill ≡ false) (o : reaches W other ≡ false) where
  shares_answer : (q : Result (Unit {0}) Refusal) → answer_of q ≡ shares_of W rule fill other
      → answer_of q ≡ cond ((rule_of rule W).shares fill other) 9 0 ∷ []
  unfolding shares_of
  shares_answer q e = rw (limits, f, o) at e

  pub shared_is : (q : Result (Unit {0}) Refusal) → answer_of q ≡ shares_of W rule fill other → is_err q ≡ (rule_of rule W).shares fill other
  shared_is q e = say ((rule_of rule W).shares fill other) q (shares_answer q e)
    where
      say : (s : Bool) (q : Result (Unit {0}) Refusal) → answer_of q ≡ cond s 9 0 ∷ [] → is_err q ≡ s
      say true (Ok x) e = let z : ◌≡◌ {A = ℕ} 0 9 = cc in absurd (omega arith)
      say true (Err r) e = refl
      say false (Ok x) e = refl
      say false (Err r) e = absurd (some_number r (first_same e))

-- a policy as read stays within the ways
pub policy_within : (W : ℕ) (all : Policies) (e : ℕ) {p : Maps} → p ≡ read_by W all e → reaches W p.fill ≡ false
unfolding read_by
policy_within W all e q = rw q (fill_within W (get_or all.maps e (maps_of no_domain)))

-- ---- numbers 6 and 7

-- a domain that numbers 6 and 7 let pass has room in its counts
pub not_full : (p : Maps) (c : Counts) → use_refusal p c ≡ 0 → is_full c ≡ false
unfolding use_refusal
not_full p c e =
    cases (is_full c)
    (λ t. absurd (cases (eqb p.hit 0) (λ q. let z : ◌≡◌ {A = ℕ} 6 0 = rw q at e in omega arith) (λ q. let z : ◌≡◌ {A = ℕ} 7 0 = rw (q, t) at e in
    omega arith)))
    (λ t. t)

-- ---- what is not turned down

module _ (g : Geometry) (n : Lengths) (policies : ℕ → Maps) (c : Counts) (drops d kind arg : ℕ) where
  -- the verdict by what its tests find
  pub by_sizes : {m : ℕ} → m ≡ sizes_of g n → (m ≡ 0 → ⊥) → m ≡ refusal g n policies c drops d kind arg
  unfolding sizes_of refusal
  by_sizes {m} e z =
      cases (within g)
      (λ w. cases (sized g n)
      (λ l. absurd (z (e ∙ rw (w, l))))
      (λ l. rw (w, l) (e ∙ rw (w, l))))
      (λ w. rw w (e ∙ rw w))

  module _ {m : ℕ} (e : m ≡ sizes_of g n) (z : m ≡ 0) where
    passed : (within g ≡ true) × (sized g n ≡ true)
    passed = sizes_passed g n e z

    pub by_domain_lem : 16 ≤ d → 3 ≡ refusal g n policies c drops d kind arg
    unfolding refusal
    by_domain_lem h = rw (passed.0, passed.1, le-leb 16 d h)

    by_kind : {k : Kind} {r : ℕ} → d < 16 → k ≡ kind_of kind → r ≡ refusal_by k g policies c drops d arg → r ≡ refusal g n policies c drops d kind arg
    unfolding refusal
    by_kind h k q = rw (passed.0, passed.1, lt-leb 16 d h, ← k) q

    module _ (q : Asked) (k : kind_is q ≡ kind_of kind) (h : d < 16) where
      pub by_line : (u : LineUse) → q ≡ AskedIs.Line u → {r : ℕ} → r ≡ use_refusal (policies d) c → r ≡ refusal g n policies c drops d kind arg
      unfolding refusal_by
      by_line u is {r} e = by_kind h (sym (ap kind_is is) ∙ k) (each u)
        where
          each : (x : LineUse) → r ≡ refusal_by (use_is x) g policies c drops d arg
          each Load = e
          each Store = e
          each Flush = e

      pub by_policy : {r : ℕ} → q ≡ AskedIs.Policy → r ≡ policy_refusal g policies c drops d arg → r ≡ refusal g n policies c drops d kind arg
      unfolding refusal_by
      by_policy is u = by_kind h (sym (ap kind_is is) ∙ k) u

      pub by_unknown : q ≡ AskedIs.Unknown → 4 ≡ refusal g n policies c drops d kind arg
      unfolding refusal_by
      by_unknown is = by_kind h (sym (ap kind_is is) ∙ k) refl

  -- what is known of a step that is not turned down
  pub record Stands : Type 0 where
    pub within_is : within g ≡ true
    pub sized_is : sized g n ≡ true
    pub domain_lt : d < 16
    pub kind_is_here : refusal_by (kind_of kind) g policies c drops d arg ≡ 0

  pub stands : {m : ℕ} → m ≡ refusal g n policies c drops d kind arg → m ≡ 0 → Stands
  unfolding refusal
  stands {m} q z =
      let e = sym q ∙ z in
      cases (within g)
      (λ w. cases (sized g n)
      (λ l. cases (leb 16 d)
      (λ h. absurd (suc-ne-zero 2 (rw (w, l, h) at e)))
      (λ h. record { within_is = w; sized_is = l; domain_lt = leb-false 16 d h; kind_is_here = rw (w, l, h) at e }))
      (λ l. absurd (suc-ne-zero 1 (rw (w, l) at e))))
      (λ w. absurd (suc-ne-zero 0 (rw w at e)))
