-- A way that is in a domain's hit map and not in its fill map: what a step leaves there.
use mathlib.Core.Path.{◌≡◌, refl, sym, ap, subst, ◌∙◌}
use mathlib.Core.Bool.{Bool, true, false, xor}
use Prim.Native.Nat.{ℕ, ◌<◌}
use lib.Dec.{eqb}
use lib.ListN.{length}
use borrow.Author.Tests.{eqb-true, eqb-false}
use Rattle.waymap.specs.Bits.{bit}
use Rattle.waymap.proofs.Booleans.{cases, not_both}
use Rattle.replacement.specs.Rule.{Rule, rule_of}
use Rattle.row.specs.Row as Row
use Rattle.row.specs.Row.{Row, Effect, is_hit, hit_way}
use Rattle.row.specs.View.{SameMatch}
use Rattle.row.proofs.LineLaws.{same_line, line_match, access_keeps, flush_spares}
use Rattle.policy.specs.Policy.{as_read, new_maps, Cut}
use Rattle.policy.specs.declared.Maps.{Maps}
use Rattle.sweep.specs.Clean.{moved}
use Rattle.sweep.proofs.CleanLaws.{clean_leaves}
use Rattle.command.specs.Answer.{answer_of}
use Rattle.command.specs.Command.{Command}
use Rattle.domains.specs.Domains.{policies}
use Rattle.geometry.specs.Address.{set_of, tag_of}
use Rattle.geometry.specs.Geometry.{within}
use Rattle.geometry.specs.Inside.{Limited}
use Rattle.geometry.specs.declared.Geometry.{Geometry}
use Rattle.geometry.proofs.AddressLaws.{set_below}
use Rattle.geometry.proofs.GeometryLaws.{limited}
use Rattle.steps.specs.Tables.{row_at}
use Rattle.steps.specs.Step.{State, Outcome, row_effect, use_line, on_set, change_policy}
use Rattle.steps.specs.Run.{step_on}
use Rattle.steps.specs.Inside.{Whole, line_work}
use Rattle.steps.proofs.SetLaws.{row_long}
use Rattle.steps.specs.Statements.{Kept}
use Rattle.steps.proofs.RunLaws.{worked, worked_long}
use Rattle.steps.proofs.StateLaws.{line_policy, line_row, line_row_other, changed_policy, changed_policy_other, changed_row}
use Rattle.steps.proofs.DidLaws.{Did, turned_down, used, changed, did}
use Rattle.isolation.specs.StruckOut.{number_of}
use Rattle.isolation.proofs.RowUnwinding.{own_unheld}
use Rattle.reached.proofs.SeparateLaws.{policy_cut}
use Rattle.reached.specs.Reached.{Reached, Separate}
use Rattle.reached.proofs.Reached.{step_reached, reached_kept, reached_separate}
use Rattle.locking.proofs.WordFits.{rule}
use Rattle.locking.proofs.OtherLaws.{other_leaves}

-- ---- an access, a flush or a policy change that is done has no refusal's number

module _ (R : Rule) (p : Maps) (tag : ℕ) (store : Bool) (r : Row) where
  access_number : (hit some room : Bool) → number_of (answer_of (Row.access_by hit some room R p tag store r).answer) ≡ 0
  unfolding Row.access_by Row.hit_at Row.fill_at Row.evict_at number_of
  access_number true some room = refl
  access_number false false room = refl
  access_number false true true = refl
  access_number false true false = refl

  flush_number : (hit : Bool) (w : ℕ) → number_of (answer_of (Row.flush_at hit w r).answer) ≡ 0
  unfolding Row.flush_at number_of
  flush_number true w = refl
  flush_number false w = refl

  work_number : (flushes : Bool) → number_of (answer_of (line_work flushes R store p tag r).answer) ≡ 0
  unfolding Row.access Row.flush
  work_number true = flush_number _ _
  work_number false = access_number _ _ _

pub use_number : (g : Geometry) (R : Rule) (flushes store : Bool) (e arg : ℕ) (s : State) → number_of (use_line g (line_work flushes R store) e arg s).answer ≡ 0
unfolding use_line on_set row_effect
use_number g R flushes store e arg s = work_number R _ _ store _ flushes

pub change_number_lem : (g : Geometry) (e arg : ℕ) (s : State) → number_of (change_policy g e arg s).answer ≡ 0
unfolding change_policy number_of
change_number_lem g e arg s = refl

-- ---- another domain's change of policy moves none of a domain's ways: neither its old hit map nor its new one has them

module _ (g : Geometry) (limits : within g ≡ true) (d : ℕ) (low : d < 16) (s : State) (whole : Whole g s) (apart : Separate g (policies g.ways s.domains))
    (e : ℕ) (k : e < 16) (n : e ≡ d → ⊥) (arg : ℕ) (after : Separate g (policies g.ways (change_policy g e arg s).state.domains)) (w : ℕ)
    (in_hit : bit (policies g.ways s.domains d).hit w ≡ true) where
  new_free : bit (as_read g.ways (new_maps arg)).hit w ≡ false
  new_free =
      ap (λ (p : Maps). bit p.hit w) (sym (changed_policy g e k arg s whole))
      ∙ not_both (bit (policies g.ways (change_policy g e arg s).state.domains d).hit w)
      (bit (policies g.ways (change_policy g e arg s).state.domains e).hit w) (after.ways_apart d e low k (λ q. n (sym q)) w)
      (ap (λ (p : Maps). bit p.hit w) (changed_policy_other g e k arg s whole d (λ q. n (sym q))) ∙ in_hit)

  pub unmoved : moved (policies g.ways s.domains e) (as_read g.ways (new_maps arg)) w ≡ false
  unfolding moved xor
  unmoved =
      rw (
        own_unheld g (limited g limits) d low (policies g.ways s.domains) (policy_cut g.ways s.domains) apart w in_hit e k n,
        new_free,
      )

-- ---- one way of one set

module _ (g : Geometry) (limits : within g ≡ true) (d : ℕ) (low : d < 16) (s : State) (r : Reached g s) (c : Command) where
  l : Limited g
  l = limited g limits

  abbrev R : Rule
  R = rule_of g.rule g.ways

  abbrev policy : ℕ → Maps
  policy = policies g.ways s.domains

  cut : (e : ℕ) → Cut g.ways (policies g.ways s.domains e)
  cut = policy_cut g.ways s.domains

  abbrev row : ℕ → State → Row
  row i t = row_at g.ways i t.tables

  kept : Kept g limits s
  kept = reached_kept g limits s r

  whole : Whole g s
  whole = kept.whole

  apart : Separate g (policies g.ways s.domains)
  apart = reached_separate g limits s r

  -- the step takes the way from the domain: it is done, and it changes the domain's policy, or it is a flush of the domain's that hits the way
  pub data Takes (o : Outcome) (i w : ℕ) : Type 0 where
    by_change : number_of o.answer ≡ 0 → c.domain ≡ d → c.kind ≡ 16 → Takes o i w
    by_flush : number_of o.answer ≡ 0 → c.domain ≡ d → c.kind ≡ 3 → set_of g c.argument ≡ i
        → is_hit (row i s) (policy d).hit (tag_of g c.argument) ≡ true → hit_way (row i s) (policy d).hit (tag_of g c.argument) ≡ w → Takes o i w

  -- Unless the step is an accepted change of the domain's policy, the policy stays.
  policy_did : (o : Outcome) → Did g c s o → (c.domain ≡ d → c.kind ≡ 16 → number_of o.answer ≡ 0 → ⊥)
      → policies g.ways o.state.domains d ≡ policies g.ways s.domains d
  unfolding use_line row_effect
  policy_did o (turned_down m z) n = refl
  policy_did o (used flushes store k few is z) n =
      line_policy g s whole c.domain k (set_of g c.argument) (set_below g c.argument l)
      (worked g limits s kept c.domain k c.argument flushes store) (worked_long g limits s kept c.domain k c.argument flushes store) d
  policy_did o (changed k is z) n =
      cases (eqb d c.domain)
      (λ t. absurd (n (sym (eqb-true d c.domain t)) is (change_number_lem g c.domain c.argument s)))
      (λ t. changed_policy_other g c.domain k c.argument s whole d (eqb-false d c.domain t))

  pub policy_stays : (c.domain ≡ d → c.kind ≡ 16 → number_of (step_on g c s).answer ≡ 0 → ⊥)
      → policies g.ways (step_on g c s).state.domains d ≡ policies g.ways s.domains d
  policy_stays = policy_did (step_on g c s) (did g limits c s whole)

  -- Unless it takes a way from the domain, the way's valid bit and tag stay, if the way is in the hit map and not in the fill map.
  module _ (i : ℕ) (inside : i < g.sets) (w : ℕ) (in_hit : bit (policy d).hit w ≡ true) (out_fill : bit (policy d).fill w ≡ false) where
    -- the domain's own access or flush
    own_row : (flushes store : Bool) → (flushes ≡ true → is_hit (row i s) (policy d).hit (tag_of g c.argument) ≡ true
        → hit_way (row i s) (policy d).hit (tag_of g c.argument) ≡ w → ⊥)
        → SameMatch (line_work flushes R store (policy d) (tag_of g c.argument) (row i s)).row (row i s) w
    own_row true store n =
        line_match (flush_spares _ _ (rule g limits).isolates l.most_ways (policy d) (cut d) (tag_of g c.argument) (row i s)
        (row_long g whole.shaped i inside) w ((cut d).within w in_hit) (n refl))
    own_row false store n =
        access_keeps _ _ (rule g limits).isolates l.most_ways (policy d) (cut d) (tag_of g c.argument) (row i s)
        (row_long g whole.shaped i inside) store w ((cut d).within w in_hit) out_fill

    own_use : (flushes store : Bool) → (flushes ≡ true → set_of g c.argument ≡ i → is_hit (row i s) (policy d).hit (tag_of g c.argument) ≡ true
        → hit_way (row i s) (policy d).hit (tag_of g c.argument) ≡ w → ⊥)
        → SameMatch (row i (use_line g (line_work flushes R store) d c.argument s).state) (row i s) w
    unfolding use_line row_effect
    own_use flushes store n =
        cases (eqb i at)
        (λ t. let same : i ≡ at = eqb-true i at t in
        rw (ap (λ (j : ℕ). row_at g.ways j (on_set g d at x s).state.tables) same ∙ line_row g s whole d low at in_set x long
        ∙ ap (λ (j : ℕ). (line_work flushes R store (policy d) (tag_of g c.argument) (row j s)).row) (sym same))
        (own_row flushes store (λ f. n f (sym same))))
        (λ t. rw (line_row_other g s whole d low at in_set x long i (eqb-false i at t)) (line_match (same_line (row i s) w)))
      where
        at : ℕ
        at = set_of g c.argument

        in_set : set_of g c.argument < g.sets
        in_set = set_below g c.argument l

        x : Effect
        x = worked g limits s kept d low c.argument flushes store

        long : length x.row.tags ≡ g.ways
        long = worked_long g limits s kept d low c.argument flushes store

    match_did : (o : Outcome) → Did g c s o → Separate g (policies g.ways o.state.domains) → (Takes o i w → ⊥) → SameMatch (row i o.state) (row i s) w
    match_did o (turned_down m z) after n = line_match (same_line (row i s) w)
    match_did o (used flushes store k few is z) after n =
        cases (eqb c.domain d)
        (λ t. let mine : c.domain ≡ d = eqb-true c.domain d t in
        subst (λ (e : ℕ). SameMatch (row i (use_line g (line_work flushes R store) e c.argument s).state) (row i s) w) (sym mine)
        (own_use flushes store
        (λ f at hit way. n (by_flush (use_number g R flushes store c.domain c.argument s) mine (eqb-true c.kind 3 (is ∙ f)) at hit way))))
        (λ t. line_match (((other_leaves g limits d low c.domain k (eqb-false c.domain d t) flushes store c.argument s whole apart).rows i inside).lines
        w in_hit))
    match_did o (changed k is z) after n =
        cases (eqb c.domain d)
        (λ t. absurd (n (by_change (change_number_lem g c.domain c.argument s) (eqb-true c.domain d t) is)))
        (λ t. rw (changed_row g c.domain k c.argument s whole i inside)
        (line_match (clean_leaves _ R l.most_ways (policy c.domain) (as_read g.ways (new_maps c.argument)) (row i s) w ((cut d).within w in_hit)
        (unmoved g limits d low s whole apart c.domain k (eqb-false c.domain d t) c.argument after w in_hit))))

    pub match_stays : (Takes (step_on g c s) i w → ⊥) → SameMatch (row i (step_on g c s).state) (row i s) w
    match_stays = match_did (step_on g c s) (did g limits c s whole) (reached_separate g limits (step_on g c s).state (step_reached g c s r))
