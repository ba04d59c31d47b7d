-- A domain's accesses to its locked lines steer nothing: the run with them and the run without them stay near.
use mathlib.Core.Path.{◌≡◌, refl, sym, ap, ap₂, subst, fun_ext, ◌∙◌}
use mathlib.Core.Bool.{Bool, true, false, and-true, and-false, true≢false}
use mathlib.Core.List.{List, [], ◌∷◌}
use Prim.Native.Nat.{ℕ, suc, ◌+◌, ◌-◌, ◌≤◌, ◌<◌}
use native.Mathlib.Omega.{arith}
use lib.Dec.{eqb, leb, ltb}
use lib.ListN.{length}
use borrow.Author.Tests.{eqb-true, eqb-false, eq-eqb, ne_eqb, leb-true, leb-false, ltb-true, ltb-false, le-ltb}
use Rattle.waymap.specs.Bits.{bit}
use Rattle.waymap.proofs.Booleans.{cases}
use Rattle.waymap.proofs.WayLaws.{any_at, any_ext, any_found}
use Rattle.replacement.specs.Rule.{Rule, rule_of}
use Rattle.row.specs.Row.{Row, is_hit, hit_way}
use Rattle.policy.specs.declared.Maps.{Maps}
use Rattle.policy.specs.Policy.{Cut}
use Rattle.command.specs.Command.{Command}
use Rattle.command.specs.Kind.{kind_of}
use Rattle.command.specs.declared.Answer.TheVariants.{Refused}
use Rattle.domains.specs.Domains.{domain_of, policies}
use Rattle.verdict.specs.Refusal.{use_refusal, refusal_by}
use Rattle.geometry.specs.Address.{set_of, tag_of}
use Rattle.geometry.specs.Geometry.{within}
use Rattle.geometry.specs.Inside.{Limited}
use Rattle.geometry.specs.declared.Geometry.{Geometry}
use Rattle.geometry.proofs.AddressLaws.{set_below}
use Rattle.geometry.proofs.GeometryLaws.{limited}
use Rattle.steps.specs.Tables.{row_at}
use Rattle.steps.specs.Step.{State, Outcome, answers, use_line, change_policy, step_by, decided}
use Rattle.steps.specs.Run.{step_on, answers_of, finally}
use Rattle.steps.specs.Inside.{Whole, change_number, line_work}
use Rattle.steps.proofs.SetLaws.{row_long}
use Rattle.steps.proofs.StateLaws.{step_beyond, step_within}
use Rattle.steps.proofs.DidLaws.{Did, turned_down, used, changed, did}
use Rattle.isolation.specs.StruckOut.{answers_to, own_answers, number_of}
use Rattle.reached.proofs.SeparateLaws.{policy_cut}
use Rattle.purge.specs.Purge.{belongs}
use Rattle.locking.specs.Once.{OnceIn}
use Rattle.locking.specs.Locked.{locked, locked_in, is_locked}
use Rattle.locking.specs.Locking.{changes, flushes, Answered, Stands, Unspent, strike, to_locked, otherwise, rest}
use Rattle.reached.specs.Reached.{Reached, Separate}
use Rattle.reached.proofs.Reached.{step_reached, reached_separate, number_same}
use Rattle.locking.proofs.WordFits.{rule, reached_fits}
use Rattle.locking.proofs.FitLaws.{hits_fit}
use Rattle.locking.proofs.OnceLaws.{reached_once}
use Rattle.locking.proofs.RowLaws.{is_locked_lem, hit_has, locked_answer, locked_steers}
use Rattle.locking.proofs.OtherLaws.{Leaves, leaves_itself, other_leaves}
use Rattle.locking.proofs.StayLaws.{Takes, by_change, by_flush, use_number, change_number_lem, policy_stays, match_stays}
use Rattle.locking.proofs.HoldLaws.{access_step, flush_step, IsAccess, is_access, access_done, LockedLine, locked_line}
use Rattle.locking.proofs.NearLaws.{verdict_same, Near, both_leave, both_use, one_uses, both_change}

module _ (g : Geometry) (limits : within g ≡ true) (d : ℕ) (low : d < 16) where
  l : Limited g
  l = limited g limits

  abbrev R : Rule
  R = rule_of g.rule g.ways

  abbrev row : State → ℕ → Row
  row s i = row_at g.ways i s.tables

  abbrev policy : State → ℕ → Maps
  policy s = policies g.ways s.domains

  -- ---- which lines are locked

  -- a lookup that hits a locked way has found a locked line
  hit_locked : (s : State) (arg : ℕ) → is_hit (row s (set_of g arg)) (policy s d).hit (tag_of g arg) ≡ true
      → locked (policy s d) (row s (set_of g arg)) (hit_way (row s (set_of g arg)) (policy s d).hit (tag_of g arg)) ≡ true → is_locked g d s arg ≡ true
  unfolding is_locked locked_in
  hit_locked s arg hit lock =
      let has = hit_has (policy s d).hit (tag_of g arg) (row s (set_of g arg)) hit in
      any_at g.ways (locked_in g d s arg) (hit_way (row s (set_of g arg)) (policy s d).hit (tag_of g arg))
      ((policy_cut g.ways s.domains d).within _ has.in_map)
      (rw (lock, has.has_tag) (eq-eqb (tag_of g arg) (tag_of g arg) refl))

  -- A step that neither changes the domain's policy nor flushes a locked line of its leaves the same lines locked.
  module _ (s : State) (r : Reached g s) (c : Command) (unchanged : changes d c ≡ true → number_of (step_on g c s).answer ≡ 0 → ⊥)
      (unflushed : flushes d (is_locked g d s) c ≡ true → number_of (step_on g c s).answer ≡ 0 → ⊥) where
    same_policy : policies g.ways (step_on g c s).state.domains d ≡ policies g.ways s.domains d
    same_policy = policy_stays g limits d low s r c (λ mine kind. unchanged (rw (eq-eqb c.domain d mine, kind)))

    takes_not : (i w : ℕ) → bit (policy s d).hit w ≡ true → bit (policy s d).fill w ≡ false → Takes g limits d low s r c (step_on g c s) i w → ⊥
    takes_not i w in_hit out_fill (by_change done mine kind) = unchanged (rw (eq-eqb c.domain d mine, kind)) done
    takes_not i w in_hit out_fill (by_flush done mine kind at hit way) =
        unflushed (rw (eq-eqb c.domain d mine, kind) (hit_locked s c.argument here lock)) done
      where
        here : is_hit (row s (set_of g c.argument)) (policy s d).hit (tag_of g c.argument) ≡ true
        here = rw at hit

        lock : locked (policy s d) (row s (set_of g c.argument)) (hit_way (row s (set_of g c.argument)) (policy s d).hit (tag_of g c.argument)) ≡ true
        lock = rw (at, way) (is_locked_lem (policy s d) (row s i) w (record {
          in_hit = in_hit;
          out_fill = out_fill;
          is_valid = subst (λ (v : ℕ). bit (row s i).valid v ≡ true) way (hit_has (policy s d).hit (tag_of g c.argument) (row s i) hit).is_valid;
        }))

    pub locks_stay : (address : ℕ) → is_locked g d (step_on g c s).state address ≡ is_locked g d s address
    unfolding is_locked locked_in locked
    locks_stay address = any_ext g.ways (λ w h. each w)
      where
        each : (w : ℕ) → locked_in g d (step_on g c s).state address w ≡ locked_in g d s address w
        each w =
            rw same_policy
            (cases (bit (policy s d).hit w)
            (λ t. cases (bit (policy s d).fill w)
            (λ u. rw (t, u))
            (λ u. let same = match_stays g limits d low s r c (set_of g address) (set_below g address l) w t u (takes_not (set_of g address) w t u) in
            rw (same.valid, same.tag)))
            (λ t. rw t))

  -- ---- one step of both runs

  module _ (n : ℕ) (a b : State) (r : Reached g a) (q : Reached g b) (near : Near g limits d low n a b) (c : Command) where
    abbrev Next : ℕ → State → State → Type 0
    Next m s t = Near g limits d low m s t

    apart_b : Separate g (policies g.ways b.domains)
    apart_b = subst (Separate g) (fun_ext near.policy_same) (reached_separate g limits a r)

    -- the same number turns both down, or neither
    both_decided : (v : ℕ) (o p : Outcome) → (v ≡ 0 → (o.answer ≡ p.answer) × Next n o.state p.state)
        → ((decided v o a).answer ≡ (decided v p b).answer) × Next n (decided v o a).state (decided v p b).state
    unfolding decided
    both_decided v o p f = cases (eqb v 0) (λ t. rw t (f (eqb-true v 0 t))) (λ t. rw t (refl, near))

    -- a neighbour's access or flush leaves the domain what it had, in either run
    other_step : (s : State) → Whole g s → Separate g (policies g.ways s.domains) → c.kind < 4 → (c.domain ≡ d → ⊥)
        → Leaves g d (step_on g c s).state s
    other_step s whole apart few other = by (did g limits c s whole)
      where
        by : {o : Outcome} → Did g c s o → Leaves g d o.state s
        by (turned_down v z) = leaves_itself g d s whole
        by (used flushes store k less is z) = other_leaves g limits d low c.domain k other flushes store c.argument s whole apart
        by (changed k is z) = absurd (omega (arith, few, is))

    -- a step that is no access and no flush: both runs turn it down by one number, or both change a policy
    data Both : Outcome → Outcome → Type 0 where
      both_refused : (v : ℕ) → (v ≡ 0 → ⊥) → Both (answers (Refused v) a) (answers (Refused v) b)
      both_changed : c.domain < 16 → c.kind ≡ 16 → Both (change_policy g c.domain c.argument a) (change_policy g c.domain c.argument b)

    high_decided : (v : ℕ) (o p : Outcome) → (v ≡ 0 → Both o p) → Both (decided v o a) (decided v p b)
    unfolding decided
    high_decided v o p f = cases (eqb v 0) (λ t. rw t (f (eqb-true v 0 t))) (λ t. rw t (both_refused v (eqb-false v 0 t)))

    high_step : 4 ≤ c.kind → Both (step_on g c a) (step_on g c b)
    unfolding kind_of refusal_by step_by
    high_step many =
        cases (leb 16 c.domain)
        (λ t. rw (step_beyond g limits c a near.whole_a (leb-true 16 c.domain t), step_beyond g limits c b near.whole_b (leb-true 16 c.domain t))
        (both_refused 3 (λ z. omega arith)))
        (λ t. rw (
          step_within g limits c a near.whole_a (leb-false 16 c.domain t),
          step_within g limits c b near.whole_b (leb-false 16 c.domain t),
          le-ltb c.kind 3 (omega arith),
          ne_eqb c.kind 3 (λ q. omega arith),
        )
        (cases (eqb c.kind 16)
        (λ u. let k : c.domain < 16 = leb-false 16 c.domain t in
        rw (u, ← (number_same g limits a b r q near.policy_same c.domain k c.argument))
        (high_decided (change_number g c.domain c.argument a) _ _ (λ z. both_changed k (eqb-true c.kind 16 u))))
        (λ u. rw u (high_decided 4 _ _ (λ z. absurd (omega arith))))))

    -- ---- a step that both runs have: an own one answers the same, and the states stay near

    pub record Goes (o p : Outcome) : Type 0 where
      pub answer_same : belongs d c ≡ true → o.answer ≡ p.answer
      pub next : Next n o.state p.state

    module _ (unchanged : changes d c ≡ true → number_of (step_on g c a).answer ≡ 0 → ⊥)
        (unflushed : flushes d (is_locked g d a) c ≡ true → number_of (step_on g c a).answer ≡ 0 → ⊥)
        (unspent : belongs d c ≡ true → number_of (step_on g c a).answer ≡ 7 → ⊥) where
      -- the domain's own access or flush
      module _ (mine : c.domain ≡ d) (fl store : Bool) (kind : fl ≡ true → c.kind ≡ 3) (is : (s : State) → Whole g s
          → step_on g c s ≡ decided (use_refusal (policy s d) (domain_of s.domains d).counts) (use_line g (line_work fl R store) d c.argument s) s) where
        abbrev verdict : ℕ
        verdict = use_refusal (policy a d) (domain_of a.domains d).counts

        abbrev after_use : State → Outcome
        after_use s = use_line g (line_work fl R store) d c.argument s

        same : verdict ≡ use_refusal (policy b d) (domain_of b.domains d).counts
        unfolding decided number_of
        same =
            verdict_same (policy a d) near.counts_same (hits_fit g limits a r d low)
            (λ z. unspent (eq-eqb c.domain d mine) (rw (is a near.whole_a, z)))
            ∙ ap (λ (p : Maps). use_refusal p (domain_of b.domains d).counts) (near.policy_same d)

        abbrev found : State → ℕ
        found s = hit_way (row s (set_of g c.argument)) (policy s d).hit (tag_of g c.argument)

        free : verdict ≡ 0 → fl ≡ true → is_hit (row a (set_of g c.argument)) (policy a d).hit (tag_of g c.argument) ≡ true
            → locked (policy a d) (row a (set_of g c.argument)) (found a) ≡ false
        unfolding decided
        free z f hit =
            cases (locked (policy a d) (row a (set_of g c.argument)) (found a))
            (λ t. absurd (unflushed (rw (eq-eqb c.domain d mine, kind f) (hit_locked a c.argument hit t))
            (rw (is a near.whole_a, z) (use_number g R fl store d c.argument a))))
            (λ t. t)

        own_goes : Goes (step_on g c a) (step_on g c b)
        own_goes =
            let pair = both_decided verdict (after_use a) (after_use b) (λ z. both_use g limits d low n a b near fl store c.argument (free z)) in
            rw (is a near.whole_a, is b near.whole_b, ← same) (record { answer_same = λ t. pair.0; next = pair.1 })

      -- any step that is no access and no flush
      high_goes : {o p : Outcome} → Both o p → Separate g (policies g.ways o.state.domains)
          → (changes d c ≡ true → number_of o.answer ≡ 0 → ⊥) → Goes o p
      high_goes (both_refused v z) after mine = record { answer_same = λ t. refl; next = near }
      high_goes (both_changed k is) after mine =
          cases (eqb c.domain d)
          (λ t. absurd (mine (rw (t, is)) (change_number_lem g c.domain c.argument a)))
          (λ t. record {
            answer_same = λ u. absurd (true≢false (sym u ∙ t));
            next = both_change g limits d low n a b near c.domain k (eqb-false c.domain d t) c.argument (reached_separate g limits a r) after;
          })

      pub goes_on : Goes (step_on g c a) (step_on g c b)
      goes_on =
          cases (ltb c.kind 4)
          (λ t. cases (eqb c.domain d)
          (λ u. line_goes (eqb-true c.domain d u) (ltb-true c.kind 4 t))
          (λ u. record {
            answer_same = λ v. absurd (true≢false (sym v ∙ u));
            next =
                both_leave g limits d low n a b near (step_on g c a).state (step_on g c b).state
                (other_step a near.whole_a (reached_separate g limits a r) (ltb-true c.kind 4 t) (eqb-false c.domain d u))
                (other_step b near.whole_b apart_b (ltb-true c.kind 4 t) (eqb-false c.domain d u));
          }))
          (λ t. high_goes (high_step (ltb-false c.kind 4 t)) (reached_separate g limits (step_on g c a).state (step_reached g c a r)) unchanged)
        where
          line_goes : c.domain ≡ d → c.kind < 4 → Goes (step_on g c a) (step_on g c b)
          line_goes mine few =
              cases (ltb c.kind 3)
              (λ t. own_goes mine false (eqb c.kind 2) (λ f. absurd (true≢false (sym f)))
              (λ s whole. access_step g limits d low c s whole mine (ltb-true c.kind 3 t)))
              (λ t. let is : c.kind ≡ 3 = omega (arith, few, ltb-false c.kind 3 t) in
              own_goes mine true false (λ f. is) (λ s whole. flush_step g limits d low c s whole mine is))

    -- ---- a step that one run lacks: the domain's access to a locked line is a hit and no more

    module _ (here : to_locked g d a c ≡ true) (unspent : belongs d c ≡ true → number_of (step_on g c a).answer ≡ 7 → ⊥) where
      abbrev at : ℕ
      at = set_of g c.argument

      is : IsAccess d (is_locked g d a) c
      is = is_access d (is_locked g d a) c here

      inside : set_of g c.argument < g.sets
      inside = set_below g c.argument l

      -- the line is in way w
      alone : (w : ℕ) → locked_in g d a c.argument w ≡ true → Next (suc n) (step_on g c a).state b
      alone w in_way =
          rw (access_done g limits d low c a near.whole_a w line.is.in_hit is.mine is.few (unspent is.owns))
          (one_uses g limits d low n a b near false (eqb c.kind 2) c.argument w
          (rw (← line.tag_is) (locked_answer (rule g limits) l.most_ways (policy a d) cut (row a at) long once w line.lock (eqb c.kind 2)))
          (rw (← line.tag_is)
          (locked_steers (rule g limits) l.most_ways (policy a d) cut (row a at) long once w line.lock (eqb c.kind 2) (row b at)
          (reached_fits g limits a r at inside) (near.rows at inside))))
        where
          line : LockedLine g limits d low c.argument w a
          line = locked_line g limits d low c.argument w a in_way

          cut : Cut g.ways (policies g.ways a.domains d)
          cut = policy_cut g.ways a.domains d

          long : length (row a at).tags ≡ g.ways
          long = row_long g near.whole_a.shaped at inside

          once : OnceIn (policy a d).hit (row a at)
          once = reached_once g limits a r d at low inside

      pub goes_alone : Next (suc n) (step_on g c a).state b
      unfolding is_locked
      goes_alone = let line = any_found g.ways (locked_in g d a c.argument) is.here in alone line.0 line.2

-- ---- a list of steps

-- a list without some steps is no longer
short : (p : Command → Bool) (cs : List Command) → length (strike p cs) ≤ length cs
unfolding strike
short p [] = omega arith
short p (c ∷ cs) = cases (p c) (λ t. rw t (omega (arith, short p cs))) (λ t. rw t (omega (arith, short p cs)))

module _ (g : Geometry) (limits : within g ≡ true) (d : ℕ) (low : d < 16) (s : State) where
  -- how many accesses are left out
  abbrev fewer : List Command → ℕ
  fewer cs = length cs - length (rest g d s cs)

  -- along both runs from near states, of which the first has the same lines locked as s
  module _ (a b : State) (n : ℕ) where
    pub record Along (cs : List Command) : Type 0 where
      pub answers_same : answers_to (otherwise g d s) cs (answers_of g cs a) ≡ own_answers g d (rest g d s cs) b
      pub ends_near : Near g limits d low (n + fewer cs) (finally g cs a) (finally g (rest g d s cs) b)

  more : {m k : ℕ} {a b : State} → m ≡ k → Near g limits d low m a b → Near g limits d low k a b
  more {m} {k} {a} {b} e = subst (λ (j : ℕ). Near g limits d low j a b) e

  pub along : (cs : List Command) (a b : State) (n : ℕ) → Reached g a → Reached g b → Near g limits d low n a b
      → ((address : ℕ) → is_locked g d a address ≡ is_locked g d s address) → Stands g d (is_locked g d s) cs a → Unspent g d cs a → Along a b n cs
  unfolding answers_to answers_of own_answers finally strike Answered
  along [] a b n r q near locks stands unspent = record { answers_same = refl; ends_near = more (omega arith) near }
  along (c ∷ cs) a b n r q near locks stands unspent =
      cases (to_locked g d s c)
      (λ t. let next = goes_alone g limits d low n a b r q near c (rw (locks c.argument) t) unspent.0 in
      let then = along cs (step_on g c a).state b (suc n) (step_reached g c a r) q next still later unspent.1 in
      record {
        answers_same = rw (t, and-false (belongs d c)) then.answers_same;
        ends_near = rw t (more (omega (arith, short (to_locked g d s) cs)) then.ends_near);
      })
      (λ t. let go = goes_on g limits d low n a b r q near c stands.unchanged.0 unflushed unspent.0 in
      let then = along cs (step_on g c a).state (step_on g c b).state n (step_reached g c a r) (step_reached g c b q) go.next still later unspent.1 in
      record {
        answers_same =
            rw (t, and-true (belongs d c))
            (cases (belongs d c) (λ u. rw u (ap₂ ◌∷◌ (go.answer_same u) then.answers_same)) (λ u. rw u then.answers_same));
        ends_near = rw t (more (omega arith) then.ends_near);
      })
    where
      unflushed : flushes d (is_locked g d a) c ≡ true → number_of (step_on g c a).answer ≡ 0 → ⊥
      unflushed e = stands.unflushed.0 (rw (← (locks c.argument)) e)

      still : (address : ℕ) → is_locked g d (step_on g c a).state address ≡ is_locked g d s address
      still address = locks_stay g limits d low a r c stands.unchanged.0 unflushed address ∙ locks address

      later : Stands g d (is_locked g d s) cs (step_on g c a).state
      later = record { unchanged = stands.unchanged.1; unflushed = stands.unflushed.1 }
