-- Two runs of which one lacks some of a domain's accesses to its locked lines: what a step makes of two states that are near.
use mathlib.Core.Path.{◌≡◌, refl, sym, ap, subst, ◌∙◌}
use mathlib.Core.Bool.{Bool, true, false}
use Prim.Native.Nat.{ℕ, suc, ◌+◌, ◌≤◌, ◌<◌}
use native.Mathlib.Omega.{arith}
use lib.Dec.{eqb}
use lib.ListN.{length}
use borrow.Author.Tests.{eqb-true, eqb-false, ne_eqb}
use Rattle.waymap.specs.Bits.{bit, digit}
use Rattle.waymap.proofs.Booleans.{cases}
use Rattle.replacement.specs.Rule.{Rule, rule_of}
use Rattle.row.specs.Row.{Row, Effect, is_hit, hit_way}
use Rattle.row.specs.View.{SameLine}
use Rattle.policy.specs.Policy.{as_read, new_maps}
use Rattle.policy.specs.declared.Maps.{Maps}
use Rattle.sweep.specs.Clean.{cleaned}
use Rattle.sweep.proofs.CleanLaws.{clean_leaves}
use Rattle.command.specs.Answer.{answer_of}
use Rattle.command.specs.declared.Answer.{Answer}
use Rattle.command.specs.declared.Answer.TheVariants.{Hit, Fill, Evict, Pass, Flush, Absent, Policy, Refused}
use Rattle.domains.specs.Domains.{domain_of, maps_of, policies, counted, is_full}
use Rattle.domains.specs.declared.Counts.{Counts}
use Rattle.domains.proofs.CountLaws.{unspent}
use Rattle.verdict.specs.Refusal.{use_refusal}
use Rattle.geometry.specs.Address.{set_of, tag_of}
use Rattle.geometry.specs.Geometry.{within}
use Rattle.geometry.specs.Inside.{Limited}
use Rattle.geometry.specs.declared.Geometry.{Geometry}
use Rattle.geometry.proofs.AddressLaws.{set_below}
use Rattle.geometry.proofs.GeometryLaws.{limited}
use Rattle.steps.specs.Tables.{row_at}
use Rattle.steps.specs.Step.{State, on_set, row_effect, use_line, change_policy}
use Rattle.steps.specs.Inside.{Whole, line_work}
use Rattle.steps.proofs.SetLaws.{row_long}
use Rattle.steps.proofs.StateLaws.{
  work_long,
  line_whole,
  line_domain,
  line_maps,
  line_policy,
  line_row,
  line_row_other,
  changed_whole,
  changed_other,
  changed_policy_other,
  changed_row,
  changed_same,
}
use Rattle.reached.proofs.SeparateLaws.{policy_cut}
use Rattle.locking.specs.Locked.{locked, SameUnlocked}
use Rattle.locking.specs.Locking.{SameButHits}
use Rattle.reached.specs.Reached.{Separate}
use Rattle.locking.proofs.WordFits.{rule}
use Rattle.locking.proofs.RowLaws.{own_access, own_flush, around}
use Rattle.locking.proofs.OtherLaws.{Leaves}
use Rattle.locking.proofs.StayLaws.{unmoved}

-- ---- counts

-- an answer moves counts that are the same but for the hits alike
pub counted_same : {n : ℕ} {c k : Counts} (a : Answer) → SameButHits n c k → SameButHits n (counted a c) (counted a k)
unfolding counted
counted_same (Hit w) s = record {
  hits = omega (arith, s.hits);
  misses = s.misses;
  evicted = s.evicted;
  written = s.written;
  flushed = s.flushed;
  fills = s.fills;
  dropped = s.dropped;
}
counted_same (Fill w) s = record {
  hits = s.hits;
  misses = ap (λ (m : ℕ). m + 1) s.misses;
  evicted = s.evicted;
  written = s.written;
  flushed = s.flushed;
  fills = ap (λ (m : ℕ). m + 1) s.fills;
  dropped = s.dropped;
}
counted_same (Evict w tag dirty) s = record {
  hits = s.hits;
  misses = ap (λ (m : ℕ). m + 1) s.misses;
  evicted = ap (λ (m : ℕ). m + 1) s.evicted;
  written = ap (λ (m : ℕ). m + digit dirty) s.written;
  flushed = s.flushed;
  fills = ap (λ (m : ℕ). m + 1) s.fills;
  dropped = s.dropped;
}
counted_same Pass s = record {
  hits = s.hits;
  misses = ap (λ (m : ℕ). m + 1) s.misses;
  evicted = s.evicted;
  written = s.written;
  flushed = s.flushed;
  fills = s.fills;
  dropped = s.dropped;
}
counted_same (Flush w dirty) s = record {
  hits = s.hits;
  misses = s.misses;
  evicted = s.evicted;
  written = ap (λ (m : ℕ). m + digit dirty) s.written;
  flushed = ap (λ (m : ℕ). m + 1) s.flushed;
  fills = s.fills;
  dropped = s.dropped;
}
counted_same Absent s = s
counted_same (Policy dropped dirty) s = s
counted_same (Refused m) s = s

-- a hit in one run alone
pub counted_hit : {n : ℕ} {c k : Counts} (w : ℕ) → SameButHits n c k → SameButHits (suc n) (counted (Hit w) c) k
unfolding counted
counted_hit w s = record {
  hits = omega (arith, s.hits);
  misses = s.misses;
  evicted = s.evicted;
  written = s.written;
  flushed = s.flushed;
  fills = s.fills;
  dropped = s.dropped;
}

-- where the run with more hits is not refused by 7, neither is the other
pub verdict_same : {n : ℕ} (p : Maps) {c k : Counts} → SameButHits n c k → c.hits ≤ 4294967295 → (use_refusal p c ≡ 7 → ⊥)
    → use_refusal p c ≡ use_refusal p k
unfolding use_refusal is_full
verdict_same {n} p {c} {k} s most seven =
    cases (eqb p.hit 0)
    (λ t. rw t)
    (λ t. cases (is_full c) (λ u. absurd (seven (rw (t, u)))) (λ u. rw (t, u, none u)))
  where
    none : is_full c ≡ false → is_full k ≡ false
    none u =
        let room = unspent c u in
        rw (
          ne_eqb k.hits 4294967295 (λ e. room.hits (omega (arith, s.hits, most, e))),
          ne_eqb k.misses 4294967295 (λ e. room.misses (s.misses ∙ e)),
          ne_eqb k.evicted 4294967295 (λ e. room.evicted (s.evicted ∙ e)),
          ne_eqb k.written 4294967295 (λ e. room.written (s.written ∙ e)),
          ne_eqb k.flushed 4294967295 (λ e. room.flushed (s.flushed ∙ e)),
          ne_eqb k.fills 4294967295 (λ e. room.fills (s.fills ∙ e)),
          ne_eqb k.dropped 4294967295 (λ e. room.dropped (s.dropped ∙ e)),
        )

-- ---- near states

module _ (g : Geometry) (limits : within g ≡ true) (d : ℕ) (low : d < 16) where
  l : Limited g
  l = limited g limits

  abbrev R : Rule
  R = rule_of g.rule g.ways

  abbrev row : State → ℕ → Row
  row s i = row_at g.ways i s.tables

  abbrev policy : State → ℕ → Maps
  policy s = policies g.ways s.domains

  -- The first has n hits of the domain more; all policies, the domain's maps and its other counts are the same, and every set looks the same to it but
  -- for the dirty marks of its locked lines.
  pub record Near (n : ℕ) (a b : State) : Type 0 where
    pub whole_a : Whole g a
    pub whole_b : Whole g b
    pub policy_same : (e : ℕ) → policy a e ≡ policy b e
    pub maps_same : maps_of (domain_of a.domains d) ≡ maps_of (domain_of b.domains d)
    pub counts_same : SameButHits n (domain_of a.domains d).counts (domain_of b.domains d).counts
    pub rows : (i : ℕ) → i < g.sets → SameUnlocked R (policy a d) (row a i) (row b i)

  module _ (n : ℕ) (a b : State) (near : Near n a b) where
    long_a : (i : ℕ) → i < g.sets → length (row a i).tags ≡ g.ways
    long_a i h = row_long g near.whole_a.shaped i h

    long_b : (i : ℕ) → i < g.sets → length (row b i).tags ≡ g.ways
    long_b i h = row_long g near.whole_b.shaped i h

    -- rows that look the same under one policy do so under one that is the same
    under : {p q : Maps} {r t : Row} → p ≡ q → SameUnlocked R q r t → SameUnlocked R p r t
    under {p} {q} {r} {t} e = subst (λ (m : Maps). SameUnlocked R m r t) (sym e)

    -- ---- steps that leave the domain what it had, in both runs

    pub both_leave : (t u : State) → Leaves g d t a → Leaves g d u b → Near n t u
    both_leave t u left right = record {
      whole_a = left.whole;
      whole_b = right.whole;
      policy_same = λ e. left.policy_same e ∙ near.policy_same e ∙ sym (right.policy_same e);
      maps_same = ap maps_of left.domain_same ∙ near.maps_same ∙ ap maps_of (sym right.domain_same);
      counts_same = rw (left.domain_same, right.domain_same) near.counts_same;
      rows = λ i h.
          let seen =
          subst (λ (p : Maps). (w : ℕ) → bit p.hit w ≡ true → SameLine (row u i) (row b i) w) (sym (near.policy_same d)) (right.rows i h).lines in
          under (left.policy_same d)
          (around (rule g limits) l.most_ways (policy a d) (policy_cut g.ways a.domains d) (row a i) (row b i) (long_a i h) (long_b i h)
          (near.rows i h) (row t i) (row u i) (left.rows i h).lines seen
          (λ x e.
          (left.rows i h).own x e ∙ (near.rows i h).own x e
          ∙ sym ((right.rows i h).own x (subst (λ (p : Maps). R.own p.fill x ≡ true) (near.policy_same d) e))));
    }

    -- ---- the domain's own access or flush, in both runs

    module _ (flushes store : Bool) (arg : ℕ) where
      abbrev at : ℕ
      at = set_of g arg

      inside : set_of g arg < g.sets
      inside = set_below g arg l

      abbrev work : State → Effect
      work s = line_work flushes R store (policy s d) (tag_of g arg) (row s (set_of g arg))

      work_fits_a : length (line_work flushes R store (policy a d) (tag_of g arg) (row a (set_of g arg))).row.tags ≡ g.ways
      work_fits_a = work_long flushes store R (policy a d) (tag_of g arg) (row a (set_of g arg)) ∙ long_a (set_of g arg) inside

      work_fits_b : length (line_work flushes R store (policy b d) (tag_of g arg) (row b (set_of g arg))).row.tags ≡ g.ways
      work_fits_b = work_long flushes store R (policy b d) (tag_of g arg) (row b (set_of g arg)) ∙ long_b (set_of g arg) inside

      -- on its row
      row_works : (flushes ≡ true → is_hit (row a at) (policy a d).hit (tag_of g arg) ≡ true
          → locked (policy a d) (row a at) (hit_way (row a at) (policy a d).hit (tag_of g arg)) ≡ false)
          → ((work a).answer ≡ (work b).answer) × SameUnlocked R (policy a d) (work a).row (work b).row
      row_works free = rw (← (near.policy_same d)) (pick flushes free)
        where
          pick : (f : Bool) → (f ≡ true → is_hit (row a at) (policy a d).hit (tag_of g arg) ≡ true
              → locked (policy a d) (row a at) (hit_way (row a at) (policy a d).hit (tag_of g arg)) ≡ false)
              → ((line_work f R store (policy a d) (tag_of g arg) (row a at)).answer ≡ (line_work f R store (policy a d) (tag_of g arg) (row b at)).answer)
              × SameUnlocked R (policy a d) (line_work f R store (policy a d) (tag_of g arg) (row a at)).row
              (line_work f R store (policy a d) (tag_of g arg) (row b at)).row
          pick true spared =
              own_flush (rule g limits) l.most_ways (policy a d) (policy_cut g.ways a.domains d) (row a at) (row b at) (long_a at inside)
              (long_b at inside) (near.rows at inside) (tag_of g arg) (spared refl)
          pick false spared =
              own_access (rule g limits) l.most_ways (policy a d) (policy_cut g.ways a.domains d) (row a at) (row b at) (long_a at inside)
              (long_b at inside) (near.rows at inside) (tag_of g arg) store

      pub both_use : (flushes ≡ true → is_hit (row a at) (policy a d).hit (tag_of g arg) ≡ true
          → locked (policy a d) (row a at) (hit_way (row a at) (policy a d).hit (tag_of g arg)) ≡ false)
          → ((use_line g (line_work flushes R store) d arg a).answer ≡ (use_line g (line_work flushes R store) d arg b).answer)
          × Near n (use_line g (line_work flushes R store) d arg a).state (use_line g (line_work flushes R store) d arg b).state
      unfolding use_line row_effect on_set
      both_use free = (
        ap answer_of (row_works free).0,
        record {
          whole_a = line_whole g a near.whole_a d low at inside (work a) work_fits_a;
          whole_b = line_whole g b near.whole_b d low at inside (work b) work_fits_b;
          policy_same = λ e.
              line_policy g a near.whole_a d low at inside (work a) work_fits_a e ∙ near.policy_same e
              ∙ sym (line_policy g b near.whole_b d low at inside (work b) work_fits_b e);
          maps_same =
              line_maps g a near.whole_a d low at inside (work a) work_fits_a d ∙ near.maps_same
              ∙ sym (line_maps g b near.whole_b d low at inside (work b) work_fits_b d);
          counts_same =
              rw (
                line_domain g a near.whole_a d low at inside (work a) work_fits_a,
                line_domain g b near.whole_b d low at inside (work b) work_fits_b,
                ← (row_works free).0,
              )
              (counted_same (work a).answer near.counts_same);
          rows = λ i h.
              under (line_policy g a near.whole_a d low at inside (work a) work_fits_a d)
              (cases (eqb i at)
              (λ t. rw (
                eqb-true i at t,
                line_row g a near.whole_a d low at inside (work a) work_fits_a,
                line_row g b near.whole_b d low at inside (work b) work_fits_b,
              ) (row_works free).1)
              (λ t. rw (
                line_row_other g a near.whole_a d low at inside (work a) work_fits_a i (eqb-false i at t),
                line_row_other g b near.whole_b d low at inside (work b) work_fits_b i (eqb-false i at t),
              ) (near.rows i h)));
        },
      )

      -- its access to a locked line, in one run alone
      pub one_uses : (w : ℕ) → (work a).answer ≡ Hit w → SameUnlocked R (policy a d) (work a).row (row b at)
          → Near (suc n) (use_line g (line_work flushes R store) d arg a).state b
      unfolding use_line row_effect
      one_uses w is same = record {
        whole_a = line_whole g a near.whole_a d low at inside (work a) work_fits_a;
        whole_b = near.whole_b;
        policy_same = λ e. line_policy g a near.whole_a d low at inside (work a) work_fits_a e ∙ near.policy_same e;
        maps_same = line_maps g a near.whole_a d low at inside (work a) work_fits_a d ∙ near.maps_same;
        counts_same = rw (line_domain g a near.whole_a d low at inside (work a) work_fits_a, is) (counted_hit w near.counts_same);
        rows = λ i h.
            under (line_policy g a near.whole_a d low at inside (work a) work_fits_a d)
            (cases (eqb i at)
            (λ t. rw (eqb-true i at t, line_row g a near.whole_a d low at inside (work a) work_fits_a) same)
            (λ t. rw (line_row_other g a near.whole_a d low at inside (work a) work_fits_a i (eqb-false i at t)) (near.rows i h)));
      }

    -- ---- another domain's change of policy, in both runs

    module _ (e : ℕ) (k : e < 16) (other : e ≡ d → ⊥) (arg : ℕ) (apart : Separate g (policy a))
        (after : Separate g (policies g.ways (change_policy g e arg a).state.domains)) where
      abbrev new : Maps
      new = as_read g.ways (new_maps arg)

      still : (w : ℕ) → bit (policy a d).hit w ≡ true → (r : Row) → SameLine (cleaned R (policy a e) new r) r w
      still w t r =
          clean_leaves _ R l.most_ways (policy a e) new r w ((policy_cut g.ways a.domains d).within w t)
          (unmoved g limits d low a near.whole_a apart e k other arg after w t)

      pub both_change : Near n (change_policy g e arg a).state (change_policy g e arg b).state
      unfolding cleaned
      both_change = record {
        whole_a = changed_whole g e k arg a near.whole_a;
        whole_b = changed_whole g e k arg b near.whole_b;
        policy_same = changed_same g e k arg a b near.whole_a near.whole_b near.policy_same;
        maps_same = ap maps_of mine_a ∙ near.maps_same ∙ ap maps_of (sym mine_b);
        counts_same = rw (mine_a, mine_b) near.counts_same;
        rows = λ i h.
            under (changed_policy_other g e k arg a near.whole_a d (λ q. other (sym q)))
            (rw (changed_row g e k arg a near.whole_a i h, changed_row g e k arg b near.whole_b i h, ← (near.policy_same e))
            (around (rule g limits) l.most_ways (policy a d) (policy_cut g.ways a.domains d) (row a i) (row b i) (long_a i h) (long_b i h)
            (near.rows i h) (cleaned R (policy a e) new (row a i)) (cleaned R (policy a e) new (row b i))
            (λ w t. still w t (row a i))
            (λ w t. still w t (row b i))
            (λ x t. (rule g limits).isolates.reset_agrees (policy a e).fill new.fill (row a i).word (row b i).word x ((near.rows i h).own x t))));
      }
        where
          mine_a : domain_of (change_policy g e arg a).state.domains d ≡ domain_of a.domains d
          mine_a = changed_other g e k arg a near.whole_a d (λ q. other (sym q))

          mine_b : domain_of (change_policy g e arg b).state.domains d ≡ domain_of b.domains d
          mine_b = changed_other g e k arg b near.whole_b d (λ q. other (sym q))
