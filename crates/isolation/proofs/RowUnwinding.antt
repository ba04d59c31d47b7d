-- The relation on one set: what the domain's own steps, its neighbours' and changes of policy make of two rows that are alike.
use mathlib.Core.Path.{◌≡◌, refl, sym, ap, subst, ◌∙◌}
use mathlib.Core.Bool.{Bool, true, false, xor, true≢false, false≢true}
use Prim.Native.Nat.{ℕ, ◌<◌}
use lib.Dec.{eqb}
use lib.ListN.{length}
use borrow.Author.Tests.{eqb-true, eqb-false}
use Rattle.waymap.specs.Bits.{bit}
use Rattle.waymap.proofs.Booleans.{cases, not_both}
use Rattle.replacement.specs.Rule.{Rule, rule_of}
use Rattle.replacement.specs.Isolates.{Apart}
use Rattle.row.specs.Row.{Row, hit_way, access, flush}
use Rattle.sweep.specs.Clean.{moved, cleaned, dropped, dropped_dirty}
use Rattle.row.specs.View.{SameLine, SameView, SameRead}
use Rattle.policy.specs.declared.Maps.{Maps}
use Rattle.policy.specs.Policy.{Cut}
use Rattle.lookup.proofs.LookupLaws.{hit_own}
use Rattle.row.proofs.LineLaws.{
  line_trans,
  view_read,
  access_leaves,
  access_stays,
  access_agrees,
  access_view,
  access_answer,
  flush_leaves,
  flush_word,
  flush_agrees,
  flush_answer,
}
use Rattle.sweep.proofs.CleanLaws.{clean_gone, clean_agrees, drops_same, dirty_drops_same}
use Rattle.geometry.specs.Inside.{Limited}
use Rattle.geometry.specs.declared.Geometry.{Geometry}
use Rattle.reached.specs.Reached.{Separate}
use Rattle.reached.proofs.SeparateLaws.{rule}
use Rattle.isolation.proofs.Relation.{Unheld, Unwritten, Alike}

-- a way that does not move and is not there afterwards was not there before; one that moves and was not there before is gained
unmoved : (old new : Bool) → xor old new ≡ false → new ≡ false → old ≡ false
unfolding xor
unmoved true true e f = f
unmoved true false e f = e
unmoved false new e f = refl

gained : (old new : Bool) → xor old new ≡ true → old ≡ false → new ≡ true
unfolding xor
gained true new e f = absurd (true≢false f)
gained false true e f = refl
gained false false e f = e

module _ (g : Geometry) (l : Limited g) where
  abbrev R : Rule
  R = rule_of g.rule g.ways

  module _ (d : ℕ) (low : d < 16) (policy : ℕ → Maps) (cut : (e : ℕ) → Cut g.ways (policy e)) (apart : Separate g policy) where
    -- a domain's ways are held by no other, and what its choices go by is written by no other
    pub own_unheld : (w : ℕ) → bit (policy d).hit w ≡ true → Unheld d policy w
    own_unheld w t e k n = not_both (bit (policy d).hit w) (bit (policy e).hit w) (apart.ways_apart d e low k (λ q. n (sym q)) w) t

    fills_apart : (e : ℕ) → e < 16 → (e ≡ d → ⊥) → Apart (policy d).fill (policy e).fill
    fills_apart e k n w =
        cases (bit (policy d).fill w)
        (λ t. cases (bit (policy e).fill w)
        (λ u. absurd (false≢true (sym (own_unheld w ((cut d).part w t) e k n) ∙ (cut e).part w u)))
        (λ u. rw (t, u)))
        (λ t. rw t)

    pub own_unwritten : (x : R.Cell) → R.own (policy d).fill x ≡ true → Unwritten R d policy x
    own_unwritten x t e k n = (rule g l).own_apart (policy d).fill (policy e).fill x (fills_apart e k n) (apart.nodes_apart d e low k (λ q. n (sym q))) t

    -- so two rows that are alike look the same to the domain
    pub view_same : (r q : Row) → Alike g d policy r q → SameView R (policy d) r q
    view_same r q a = record {
      lines = λ w t. a.lines w ((cut d).within w t) (own_unheld w t);
      own = λ x t. a.cells x (own_unwritten x t);
    }

    module _ (r q : Row) (long_r : length r.tags ≡ g.ways) (long_q : length q.tags ≡ g.ways) (a : Alike g d policy r q) (tag : ℕ) where
      -- its own access and flush
      read : SameRead R (policy d) r q
      read = view_read (cut d) (view_same r q a)

      pub own_access : (store : Bool) → ((access R (policy d) tag store r).answer ≡ (access R (policy d) tag store q).answer)
          × Alike g d policy (access R (policy d) tag store r).row (access R (policy d) tag store q).row
      own_access store = (
        access_answer _ _ (rule g l) l.most_ways (policy d) (cut d) tag r q long_r long_q read store,
        record {
          lines = λ w h u. access_agrees _ _ (rule g l) l.most_ways (policy d) (cut d) tag r q long_r long_q read store w h (a.lines w h u);
          cells = λ x u. access_view _ _ (rule g l) l.most_ways (policy d) (cut d) tag r q long_r long_q read store x (a.cells x u);
        },
      )

      pub own_flush : ((flush (policy d) tag r).answer ≡ (flush (policy d) tag q).answer)
          × Alike g d policy (flush (policy d) tag r).row (flush (policy d) tag q).row
      own_flush = (
        flush_answer _ _ (rule g l) l.most_ways (policy d) (cut d) tag r q long_r long_q read
            (λ t. ((view_same r q a).lines (hit_way r (policy d).hit tag) (hit_own r.tags r.valid (policy d).hit tag t)).dirty),
        record {
          lines = λ w h u. flush_agrees _ _ (rule g l) l.most_ways (policy d) (cut d) tag r q long_r long_q read w h (a.lines w h u);
          cells = λ x u.
              ap (λ (y : ℕ). R.view y x) (flush_word (rule g l) l.most_ways (policy d) (cut d) tag r long_r) ∙ a.cells x u
              ∙ ap (λ (y : ℕ). R.view y x) (sym (flush_word (rule g l) l.most_ways (policy d) (cut d) tag q long_q));
        },
      )

      -- a neighbour's, on one side
      pub other_access : (e : ℕ) → e < 16 → (e ≡ d → ⊥) → (store : Bool) → Alike g d policy (access R (policy e) tag store r).row q
      other_access e k n store = record {
        lines = λ w h u. line_trans (access_leaves _ _ (rule g l) l.most_ways (policy e) (cut e) tag r long_r store w h (u e k n)) (a.lines w h u);
        cells = λ x u. access_stays _ _ (rule g l) l.most_ways (policy e) (cut e) tag r long_r store x (u e k n) ∙ a.cells x u;
      }

      pub other_flush : (e : ℕ) → e < 16 → (e ≡ d → ⊥) → Alike g d policy (flush (policy e) tag r).row q
      other_flush e k n = record {
        lines = λ w h u. line_trans (flush_leaves _ _ (rule g l) l.most_ways (policy e) (cut e) tag r long_r w h (u e k n)) (a.lines w h u);
        cells = λ x u. ap (λ (y : ℕ). R.view y x) (flush_word (rule g l) l.most_ways (policy e) (cut e) tag r long_r) ∙ a.cells x u;
      }

    -- ---- a change of policy of domain e, from its old maps to new ones

    module _ (e : ℕ) (k : e < 16) (new : Maps) (after : ℕ → Maps) (changed : after e ≡ new) (others : (f : ℕ) → (f ≡ e → ⊥) → after f ≡ policy f)
        (r q : Row) (a : Alike g d policy r q) where
      -- what no other domain holds or writes afterwards, and e did not before, none did before
      unheld_before : (w : ℕ) → ((e ≡ d → ⊥) → bit (policy e).hit w ≡ false) → Unheld d after w → Unheld d policy w
      unheld_before w old u f h n =
          cases (eqb f e)
          (λ t. let same : f ≡ e = eqb-true f e t in subst (λ (i : ℕ). bit (policy i).hit w ≡ false) (sym same) (old (λ z. n (same ∙ z))))
          (λ t. ap (λ (p : Maps). bit p.hit w) (sym (others f (eqb-false f e t))) ∙ u f h n)

      unwritten_before : (x : R.Cell) → ((e ≡ d → ⊥) → R.writes (policy e).fill x ≡ false) → Unwritten R d after x → Unwritten R d policy x
      unwritten_before x old u f h n =
          cases (eqb f e)
          (λ t. let same : f ≡ e = eqb-true f e t in subst (λ (i : ℕ). R.writes (policy i).fill x ≡ false) (sym same) (old (λ z. n (same ∙ z))))
          (λ t. ap (λ (p : Maps). R.writes p.fill x) (sym (others f (eqb-false f e t))) ∙ u f h n)

      pub clean_alike : Alike g d after (cleaned R (policy e) new r) (cleaned R (policy e) new q)
      unfolding cleaned moved
      clean_alike = record { lines = lines; cells = cells }
        where
          lines : (w : ℕ) → w < g.ways → Unheld d after w → SameLine (cleaned R (policy e) new r) (cleaned R (policy e) new q) w
          lines w h u =
              cases (moved (policy e) new w)
              (λ t. clean_gone _ R l.most_ways (policy e) new r q w h t)
              (λ t. clean_agrees _ R l.most_ways (policy e) new r q w h
              (a.lines w h (unheld_before w (λ n. unmoved (bit (policy e).hit w) (bit new.hit w) t (ap (λ (p : Maps). bit p.hit w) (sym changed)
              ∙ u e k n)) u)))

          cells : (x : R.Cell) → Unwritten R d after x → R.view (R.reset (policy e).fill new.fill r.word) x
              ≡ R.view (R.reset (policy e).fill new.fill q.word) x
          cells x u =
              cases (eqb e d)
              (λ t. (rule g l).reset_agrees (policy e).fill new.fill r.word q.word x
              (a.cells x (unwritten_before x (λ n. absurd (n (eqb-true e d t))) u)))
              (λ t. let gone : R.writes new.fill x ≡ false = ap (λ (p : Maps). R.writes p.fill x) (sym changed) ∙ u e k (eqb-false e d t) in
              cases (R.writes (policy e).fill x)
              (λ z. (rule g l).reset_clears (policy e).fill new.fill r.word q.word x z gone)
              (λ z. (rule g l).reset_agrees (policy e).fill new.fill r.word q.word x (a.cells x (unwritten_before x (λ n. z) u))))

      -- the domain's own change drops the same lines, if no other domain holds a way that it gains
      module _ (own : e ≡ d) (gains : (w : ℕ) → bit new.hit w ≡ true → Unheld d policy w) (long_r : length r.tags ≡ g.ways)
          (long_q : length q.tags ≡ g.ways) where
        moved_line : (w : ℕ) → w < g.ways → moved (policy e) new w ≡ true → SameLine r q w
        unfolding moved
        moved_line w h t =
            a.lines w h
            (cases (bit (policy e).hit w)
            (λ z. own_unheld w (subst (λ (i : ℕ). bit (policy i).hit w ≡ true) own z))
            (λ z. gains w (gained (bit (policy e).hit w) (bit new.hit w) t z)))

        pub own_drops : (dropped (policy e) new r ≡ dropped (policy e) new q) × (dropped_dirty (policy e) new r ≡ dropped_dirty (policy e) new q)
        own_drops = (
          drops_same _ R l.most_ways (policy e) new r q long_r long_q moved_line,
          dirty_drops_same R l.most_ways (policy e) new r q long_r long_q moved_line,
        )
