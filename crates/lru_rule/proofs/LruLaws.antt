-- True LRU, for every number W of ways up to sixteen: the victim lies in the map, and a change of the order goes by what it should.
use mathlib.Core.Path.{◌≡◌, refl, sym, ap, ◌∙◌}
use mathlib.Core.Bool.{true, false, not, ◌||◌, xor, true≢false}
use mathlib.Core.List.{[], ◌∷◌}
use Prim.Native.Nat.{ℕ, ◌^◌, ◌≤◌, ◌<◌}
use native.Mathlib.Omega.{arith}
use lib.Dec.{eqb, ltb}
use borrow.Author.Tests.{eqb-true, eq-eqb, ne_eqb, lt-ltb, not-true}
use Rattle.waymap.specs.Bits.{Bits, digit}
use Rattle.waymap.proofs.Booleans.{cases, or_none}
use Rattle.waymap.proofs.BitLaws.{digit_lt}
use Rattle.waymap.proofs.WayLaws.{any_found}
use Rattle.lru_rule.specs.Lru.{Order, word_of, times, malformed, fresh, order, written}
use Rattle.lru_rule.specs.Lru.{kept, others, touched, touch, last, victim, changes, aged, reset, before, own}
use Rattle.lru_rule.specs.Statements.{Below, Each, Agree, OwnKnown, TouchOrder, ResetOrder, VictimIn, TouchedEach, AgedEach}
use Rattle.lru_rule.proofs.OrderLaws.{times_kept, below_head, below_tail, below_kept}
use Rattle.lru_rule.proofs.OrderLaws.{below_same, each_below, each_long, fresh_each, joined_each, kept_times}
use Rattle.lru_rule.proofs.PlaceLaws.{word_lt, word_told, order_each, each_sixteen, word_formed, order_written, written_formed}
use Rattle.lru_rule.proofs.BeforeLaws.{before_absent, before_alone, before_kept, joined_second, joined_agrees, order_known}

-- ---- the victim

-- the last way of a part passes the part's test, if one does
last_passes : (m : Bits) (d : ℕ) (o : Order) → m d ≡ true → m (last d (kept m o)) ≡ true
unfolding last kept
last_passes m d [] e = e
last_passes m d (v ∷ o) e = cases (m v) (λ t. rw t (last_passes m v o t)) (λ t. rw t (last_passes m d o e))

last_found : (m : Bits) (d i : ℕ) (o : Order) → (times i o ≡ 0 → ⊥) → m i ≡ true → m (last d (kept m o)) ≡ true
unfolding last kept times
last_found m d i [] n e = absurd (n refl)
last_found m d i (v ∷ o) n e =
    cases (m v)
    (λ t. rw t (last_passes m v o t))
    (λ t. rw t (cases (eqb v i)
    (λ r. absurd (true≢false (sym e ∙ ap m (sym (eqb-true v i r)) ∙ t)))
    (λ r. last_found m d i o (λ z. n (rw (r, z))) e)))

last_below : (n : ℕ) (d : ℕ) (o : Order) → d < n → Below n o → last d o < n
unfolding last
last_below n d [] h b = h
last_below n d (v ∷ o) h b = last_below n v o (below_head n v o b) (below_tail n v o b)

pub victim_in : VictimIn
unfolding victim
victim_in W m x e =
    let r = any_found W m e in
    let stands = order_each W x r.0 ∙ ap digit (lt-ltb r.0 W r.1) in (
      last_below W 0 (kept m (order W x)) (omega (arith, r.1)) (below_kept W m (order W x) (each_below W (order W x) (order_each W x))),
      last_found m 0 r.0 (order W x) (λ z. omega (arith, z, stands)) r.2,
    )

-- ---- the own part

module _ (W : ℕ) (m : Bits) (o q : Order) (e : Each W o) (f : Each W q) where
  -- then the map's ways stand in the same order
  kept_known : Agree m o q → kept m o ≡ kept m q
  kept_known agree = order_known (kept m o) (kept m q) (kept_times W m o q e f) once known
    where
      once : (w : ℕ) → times w (kept m o) ≤ 1
      once w = rw (times_kept m w o, e w) (cases (m w) (λ t. rw t (omega (arith, digit_lt (ltb w W)))) (λ t. rw t (omega arith)))

      gone : (c : Order) (w : ℕ) → m w ≡ false → times w (kept m c) ≡ 0
      gone c w t = times_kept m w c ∙ rw t

      known : (v w : ℕ) → before (kept m o) v w ≡ before (kept m q) v w
      known v w =
          cases (m v)
          (λ s. cases (m w)
          (λ t. before_kept m o v w s t ∙ agree v w s t ∙ sym (before_kept m q v w s t))
          (λ t. before_alone (kept m o) v w (gone o w t) ∙ ap (λ (n : ℕ). not (eqb n 0)) (kept_times W m o q e f v)
          ∙ sym (before_alone (kept m q) v w (gone q w t))))
          (λ s. before_absent (kept m o) v w (gone o v s) ∙ sym (before_absent (kept m q) v w (gone q v s)))

  kept_agrees : kept m o ≡ kept m q → Agree m o q
  kept_agrees same v w s t = sym (before_kept m o v w s t) ∙ ap (λ (c : Order). before c v w) same ∙ before_kept m q v w s t

pub own_known : OwnKnown
own_known W m x y agree = kept_known W m (order W x) (order W y) (order_each W x) (order_each W y) agree

module _ (W : ℕ) (m : Bits) (x y : ℕ) where
  pub victim_own : Agree m (order W x) (order W y) → victim W m x ≡ victim W m y
  unfolding victim
  victim_own agree = ap (λ (o : Order). last 0 o) (own_known W m x y agree)

  pub part_same : Agree m (order W x) (order W y) → own W m x ≡ own W m y
  unfolding own
  part_same agree = ap word_of (own_known W m x y agree)

  pub same_part : W ≤ 16 → own W m x ≡ own W m y → Agree m (order W x) (order W y)
  unfolding own
  same_part small e =
      kept_agrees W m (order W x) (order W y) (order_each W x) (order_each W y)
      (word_told (kept m (order W x)) (kept m (order W y)) (low x) (low y)
      (below_same 16 (kept m (order W x)) (kept m (order W y)) (low x) (low y)
      (kept_times W m (order W x) (order W y) (order_each W x) (order_each W y))) e)
    where
      low : (z : ℕ) → Below 16 (kept m (order W z))
      low z = below_kept 16 m (order W z) (each_sixteen W small (order W z) (order_each W z))

-- ---- touch and change of fill map

-- the order that is written has each way once
pub touched_each : TouchedEach
unfolding touched
touched_each W m w x =
    cases (m w) (λ t. rw t (joined_each W (eqb w) (order W x) (order W x) (order_each W x) (order_each W x))) (λ t. rw t (order_each W x))

pub aged_each : AgedEach
unfolding aged
aged_each W moves x = joined_each W (others moves) (order W x) (fresh W) (order_each W x) (fresh_each W)

-- so it is what is read afterwards
pub touch_order : TouchOrder
unfolding touch
touch_order W small m u x = order_written W small x (touched m u (order W x)) (touched_each W m u x)

pub reset_order : ResetOrder
unfolding reset
reset_order W small old new x = order_written W small x (aged W (changes old new) (order W x)) (aged_each W (changes old new) x)

-- and a word that was not malformed is not
module _ (W : ℕ) (small : W ≤ 16) where
  pub touch_formed : (m : Bits) (u x : ℕ) → malformed W x ≡ false → malformed W (touch W m u x) ≡ false
  unfolding touch
  touch_formed m u x = written_formed W small x (touched m u (order W x)) (touched_each W m u x)

  pub reset_formed : (old new : Bits) (x : ℕ) → malformed W x ≡ false → malformed W (reset W old new x) ≡ false
  unfolding reset
  reset_formed old new x = written_formed W small x (aged W (changes old new) (order W x)) (aged_each W (changes old new) x)

  pub fresh_formed : malformed W (word_of (fresh W)) ≡ false
  fresh_formed = word_formed W small (fresh W) (fresh_each W)

-- a touch outside the map leaves the word
pub touch_outside : (W : ℕ) (m : Bits) (w x : ℕ) → m w ≡ false → touch W m w x ≡ x
unfolding touch touched written
touch_outside W m w x e = rw (e, eq-eqb (word_of (order W x)) (word_of (order W x)) refl)

-- a word of 64 bits stays one
module _ (W : ℕ) (small : W ≤ 16) where
  word_fits : (o : Order) → Each W o → word_of o < 2 ^ 64
  word_fits o e = word_lt 16 o (each_sixteen W small o e) (rw (each_long W o e) small)

  written_fits : (x : ℕ) (o : Order) → Each W o → x < 2 ^ 64 → written W x o < 2 ^ 64
  unfolding written
  written_fits x o e h = cases (eqb (word_of o) (word_of (order W x))) (λ t. rw t h) (λ t. rw t (word_fits o e))

  pub fresh_fits : word_of (fresh W) < 2 ^ 64
  fresh_fits = word_fits (fresh W) (fresh_each W)

  pub touch_fits : (m : Bits) (w x : ℕ) → x < 2 ^ 64 → touch W m w x < 2 ^ 64
  unfolding touch
  touch_fits m w x h = written_fits x (touched m w (order W x)) (touched_each W m w x) h

  pub reset_fits : (old new : Bits) (x : ℕ) → x < 2 ^ 64 → reset W old new x < 2 ^ 64
  unfolding reset
  reset_fits old new x h = written_fits x (aged W (changes old new) (order W x)) (aged_each W (changes old new) x) h

-- ways outside the map stay as they are to each other
touched_stays : (m : Bits) (u : ℕ) (o : Order) (v w : ℕ) → m v ≡ false → m w ≡ false → before (touched m u o) v w ≡ before o v w
unfolding touched
touched_stays m u o v w a b =
    cases (m u)
    (λ t. rw t (joined_second (eqb u) o o v w (other v a t) (other w b t)))
    (λ t. rw t)
  where
    other : (i : ℕ) → m i ≡ false → m u ≡ true → eqb u i ≡ false
    other i k t = ne_eqb u i (λ e. true≢false (sym t ∙ ap m e ∙ k))

-- two ways on which two words agree are ways on which they agree afterwards
module _ (W x y v w : ℕ) where
  touched_agrees : (m : Bits) (u : ℕ) → before (order W x) v w ≡ before (order W y) v w
      → before (touched m u (order W x)) v w ≡ before (touched m u (order W y)) v w
  unfolding touched
  touched_agrees m u e =
      cases (m u)
      (λ t. rw t (joined_agrees W (eqb u) (order W x) (order W x) (order W y) (order W y) v w (order_each W x) (order_each W x) (order_each W y)
      (order_each W y) (λ r s. e) (λ r s. e)))
      (λ t. rw t e)

  -- and where one of them moves, they agree whatever they were
  aged_agrees : (moves : Bits) → (moves v ≡ false → moves w ≡ false → before (order W x) v w ≡ before (order W y) v w)
      → before (aged W moves (order W x)) v w ≡ before (aged W moves (order W y)) v w
  unfolding aged
  aged_agrees moves e =
      joined_agrees W (others moves) (order W x) (fresh W) (order W y) (fresh W) v w (order_each W x) (fresh_each W) (order_each W y) (fresh_each W)
      (λ r s. e (not-true (moves v) r) (not-true (moves w) s)) (λ r s. refl)

-- the same of the words
module _ (W : ℕ) (small : W ≤ 16) (x v w : ℕ) where
  touch_view : (m : Bits) (u : ℕ) → before (order W (touch W m u x)) v w ≡ before (touched m u (order W x)) v w
  touch_view m u = ap (λ (o : Order). before o v w) (touch_order W small m u x)

  reset_view : (old new : Bits) → before (order W (reset W old new x)) v w ≡ before (aged W (changes old new) (order W x)) v w
  reset_view old new = ap (λ (o : Order). before o v w) (reset_order W small old new x)

  pub touch_stays : (m : Bits) (u : ℕ) → m v ≡ false → m w ≡ false → before (order W (touch W m u x)) v w ≡ before (order W x) v w
  touch_stays m u a b = touch_view m u ∙ touched_stays m u (order W x) v w a b

module _ (W : ℕ) (small : W ≤ 16) (x y v w : ℕ) where
  pub touch_agrees : (m : Bits) (u : ℕ) → before (order W x) v w ≡ before (order W y) v w
      → before (order W (touch W m u x)) v w ≡ before (order W (touch W m u y)) v w
  touch_agrees m u e = touch_view W small x v w m u ∙ touched_agrees W x y v w m u e ∙ sym (touch_view W small y v w m u)

  pub reset_agrees : (old new : Bits) → (changes old new v ≡ false → changes old new w ≡ false → before (order W x) v w ≡ before (order W y) v w)
      → before (order W (reset W old new x)) v w ≡ before (order W (reset W old new y)) v w
  reset_agrees old new e =
      reset_view W small x v w old new ∙ aged_agrees W x y v w (changes old new) e ∙ sym (reset_view W small y v w old new)

  -- a pair of which the old map has a way and the new one has none
  pub reset_clears : (old new : Bits) → (old v || old w) ≡ true → (new v || new w) ≡ false
      → before (order W (reset W old new x)) v w ≡ before (order W (reset W old new y)) v w
  unfolding changes xor
  reset_clears old new some none =
      reset_agrees old new
      (λ r s. absurd (true≢false (sym some ∙ rw (kept_out v (or_none (new v) (new w) none).0 r, kept_out w (or_none (new v) (new w) none).1 s))))
    where
      kept_out : (i : ℕ) → new i ≡ false → xor (old i) (new i) ≡ false → old i ≡ false
      kept_out i n e = cases (old i) (λ t. absurd (true≢false (rw (t, n) at e))) (λ t. t)
