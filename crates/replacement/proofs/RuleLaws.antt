-- Tree-PLRU, NRU and true LRU keep domains apart, `Isolates` of each, and leave their word alone on a touch outside the fill map: `Laws` of each.
use mathlib.Core.Path.{◌≡◌, refl, sym, ap, ◌∙◌}
use mathlib.Core.Bool.{Bool, true, false, cond, ◌&&◌, xor, and_comm, and-false}
use Prim.Native.Nat.{ℕ, zero, suc, ◌-◌, ◌≤◌, ◌<◌}
use native.Mathlib.Omega.{arith}
use lib.Dec.{eqb, ltb, lit≤}
use borrow.Author.Tests.{ltb-true, lt-ltb}
use Rattle.waymap.specs.Bits.{Bits, bit, word}
use Rattle.waymap.proofs.Booleans.{cases, and_left, and_right, or_none, not_both}
use Rattle.waymap.proofs.WordLaws.{word_ext, word_lt, bit_word, from_bits}
use Rattle.waymap.proofs.WayLaws.{none_at, any_ext, any_none}
use Rattle.tree.specs.Tree as Tree
use Rattle.tree.proofs.TreeLaws as TreeLaws
use Rattle.nru.specs.Nru as Nru
use Rattle.nru.proofs.NruLaws as NruLaws
use Rattle.lru_rule.specs.Lru as Lru
use Rattle.lru_rule.proofs.LruLaws as LruLaws
use Rattle.replacement.specs.Rule.{bit64, nru, lru}
use Rattle.replacement.specs.Isolates.{SameOwn}
use Rattle.replacement.specs.Statements as Statements

-- ---- the view of a 64-bit word

view_word : (f : Bits) (i : ℕ) → bit64 (word 64 f) i ≡ (ltb i 64 && f i)
unfolding bit64
view_word f i = cases (ltb i 64) (λ t. rw (t, bit_word 64 f i, t)) (λ t. rw t)

view_bit : (x y i : ℕ) → i < 64 → bit64 x i ≡ bit64 y i → bit x i ≡ bit y i
unfolding bit64
view_bit x y i h e = rw (lt-ltb i 64 h) at e

-- a word made bit by bit: a bit that is kept is viewed as it was, and one that goes by the old bit alone agrees where the old ones do
view_stays : (f : Bits) (x i : ℕ) → f i ≡ bit x i → bit64 (word 64 f) i ≡ bit64 x i
unfolding bit64
view_stays f x i e = view_word f i ∙ ap (λ (t : Bool). ltb i 64 && t) e

view_agrees : (f g : Bits) (x y i : ℕ) → bit64 x i ≡ bit64 y i → (bit x i ≡ bit y i → f i ≡ g i) → bit64 (word 64 f) i ≡ bit64 (word 64 g) i
view_agrees f g x y i e step =
    view_word f i
    ∙ cases (ltb i 64) (λ t. ap (λ (b : Bool). ltb i 64 && b) (step (view_bit x y i (ltb-true i 64 t) e))) (λ t. rw t)
    ∙ sym (view_word g i)

view_same : (f g : Bits) (i : ℕ) → f i ≡ g i → bit64 (word 64 f) i ≡ bit64 (word 64 g) i
view_same f g i e = view_word f i ∙ ap (λ (b : Bool). ltb i 64 && b) e ∙ sym (view_word g i)

-- words of which some bits are left have the same left where those bits are viewed alike, and nowhere else
module _ (own : Bits) (x y : ℕ) where
  left_same : ((i : ℕ) → own i ≡ true → bit64 x i ≡ bit64 y i) → word 64 (λ (i : ℕ). own i && bit x i) ≡ word 64 (λ (i : ℕ). own i && bit y i)
  left_same same = word_ext 64 (λ i h. cases (own i) (λ t. rw t (view_bit x y i h (same i t))) (λ t. rw t))

  same_left : word 64 (λ (i : ℕ). own i && bit x i) ≡ word 64 (λ (i : ℕ). own i && bit y i) → (i : ℕ) → own i ≡ true → bit64 x i ≡ bit64 y i
  unfolding bit64
  same_left e i t =
      let left = sym (view_word (λ (j : ℕ). own j && bit x j) i) ∙ ap (λ (n : ℕ). bit64 n i) e ∙ view_word (λ (j : ℕ). own j && bit y j) i in
      rw t at left

-- ---- Tree-PLRU

pub tree_isolates : Statements.TreeIsolates
unfolding Tree.touch Tree.changes Tree.reset Tree.own Tree.shares xor
tree_isolates W bound = record {
  victim_in = λ map x e. TreeLaws.victim_in W (bit map) (bit x) e;
  victim_own = λ map x y same. TreeLaws.victim_free W (bit map) (λ i h t. view_bit x y i (omega arith) (same i t));
  before_stays = λ map x c e. refl;
  touch_stays = λ map w x c e. view_stays (Tree.touch W (bit map) w (bit x)) x c (rw (e, and-false (bit map w)));
  before_agrees = λ map x y c same e. e;
  touch_agrees = λ map w x y c same e.
      view_agrees (Tree.touch W (bit map) w (bit x)) (Tree.touch W (bit map) w (bit y)) x y c e
      (λ q. ap (λ (t : Bool). cond (bit map w && Tree.free W (bit map) c && Tree.under W c w) (Tree.under W (Tree.left c) w) t) q);
  reset_agrees = λ old new x y c e.
      view_agrees (Tree.reset W (bit old) (bit new) (bit x)) (Tree.reset W (bit old) (bit new) (bit y)) x y c e
      (λ q. ap (λ (t : Bool). cond (xor (Tree.free W (bit old) c) (Tree.free W (bit new) c)) false t) q);
  reset_clears = λ old new x y c p q. view_same (Tree.reset W (bit old) (bit new) (bit x)) (Tree.reset W (bit old) (bit new) (bit y)) c (rw (p, q));
  own_writes = λ map c e. e;
  empty_writes = λ map c none. TreeLaws.free_empty W (bit map) c none;
  own_apart = λ map other c apart e own.
      not_both (Tree.free W (bit map) c) (Tree.free W (bit other) c)
      (none_at (W - 1) (λ (i : ℕ). Tree.free W (bit map) i && Tree.free W (bit other) i) c e (TreeLaws.free_node W (bit map) c own)) own;
  shares_empty = λ map other none. any_none (W - 1) (λ i h. rw (TreeLaws.free_empty W (bit map) i none));
  shares_sym = λ map other. any_ext (W - 1) (λ i h. and_comm (Tree.free W (bit map) i) (Tree.free W (bit other) i));
  part_same = λ map x y same. left_same (Tree.free W (bit map)) x y same;
  same_part = λ map x y e. same_left (Tree.free W (bit map)) x y e;
}

-- ---- NRU

-- words with the same own part agree on the ways of the map
own_agree : (W map x y : ℕ) → W ≤ 64 → SameOwn (nru W) map x y → (w : ℕ) → w < W → bit map w ≡ true → bit x w ≡ bit y w
own_agree W map x y bound same w h t = view_bit x y w (omega arith) (same w t)

pub nru_isolates : Statements.NruIsolates
unfolding Nru.touch Nru.changes Nru.reset Nru.own xor
nru_isolates W bound = record {
  victim_in = λ map x e. NruLaws.victim_in W (bit map) (bit x) e;
  victim_own = λ map x y same. NruLaws.victim_agrees W (bit map) (own_agree W map x y bound same);
  before_stays = λ map x c e. view_stays (Nru.before W (bit map) (bit x)) x c (NruLaws.before_stays W (bit map) (bit x) c e);
  touch_stays = λ map w x c e. view_stays (Nru.touch (bit map) w (bit x)) x c (NruLaws.touch_stays (bit map) w (bit x) c e);
  before_agrees = λ map x y c same e.
      view_agrees (Nru.before W (bit map) (bit x)) (Nru.before W (bit map) (bit y)) x y c e
      (λ q. NruLaws.before_agrees W (bit map) c (own_agree W map x y bound same) q);
  touch_agrees = λ map w x y c same e.
      view_agrees (Nru.touch (bit map) w (bit x)) (Nru.touch (bit map) w (bit y)) x y c e
      (λ q. ap (λ (t : Bool). cond (bit map w && eqb w c) false t) q);
  reset_agrees = λ old new x y c e.
      view_agrees (Nru.reset (bit old) (bit new) (bit x)) (Nru.reset (bit old) (bit new) (bit y)) x y c e
      (λ q. ap (λ (t : Bool). cond (xor (bit old c) (bit new c)) true t) q);
  reset_clears = λ old new x y c p q. view_same (Nru.reset (bit old) (bit new) (bit x)) (Nru.reset (bit old) (bit new) (bit y)) c (rw (p, q));
  own_writes = λ map c e. e;
  empty_writes = λ map c none. none c;
  own_apart = λ map other c apart e own. not_both (bit map c) (bit other c) (apart c) own;
  shares_empty = λ map other none. refl;
  shares_sym = λ map other. refl;
  part_same = λ map x y same. left_same (bit map) x y same;
  same_part = λ map x y e. same_left (bit map) x y e;
}

-- ---- true LRU

-- words with the same own part agree on every two ways of the map
own_pairs : (W map x y : ℕ) → SameOwn (lru W) map x y → (v w : ℕ) → bit map v ≡ true → bit map w ≡ true
    → Lru.before (Lru.order W x) v w ≡ Lru.before (Lru.order W y) v w
own_pairs W map x y same v w s t = same (v, w) (cc (s, t))

pub lru_isolates : Statements.LruIsolates
lru_isolates W bound = record {
  victim_in = λ map x e. LruLaws.victim_in W (bit map) x e;
  victim_own = λ map x y same. LruLaws.victim_own W (bit map) x y (own_pairs W map x y same);
  before_stays = λ map x c e. refl;
  touch_stays = λ map w x c e.
      let out = or_none (bit map c.0) (bit map c.1) e in LruLaws.touch_stays W bound x c.0 c.1 (bit map) w out.0 out.1;
  before_agrees = λ map x y c same e. e;
  touch_agrees = λ map w x y c same e. LruLaws.touch_agrees W bound x y c.0 c.1 (bit map) w e;
  reset_agrees = λ old new x y c e. LruLaws.reset_agrees W bound x y c.0 c.1 (bit old) (bit new) (λ r s. e);
  reset_clears = λ old new x y c p q. LruLaws.reset_clears W bound x y c.0 c.1 (bit old) (bit new) p q;
  own_writes = λ map c e. rw (and_left (bit map c.0) (bit map c.1) e);
  empty_writes = λ map c none. rw (none c.0, none c.1);
  own_apart = λ map other c apart e own.
      rw (
        not_both (bit map c.0) (bit other c.0) (apart c.0) (and_left (bit map c.0) (bit map c.1) own),
        not_both (bit map c.1) (bit other c.1) (apart c.1) (and_right (bit map c.0) (bit map c.1) own),
      );
  shares_empty = λ map other none. refl;
  shares_sym = λ map other. refl;
  part_same = λ map x y same. LruLaws.part_same W (bit map) x y (own_pairs W map x y same);
  same_part = λ map x y e c own.
      LruLaws.same_part W (bit map) x y bound e c.0 c.1 (and_left (bit map c.0) (bit map c.1) own)
      (and_right (bit map c.0) (bit map c.1) own);
}

-- ---- a touch outside the map, and the width of the word

pub tree_laws : Statements.TreeLaws
tree_laws W bound = record {
  isolates = tree_isolates W (omega arith);
  touch_outside = λ map w x h e. TreeLaws.word_outside W map w x h e;
  fresh_fits = lit≤ tt;
  before_fits = λ map x h. h;
  touch_fits = λ map w x h. word_lt 64 (Tree.touch W (bit map) w (bit x));
  reset_fits = λ old new x h. word_lt 64 (Tree.reset W (bit old) (bit new) (bit x));
}

pub nru_laws : Statements.NruLaws
unfolding Nru.touch
nru_laws W bound = record {
  isolates = nru_isolates W (omega arith);
  touch_outside = λ map w x h e. sym (from_bits 64 h (λ i k. rw e));
  fresh_fits = word_lt 64 (Nru.fresh W);
  before_fits = λ map x h. word_lt 64 (Nru.before W (bit map) (bit x));
  touch_fits = λ map w x h. word_lt 64 (Nru.touch (bit map) w (bit x));
  reset_fits = λ old new x h. word_lt 64 (Nru.reset (bit old) (bit new) (bit x));
}

pub lru_laws : Statements.LruLaws
lru_laws W bound = record {
  isolates = lru_isolates W bound;
  touch_outside = λ map w x h e. LruLaws.touch_outside W (bit map) w x e;
  fresh_fits = LruLaws.fresh_fits W bound;
  before_fits = λ map x h. h;
  touch_fits = λ map w x h. LruLaws.touch_fits W bound (bit map) w x h;
  reset_fits = λ old new x h. LruLaws.reset_fits W bound (bit old) (bit new) x h;
}

-- ---- every rule

pub laws : Statements.RuleLaws
laws zero W bound = tree_laws W bound
laws (suc zero) W bound = nru_laws W bound
laws (suc (suc rule)) W bound = lru_laws W bound

pub isolates : Statements.RuleIsolates
isolates rule W bound = (laws rule W bound).isolates
