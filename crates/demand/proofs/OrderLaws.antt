-- The order by places is the order that true LRU goes by.
use mathlib.Core.Path.{◌≡◌, refl, sym, ap, ap₂, subst, ◌∙◌}
use mathlib.Core.Bool.{Bool, true, false, cond, not, ◌&&◌, ◌||◌}
use mathlib.Core.List.{List, [], ◌∷◌}
use Prim.Native.Nat.{ℕ, zero, suc, ◌+◌, ◌-◌, ◌*◌, ◌/◌, ◌%◌, ◌^◌, ◌≤◌, ◌<◌}
use native.Mathlib.Nat.{div-one, div-eq_of_lt}
use native.Mathlib.Omega.{arith}
use lib.Dec.{eqb, ltb}
use lib.ListN.{get_or}
use borrow.Author.Tests.{eqb-true, eqb-false, eq-eqb, ne_eqb, ltb-true, ltb-false, lt-ltb, le-ltb}
use Rattle.waymap.specs.Bits.{bit, any}
use Rattle.waymap.proofs.Booleans.{cases}
use Rattle.lru_rule.specs.Lru.{Order, places, word_of, times, malformed, order, before}
use Rattle.lru_rule.specs.Lru as Lru
use Rattle.lru_rule.proofs.LruLaws.{touch_formed, reset_formed, fresh_formed}
use Rattle.replacement.specs.Rule.{rule_of}
use Rattle.command.specs.Command.{Command}
use Rattle.geometry.specs.Geometry.{within}
use Rattle.geometry.specs.declared.Geometry.{Geometry}
use Rattle.geometry.proofs.GeometryLaws.{limited}
use Rattle.steps.specs.Tables.{row_at}
use Rattle.steps.specs.Run.{finally}
use Rattle.steps.specs.Fresh.{fresh}
use Rattle.steps.specs.Statements.{Lasting}
use Rattle.steps.proofs.WordLaws.{words_last}
use Rattle.lru_rule.proofs.PlaceLaws.{shifted, places_long, places_below, word_lt, word_places}
use Rattle.demand.specs.Order.{fresh_word, way_at, how_many, first_of, is_order, place_of}
use Rattle.demand.specs.Statements.{BeforeIs, OrdersLast}

-- ---- a fresh word

pub fresh_word_lem : (W : ℕ) → fresh_word W ≡ word_of (Lru.fresh W)
unfolding fresh_word word_of Lru.fresh
fresh_word_lem zero = refl
fresh_word_lem (suc n) = ap (λ (x : ℕ). n + 16 * x) (fresh_word_lem n)

-- ---- the place of a way in an order

-- how many ways stand before the first w
abbrev index : ℕ → Order → ℕ
index w [] = 0
index w (u ∷ o) = cond (eqb u w) 0 (suc (index w o))

ltb_suc : (a b : ℕ) → ltb (suc a) (suc b) ≡ ltb a b
ltb_suc a b = cases (ltb a b)
    (λ t. rw t (lt-ltb (suc a) (suc b) (omega (arith, ltb-true a b t))))
    (λ t. rw t (le-ltb (suc a) (suc b) (omega (arith, ltb-false a b t))))

before_index : (o : Order) (v w : ℕ) → ltb (index v o) (index w o) ≡ before o v w
unfolding before
before_index [] v w = le-ltb 0 0 (omega arith)
before_index (u ∷ o) v w =
    cases (eqb u w)
    (λ t. rw t (le-ltb (index v (u ∷ o)) 0 (omega arith)))
    (λ t. cases (eqb u v)
    (λ s. rw (t, s) (lt-ltb 0 (suc (index w o)) (omega arith)))
    (λ s. rw (t, s, ltb_suc (index v o) (index w o)) (before_index o v w)))

fresh_index : (W w : ℕ) → w < W → index w (Lru.fresh W) ≡ W - 1 - w
unfolding Lru.fresh
fresh_index zero w h = absurd (omega arith)
fresh_index (suc n) w h =
    cases (eqb n w)
    (λ t. let e : n ≡ w = eqb-true n w t in rw t (omega arith))
    (λ t. let e : n ≡ w → ⊥ = eqb-false n w t in
    rw (t, fresh_index n w (omega (arith, e))) (omega (arith, e)))

-- ---- the places of a word

-- a place of a word is a place of the rest
way_later : (x k : ℕ) → way_at x (suc k) ≡ way_at (x / 16) k
unfolding way_at
way_later x k = ap (λ (n : ℕ). n % 16) (shifted k x)

way_first : (x : ℕ) → way_at x 0 ≡ x % 16
unfolding way_at
way_first x = ap (λ (n : ℕ). n % 16) (div-one x)

many_ext : (n : ℕ) (p q : ℕ → Bool) → ((i : ℕ) → i < n → p i ≡ q i) → how_many n p ≡ how_many n q
unfolding how_many
many_ext zero p q e = refl
many_ext (suc n) p q e = ap₂ (λ (b : Bool) (m : ℕ). cond b 1 0 + m) (e 0 (omega arith)) (many_ext n _ _ (λ i h. e (suc i) (omega arith)))

first_ext : (n : ℕ) (p q : ℕ → Bool) → ((i : ℕ) → p i ≡ q i) → first_of n p ≡ first_of n q
unfolding first_of
first_ext zero p q e = refl
first_ext (suc n) p q e = ap₂ (λ (b : Bool) (m : ℕ). cond b 0 (suc m)) (e 0) (first_ext n _ _ (λ i. e (suc i)))

places_index : (n x w : ℕ) → first_of n (λ (k : ℕ). eqb (way_at x k) w) ≡ index w (places n x)
unfolding first_of places
places_index zero x w = refl
places_index (suc n) x w =
    ap₂ (λ (y m : ℕ). cond (eqb y w) 0 (suc m)) (way_first x)
    (first_ext n _ _ (λ k. ap (λ (y : ℕ). eqb y w) (way_later x k)) ∙ places_index n (x / 16) w)

places_times : (n x w : ℕ) → how_many n (λ (k : ℕ). eqb (way_at x k) w) ≡ times w (places n x)
unfolding how_many places times
places_times zero x w = refl
places_times (suc n) x w =
    ap₂ (λ (y m : ℕ). cond (eqb y w) 1 0 + m) (way_first x)
    (many_ext n _ _ (λ k h. ap (λ (y : ℕ). eqb y w) (way_later x k)) ∙ places_times n (x / 16) w)
    ∙ cases (eqb (x % 16) w) (λ t. rw t) (λ t. rw t)

-- ---- whether a word is an order

many_le : (n : ℕ) (p : ℕ → Bool) → how_many n p ≤ n
unfolding how_many
many_le zero p = omega arith
many_le (suc n) p =
    cases (p 0) (λ t. rw t (omega (arith, many_le n (λ (i : ℕ). p (suc i))))) (λ t. rw t (omega (arith, many_le n (λ (i : ℕ). p (suc i)))))

-- all of n pass where none fails
many_all : (n : ℕ) (p : ℕ → Bool) → eqb (how_many n p) n ≡ not (any n (λ (i : ℕ). not (p i)))
unfolding how_many any
many_all zero p = refl
many_all (suc n) p =
    let rest : ℕ = how_many n (λ (i : ℕ). p (suc i)) in
    cases (p 0)
    (λ t. rw t (one_more rest n ∙ many_all n (λ (i : ℕ). p (suc i))))
    (λ t. rw t (ne_eqb (0 + rest) (suc n) (λ e. omega (arith, e, many_le n (λ (i : ℕ). p (suc i))))))
  where
    one_more : (a b : ℕ) → eqb (1 + a) (suc b) ≡ eqb a b
    one_more a b = cases (eqb a b)
        (λ t. rw t (eq-eqb (1 + a) (suc b) (omega (arith, eqb-true a b t))))
        (λ t. rw t (ne_eqb (1 + a) (suc b) (λ e. eqb-false a b t (omega (arith, e)))))

-- the places from W on are zero in a word below 16 ^ W alone
high_places : (W x : ℕ) → ltb x (16 ^ W) ≡ eqb (x / 16 ^ W) 0
high_places W x =
    cases (eqb (x / 16 ^ W) 0)
    (λ t. let small : word_of (places W x) < 16 ^ W = word_lt W (places W x) (places_below W x) (omega (arith, places_long W x)) in
    rw t (lt-ltb x (16 ^ W) (subst (λ (y : ℕ). y < 16 ^ W) (word_places W x (eqb-true (x / 16 ^ W) 0 t)) small)))
    (λ t. rw t (cases (ltb x (16 ^ W))
    (λ s. absurd (eqb-false (x / 16 ^ W) 0 t (div-eq_of_lt (ltb-true x (16 ^ W) s))))
    (λ s. s)))

order_is : (W x : ℕ) → is_order W x ≡ not (malformed W x)
unfolding is_order malformed
order_is W x =
    ap₂ (λ (a b : Bool). a && b)
    (ap (λ (n : ℕ). eqb n W) (many_ext W _ _ (λ w h. ap (λ (n : ℕ). eqb n 1) (places_times W x w)))
    ∙ many_all W (λ (w : ℕ). eqb (times w (places W x)) 1))
    (high_places W x)
    ∙ both (any W (λ (w : ℕ). not (eqb (times w (places W x)) 1))) (eqb (x / 16 ^ W) 0)
  where
    both : (a b : Bool) → (not a && b) ≡ not (a || not b)
    both true b = refl
    both false true = refl
    both false false = refl

-- ---- what stands before what

place_is : (W x w : ℕ) → w < W → place_of W x w ≡ index w (order W x)
unfolding place_of order
place_is W x w h =
    cases (malformed W x)
    (λ t. rw (order_is W x, t) (sym (fresh_index W w h)))
    (λ t. rw (order_is W x, t) (places_index W x w))

pub before_is : BeforeIs
before_is W x v w h k = rw (place_is W x v h, place_is W x w k) (before_index (order W x) v w)

-- ---- in a run every word holds an order

lru_lasts : (W : ℕ) → W ≤ 16 → Lasting (rule_of 2 W) (λ (x : ℕ). malformed W x ≡ false)
lru_lasts W small = record {
  begins = fresh_formed W small;
  before = λ map x formed. formed;
  touch = λ map w x formed. touch_formed W small (bit map) w x formed;
  reset = λ old new x formed. reset_formed W small (bit old) (bit new) x formed;
}

pub orders_last : OrdersLast
unfolding row_at
orders_last g limits cs two i h =
    order_is g.ways (get_or (finally g cs (fresh g)).tables.words i 0)
    ∙ ap not (words_last g limits (λ (x : ℕ). malformed g.ways x ≡ false)
    (subst (λ (r : ℕ). Lasting (rule_of r g.ways) (λ (x : ℕ). malformed g.ways x ≡ false)) (sym two)
    (lru_lasts g.ways (limited g limits).most_ways)) cs i h)
