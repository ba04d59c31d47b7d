-- Orders in words: a written order is read as that order, and every word is read as an order of each way once.
use mathlib.Core.Path.{◌≡◌, refl, sym, ap, ◌∙◌}
use mathlib.Core.Bool.{true, false, not}
use mathlib.Core.List.{[], ◌∷◌}
use Prim.Native.Nat.{ℕ, zero, suc, ◌+◌, ◌*◌, ◌/◌, ◌%◌, ◌^◌, ◌≤◌, ◌<◌}
use native.Mathlib.Nat.{div-one, div-div-eq-div-mul, div-eq_of_lt, pow-succ'}
use native.Mathlib.Omega.{arith}
use lib.Dec.{eqb}
use lib.ListN.{length}
use borrow.Author.Tests.{eqb-true, ne_eqb, lt-ltb, not-false}
use Rattle.waymap.specs.Bits.{any}
use Rattle.waymap.proofs.Booleans.{cases, or_none}
use Rattle.waymap.proofs.WayLaws.{any_none, none_at}
use Rattle.lru_rule.specs.Lru.{Order, places, word_of, times, malformed, fresh, order, written}
use Rattle.lru_rule.specs.Statements.{Below, Each, OrderWord, OrderWritten, WordTold, OrderEach}
use Rattle.lru_rule.proofs.OrderLaws.{below_head, below_tail, each_below, each_long, none_missing, fresh_each}

-- ---- places

pub places_long : (n x : ℕ) → length (places n x) ≡ n
unfolding places
places_long zero x = refl
places_long (suc n) x = ap suc (places_long n (x / 16))

pub places_below : (n x : ℕ) → Below 16 (places n x)
unfolding places times
places_below zero x w h = refl
places_below (suc n) x w h = rw (places_below n (x / 16) w h, ne_eqb (x % 16) w (λ e. omega (arith, e)))

-- a word divided by sixteen n times
pub shifted : (n x : ℕ) → x / 16 ^ suc n ≡ x / 16 / 16 ^ n
shifted n x = ap (λ (k : ℕ). x / k) (pow-succ' 16 n) ∙ sym (div-div-eq-div-mul x 16 (16 ^ n))

-- the places of a written order are the order
pub places_word : (n : ℕ) (o : Order) → Below 16 o → length o ≡ n → places n (word_of o) ≡ o
unfolding places word_of
places_word zero [] b e = refl
places_word zero (v ∷ o) b e = absurd (omega arith)
places_word (suc n) [] b e = absurd (omega arith)
places_word (suc n) (v ∷ o) b e =
    let small : v < 16 = below_head 16 v o b in
    let first : (v + 16 * word_of o) % 16 ≡ v = omega arith in
    let rest : (v + 16 * word_of o) / 16 ≡ word_of o = omega arith in
    rw (first, rest, places_word n o (below_tail 16 v o b) (omega arith))

-- and its higher places are zero
pub word_lt : (n : ℕ) (o : Order) → Below 16 o → length o ≤ n → word_of o < 16 ^ n
unfolding word_of
word_lt zero [] b h = omega arith
word_lt (suc n) [] b h = omega (arith, word_lt n [] b (omega arith), pow-succ' 16 n)
word_lt zero (v ∷ o) b h = absurd (omega arith)
word_lt (suc n) (v ∷ o) b h =
    omega (arith, below_head 16 v o b, word_lt n o (below_tail 16 v o b) (omega arith), pow-succ' 16 n)

pub word_high : (n : ℕ) (o : Order) → Below 16 o → length o ≤ n → word_of o / 16 ^ n ≡ 0
word_high n o b h = div-eq_of_lt (word_lt n o b h)

-- a word whose higher places are zero is the word of its places
pub word_places : (n x : ℕ) → x / 16 ^ n ≡ 0 → word_of (places n x) ≡ x
unfolding places word_of
word_places zero x e = sym (sym (div-one x) ∙ e)
word_places (suc n) x e = rw (word_places n (x / 16) (sym (shifted n x) ∙ e)) (omega arith)

-- orders of as many ways are the same where their words are
pub word_told : WordTold
word_told o q b c long e =
    sym (places_word (length q) o b long) ∙ ap (λ (x : ℕ). places (length q) x) e ∙ places_word (length q) q c refl

-- ---- reading

-- the places of a word that is not malformed hold each way once
pub places_each : (W x : ℕ) → malformed W x ≡ false → Each W (places W x)
unfolding malformed
places_each W x e =
    let some : any W (λ (w : ℕ). not (eqb (times w (places W x)) 1)) ≡ false =
    (or_none (any W (λ (w : ℕ). not (eqb (times w (places W x)) 1))) (not (eqb (x / 16 ^ W) 0)) e).0 in
    none_missing W (places W x) (places_long W x)
    (λ w h. omega (arith, once w (none_at W (λ (v : ℕ). not (eqb (times v (places W x)) 1)) w some h)))
  where
    once : (w : ℕ) → not (eqb (times w (places W x)) 1) ≡ false → times w (places W x) ≡ 1
    once w t = eqb-true (times w (places W x)) 1 (not-false (eqb (times w (places W x)) 1) t)

-- and a word whose places do, with nothing above, is not malformed
pub each_formed : (W x : ℕ) → Each W (places W x) → x / 16 ^ W ≡ 0 → malformed W x ≡ false
unfolding malformed
each_formed W x e high = rw (any_none W {p = λ (w : ℕ). not (eqb (times w (places W x)) 1)} (λ w h. rw (e w, lt-ltb w W h)), high)

-- every word is read as an order of each way once
pub order_each : OrderEach
unfolding order
order_each W x = cases (malformed W x) (λ t. rw t (fresh_each W)) (λ t. rw t (places_each W x t))

-- the word of the order that a word is read as
order_formed : (W x : ℕ) → malformed W x ≡ false → order W x ≡ places W x
unfolding order
order_formed W x e = rw e

pub formed_word : (W x : ℕ) → malformed W x ≡ false → x ≡ word_of (order W x)
unfolding malformed
formed_word W x e =
    let high = (or_none (any W (λ (w : ℕ). not (eqb (times w (places W x)) 1))) (not (eqb (x / 16 ^ W) 0)) e).1 in
    sym (ap word_of (order_formed W x e) ∙ word_places W x (eqb-true (x / 16 ^ W) 0 (not-false (eqb (x / 16 ^ W) 0) high)))

pub malformed_word : (W x : ℕ) → malformed W x ≡ true → word_of (fresh W) ≡ word_of (order W x)
unfolding order
malformed_word W x e = rw e

module _ (W : ℕ) (small : W ≤ 16) where
  pub each_sixteen : (o : Order) → Each W o → Below 16 o
  each_sixteen o e w h = each_below W o e w (omega arith)

  -- the word of an order is not malformed
  pub word_formed : (o : Order) → Each W o → malformed W (word_of o) ≡ false
  word_formed o e =
      each_formed W (word_of o) (rw (places_word W o (each_sixteen o e) (each_long W o e)) e)
      (word_high W o (each_sixteen o e) (omega (arith, each_long W o e)))

-- a written order is read as that order
pub order_word : OrderWord
unfolding order
order_word W small o e = rw (word_formed W small o e) (places_word W o (each_sixteen W small o e) (each_long W o e))

-- also where the word stays because that is how it was read
pub order_written : OrderWritten
unfolding written
order_written W small x o e =
    cases (eqb (word_of o) (word_of (order W x)))
    (λ t. let told : o ≡ order W x =
    word_told o (order W x) (each_sixteen W small o e) (each_sixteen W small (order W x) (order_each W x))
    (each_long W o e ∙ sym (each_long W (order W x) (order_each W x))) (eqb-true (word_of o) (word_of (order W x)) t) in
    let read : order W (word_of o) ≡ o = order_word W small o e in
    rw t cc)
    (λ t. rw t (order_word W small o e))

-- a word that is not malformed does not become so
module _ (W : ℕ) (small : W ≤ 16) where
  pub written_formed : (x : ℕ) (o : Order) → Each W o → malformed W x ≡ false → malformed W (written W x o) ≡ false
  unfolding written
  written_formed x o e formed =
      cases (eqb (word_of o) (word_of (order W x))) (λ t. rw t formed) (λ t. rw t (word_formed W small o e))
