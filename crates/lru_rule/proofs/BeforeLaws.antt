-- Which of two ways stands before the other, in an order and in orders made of it; and that this says what an order is.
use mathlib.Core.Path.{◌≡◌, refl, sym, ap, ap₂, subst, ◌∙◌}
use mathlib.Core.Bool.{Bool, true, false, not, ◌&&◌, ◌||◌, true≢false}
use mathlib.Core.List.{[], ◌∷◌, ◌++◌}
use Prim.Native.Nat.{ℕ, ◌+◌, ◌≤◌}
use native.Mathlib.Nat.{zero-add}
use native.Mathlib.Omega.{arith}
use lib.Dec.{eqb}
use borrow.Author.Tests.{eqb-true, eq-eqb, ne_eqb}
use Rattle.waymap.specs.Bits.{Bits, digit}
use Rattle.waymap.proofs.Booleans.{cases}
use Rattle.lru_rule.specs.Lru.{Order, times, kept, others, joined, before}
use Rattle.lru_rule.specs.Statements.{Each, OrderKnown}
use Rattle.lru_rule.proofs.OrderLaws.{times_head, times_kept, kept_times}

-- whether a way stands in an order
abbrev pub stands : ℕ → Order → Bool
stands w o = not (eqb (times w o) 0)

pub stands_cons : (u w : ℕ) (o : Order) → stands w (u ∷ o) ≡ (eqb u w || stands w o)
unfolding times
stands_cons u w o =
    cases (eqb u w)
    (λ t. rw t (ap not (ne_eqb (1 + times w o) 0 (λ e. omega (arith, e)))))
    (λ t. rw (t, zero-add (times w o)))

-- a way that does not stand in an order is not its first one
pub not_first : (u w : ℕ) (o : Order) → times w (u ∷ o) ≡ 0 → (eqb u w ≡ false) × (times w o ≡ 0)
unfolding times
not_first u w o e =
    cases (eqb u w)
    (λ t. let none : digit (eqb u w) + times w o ≡ 0 = e in absurd (omega (arith, rw t at none)))
    (λ t. (t, omega (arith, e)))

-- ---- one of the two does not stand there

pub before_absent : (o : Order) (v w : ℕ) → times v o ≡ 0 → before o v w ≡ false
unfolding before
before_absent [] v w e = refl
before_absent (u ∷ o) v w e =
    rw ((not_first u v o e).0, before_absent o v w (not_first u v o e).1) (cases (eqb u w) (λ t. rw t) (λ t. rw t))

pub before_alone : (o : Order) (v w : ℕ) → times w o ≡ 0 → before o v w ≡ stands v o
unfolding before times
before_alone [] v w e = refl
before_alone (u ∷ o) v w e = rw ((not_first u w o e).0, stands_cons u v o, before_alone o v w (not_first u w o e).1)

-- ---- in a part of an order, and in two orders one after the other

pub before_kept : (p : Bits) (o : Order) (v w : ℕ) → p v ≡ true → p w ≡ true → before (kept p o) v w ≡ before o v w
unfolding before kept
before_kept p [] v w a b = refl
before_kept p (u ∷ o) v w a b =
    cases (p u)
    (λ t. rw (t, before_kept p o v w a b))
    (λ t. rw (t, before_kept p o v w a b, other v a t, other w b t))
  where
    other : (i : ℕ) → p i ≡ true → p u ≡ false → eqb u i ≡ false
    other i k t = ne_eqb u i (λ e. true≢false (sym k ∙ ap p (sym e) ∙ t))

-- neither stands in the second
before_front : (o q : Order) (v w : ℕ) → times v q ≡ 0 → times w q ≡ 0 → before (o ++ q) v w ≡ before o v w
unfolding before
before_front [] q v w a b = before_absent q v w a
before_front (u ∷ o) q v w a b = rw (before_front o q v w a b)

-- neither stands in the first
before_back : (o q : Order) (v w : ℕ) → times v o ≡ 0 → times w o ≡ 0 → before (o ++ q) v w ≡ before q v w
unfolding before
before_back [] q v w a b = refl
before_back (u ∷ o) q v w a b =
    rw ((not_first u v o a).0, (not_first u w o b).0, before_back o q v w (not_first u v o a).1 (not_first u w o b).1)

-- the first of them can stand in the first alone, and the second in the second
before_ahead : (o q : Order) (v w : ℕ) → times v q ≡ 0 → times w o ≡ 0 → before (o ++ q) v w ≡ stands v o
unfolding before times
before_ahead [] q v w a b = before_absent q v w a
before_ahead (u ∷ o) q v w a b =
    rw ((not_first u w o b).0, stands_cons u v o, before_ahead o q v w a (not_first u w o b).1)

-- and the other way round
before_behind : (o q : Order) (v w : ℕ) → times v o ≡ 0 → times w q ≡ 0 → before (o ++ q) v w ≡ (not (stands w o) && stands v q)
unfolding before times
before_behind [] q v w a b = before_alone q v w b
before_behind (u ∷ o) q v w a b =
    rw ((not_first u v o a).0, stands_cons u w o)
    (cases (eqb u w) (λ t. rw t) (λ t. rw (t, before_behind o q v w (not_first u v o a).1 b)))

-- ---- in an order that is made of two

-- a way that is taken from one of them is not taken from the other
module _ (p : Bits) (o : Order) (w : ℕ) where
  not_first_part : p w ≡ false → times w (kept p o) ≡ 0
  not_first_part t = times_kept p w o ∙ rw t

  not_second_part : p w ≡ true → times w (kept (others p) o) ≡ 0
  not_second_part t = times_kept (others p) w o ∙ rw t

-- by where the two ways are taken from: both from the first, both from the second, or one from each
module _ (p : Bits) (o q : Order) (v w : ℕ) where
  joined_first : p v ≡ true → p w ≡ true → before (joined p o q) v w ≡ before o v w
  unfolding joined
  joined_first s t =
      before_front (kept p o) (kept (others p) q) v w (not_second_part p q v s) (not_second_part p q w t) ∙ before_kept p o v w s t

  pub joined_second : p v ≡ false → p w ≡ false → before (joined p o q) v w ≡ before q v w
  unfolding joined
  joined_second s t =
      before_back (kept p o) (kept (others p) q) v w (not_first_part p o v s) (not_first_part p o w t)
      ∙ before_kept (others p) q v w (rw s) (rw t)

  joined_ahead : p v ≡ true → p w ≡ false → before (joined p o q) v w ≡ stands v (kept p o)
  unfolding joined
  joined_ahead s t = before_ahead (kept p o) (kept (others p) q) v w (not_second_part p q v s) (not_first_part p o w t)

  joined_behind : p v ≡ false → p w ≡ true → before (joined p o q) v w ≡ (not (stands w (kept p o)) && stands v (kept (others p) q))
  unfolding joined
  joined_behind s t = before_behind (kept p o) (kept (others p) q) v w (not_first_part p o v s) (not_second_part p q w t)

-- Two orders so made agree on two ways where the orders that they are made of do: where both ways are taken from the first, and where both are
-- taken from the second. Where one is taken from each, nothing is asked.
pub joined_agrees : (W : ℕ) (p : Bits) (o q a b : Order) (v w : ℕ) → Each W o → Each W q → Each W a → Each W b
    → (p v ≡ true → p w ≡ true → before o v w ≡ before a v w)
    → (p v ≡ false → p w ≡ false → before q v w ≡ before b v w)
    → before (joined p o q) v w ≡ before (joined p a b) v w
joined_agrees W p o q a b v w eo eq ea eb first second =
    cases (p v)
    (λ s. cases (p w)
    (λ t. joined_first p o q v w s t ∙ first s t ∙ sym (joined_first p a b v w s t))
    (λ t. joined_ahead p o q v w s t ∙ same p v o a eo ea ∙ sym (joined_ahead p a b v w s t)))
    (λ s. cases (p w)
    (λ t. joined_behind p o q v w s t ∙ ap₂ (λ (c d : Bool). not c && d) (same p w o a eo ea) (same (others p) v q b eq eb)
    ∙ sym (joined_behind p a b v w s t))
    (λ t. joined_second p o q v w s t ∙ second s t ∙ sym (joined_second p a b v w s t)))
  where
    -- the same ways are taken from either
    same : (r : Bits) (u : ℕ) (c d : Order) → Each W c → Each W d → stands u (kept r c) ≡ stands u (kept r d)
    same r u c d ec ed = ap (λ (n : ℕ). not (eqb n 0)) (kept_times W r c d ec ed u)

-- ---- an order is known by what stands before what

-- behind the same first way
module _ (u : ℕ) (o q : Order) (same : (w : ℕ) → times w (u ∷ o) ≡ times w (u ∷ q)) where
  tail_times : (w : ℕ) → times w o ≡ times w q
  unfolding times
  tail_times w = omega (arith, same w)

  tail_before : ((w : ℕ) → times w (u ∷ o) ≤ 1) → (v w : ℕ) → before (u ∷ o) v w ≡ before (u ∷ q) v w → before o v w ≡ before q v w
  unfolding before
  tail_before once v w e =
      cases (eqb u w)
      (λ t. before_alone o v w (gone w t) ∙ ap (λ (n : ℕ). not (eqb n 0)) (tail_times v) ∙ sym (before_alone q v w (sym (tail_times w) ∙ gone w t)))
      (λ t. cases (eqb u v)
      (λ r. before_absent o v w (gone v r) ∙ sym (before_absent q v w (sym (tail_times v) ∙ gone v r)))
      (λ r. rw (t, r) at e))
    where
      gone : (i : ℕ) → eqb u i ≡ true → times i o ≡ 0
      gone i t = let e : u ≡ i = eqb-true u i t in rw (sym e) (omega (arith, once u, times_head u o))

same_first : (u t : ℕ) (o q : Order) → before (u ∷ o) u t ≡ before (t ∷ q) u t → u ≡ t
unfolding before
same_first u t o q e =
    cases (eqb u t)
    (λ r. eqb-true u t r)
    (λ r. absurd (true≢false (rw (r, eq-eqb u u refl, eq-eqb t t refl) at e)))

pub order_known : OrderKnown
unfolding times
order_known [] [] same once e = refl
order_known [] (t ∷ q) same once e = absurd (omega (arith, same t, times_head t q))
order_known (u ∷ o) [] same once e = absurd (omega (arith, same u, times_head u o))
order_known (u ∷ o) (t ∷ q) same once e =
    let first : u ≡ t = same_first u t o q (e u t) in
    let also = subst (λ (i : ℕ). (w : ℕ) → times w (u ∷ o) ≡ times w (i ∷ q)) (sym first) same in
    let too = subst (λ (i : ℕ). (v w : ℕ) → before (u ∷ o) v w ≡ before (i ∷ q) v w) (sym first) e in
    ap₂ (λ (i : ℕ) (r : Order). i ∷ r) first
    (order_known o q (tail_times u o q also) (λ w. omega (arith, once w)) (λ v w. tail_before u o q also once v w (too v w)))
