-- Orders as lists of ways: how often a way stands in one, and how many ways that makes.
use mathlib.Core.Path.{subst, ◌≡◌, refl, sym, ap, ap₂, ◌∙◌}
use mathlib.Core.Bool.{cond}
use mathlib.Core.List.{[], ◌∷◌, ◌++◌}
use Prim.Native.Nat.{ℕ, zero, suc, ◌+◌, ◌≤◌, ◌<◌}
use native.Mathlib.Omega.{arith}
use lib.Dec.{eqb, ltb, leb}
use lib.ListN.{length}
use borrow.Author.Tests.{eqb-true, eqb-false, eq-eqb, ne_eqb, lt-ltb, le-ltb, ltb-true, ltb-false, leb-true, leb-false, le-leb}
use Rattle.waymap.specs.Bits.{Bits, digit}
use Rattle.waymap.proofs.Booleans.{cases}
use Rattle.lru_rule.specs.Lru.{Order, times, fresh, kept, others, joined}
use Rattle.lru_rule.specs.Statements.{Below, Each, NoneMissing}

pub eqb_sym : (a b : ℕ) → eqb a b ≡ eqb b a
eqb_sym a b =
    cases (eqb a b) (λ t. rw (t, eq-eqb b a (sym (eqb-true a b t)))) (λ t. rw (t, ne_eqb b a (λ e. eqb-false a b t (sym e))))

-- ---- how often a way stands in an order

pub times_head : (w : ℕ) (o : Order) → times w (w ∷ o) ≡ suc (times w o)
unfolding times
times_head w o = rw (eq-eqb w w refl) (omega arith)

pub times_append : (w : ℕ) (o q : Order) → times w (o ++ q) ≡ times w o + times w q
unfolding times
times_append w [] q = omega arith
times_append w (v ∷ o) q = rw (times_append w o q) (omega arith)

pub times_kept : (p : Bits) (w : ℕ) (o : Order) → times w (kept p o) ≡ cond (p w) (times w o) 0
unfolding times kept
times_kept p w [] = cases (p w) (λ t. rw t) (λ t. rw t)
times_kept p w (v ∷ o) =
    cases (eqb v w)
    (λ t. subst (λ x. times x (kept p (v ∷ o)) ≡ cond (p x) (times x (v ∷ o)) 0) (eqb-true v w t)
    (cases (p v) (λ u. rw (u, times_kept p v o, u)) (λ u. rw (u, times_kept p v o, u))))
    (λ t. cases (p v)
    (λ u. rw (u, t, times_kept p w o) (cases (p w) (λ r. rw r) (λ r. rw r)))
    (λ u. rw (u, t, times_kept p w o) (cases (p w) (λ r. rw r (omega arith)) (λ r. rw r))))

pub times_joined : (p : Bits) (w : ℕ) (o q : Order) → times w (joined p o q) ≡ cond (p w) (times w o) (times w q)
unfolding joined
times_joined p w o q =
    times_append w (kept p o) (kept (others p) q)
    ∙ ap₂ (λ (a b : ℕ). a + b) (times_kept p w o) (times_kept (others p) w q)
    ∙ cases (p w) (λ t. rw t (omega arith)) (λ t. rw t (omega arith))

-- ---- orders of ways below a bound

pub below_head : (n v : ℕ) (o : Order) → Below n (v ∷ o) → v < n
below_head n v o b = cases (leb n v) (λ t. absurd (omega (arith, times_head v o, b v (leb-true n v t)))) (λ t. leb-false n v t)

pub below_tail : (n v : ℕ) (o : Order) → Below n (v ∷ o) → Below n o
unfolding times
below_tail n v o b w h = omega (arith, b w h)

pub below_kept : (n : ℕ) (p : Bits) (o : Order) → Below n o → Below n (kept p o)
below_kept n p o b w h = times_kept p w o ∙ cases (p w) (λ t. rw t (b w h)) (λ t. rw t)

-- ---- how many ways there are

-- f 0 to f (n - 1) together
abbrev total : ℕ → (ℕ → ℕ) → ℕ
total zero f = 0
total (suc n) f = f n + total n f

total_ext : (n : ℕ) {f g : ℕ → ℕ} → ((w : ℕ) → w < n → f w ≡ g w) → total n f ≡ total n g
total_ext zero e = refl
total_ext (suc n) e = ap₂ (λ (a b : ℕ). a + b) (e n (omega arith)) (total_ext n (λ w h. e w (omega (arith, h))))

total_add : (n : ℕ) (f g : ℕ → ℕ) → total n (λ (w : ℕ). f w + g w) ≡ total n f + total n g
total_add zero f g = refl
total_add (suc n) f g = rw (total_add n f g) (omega arith)

-- each of n ones
total_ones : (n : ℕ) → total n (λ (w : ℕ). 1) ≡ n
total_ones zero = refl
total_ones (suc n) = omega (arith, total_ones n)

total_none : (n : ℕ) → total n (λ (w : ℕ). 0) ≡ 0
total_none zero = refl
total_none (suc n) = omega (arith, total_none n)

-- a way below n + 1 is n or below n
one_more : (n v : ℕ) → digit (eqb v n) + digit (ltb v n) ≡ digit (ltb v (suc n))
one_more n v =
    cases (eqb v n)
    (λ t. let e : v ≡ n = eqb-true v n t in rw (t, le-ltb v n (omega arith), lt-ltb v (suc n) (omega arith)))
    (λ t. let e : v ≡ n → ⊥ = eqb-false v n t in
    cases (leb n v)
    (λ u. let h : n ≤ v = leb-true n v u in rw (t, le-ltb v n h, le-ltb v (suc n) (omega (arith, e))))
    (λ u. let h : v < n = leb-false n v u in rw (t, lt-ltb v n h, lt-ltb v (suc n) (omega arith))))

total_one : (n v : ℕ) → total n (λ (w : ℕ). digit (eqb v w)) ≡ digit (ltb v n)
total_one zero v = rw (le-ltb v 0 (omega arith))
total_one (suc n) v = rw (total_one n v) (one_more n v)

-- where none is less than one and together they are no more than n, each is one
total_tight : (n : ℕ) (f : ℕ → ℕ) → ((w : ℕ) → w < n → 1 ≤ f w) → total n f ≤ n → (w : ℕ) → w < n → f w ≡ 1
total_tight zero f least most w h = absurd (omega arith)
total_tight (suc n) f least most w h =
    let top : 1 ≤ f n = least n (omega arith) in
    let rest : n ≤ total n f = at_least n (λ v k. least v (omega arith)) in
    cases (eqb w n)
    (λ t. rw (eqb-true w n t) (omega arith))
    (λ t. total_tight n f (λ v k. least v (omega arith)) (omega arith) w (omega (arith, eqb-false w n t)))
  where
    at_least : (k : ℕ) → ((v : ℕ) → v < k → 1 ≤ f v) → k ≤ total k f
    at_least zero l = omega arith
    at_least (suc k) l = omega (arith, l k (omega arith), at_least k (λ v i. l v (omega arith)))

-- an order's ways are those below n and the others
total_rest : (n : ℕ) (o : Order) → length o ≡ total n (λ (w : ℕ). times w o) + length (kept (leb n) o)
unfolding times kept
total_rest n [] = rw (total_none n)
total_rest n (v ∷ o) =
    rw (total_add n (λ (w : ℕ). digit (eqb v w)) (λ (w : ℕ). times w o), total_one n v)
    (cases (leb n v)
    (λ t. rw (t, le-ltb v n (leb-true n v t)) (omega (arith, total_rest n o)))
    (λ t. rw (t, lt-ltb v n (leb-false n v t)) (omega (arith, total_rest n o))))

-- an order in which no way stands is empty
no_ways : (o : Order) → ((w : ℕ) → times w o ≡ 0) → length o ≡ 0
no_ways [] e = refl
no_ways (v ∷ o) e = absurd (omega (arith, times_head v o, e v))

below_long : (n : ℕ) (o : Order) → Below n o → length o ≡ total n (λ (w : ℕ). times w o)
below_long n o b =
    total_rest n o
    ∙ rw (no_ways (kept (leb n) o) (λ w. times_kept (leb n) w o ∙ cases (leb n w) (λ t. rw t (b w (leb-true n w t))) (λ t. rw t)))
    (omega arith)

-- so orders with the same ways are equally long
pub below_same : (n : ℕ) (o q : Order) → Below n o → Below n q → ((w : ℕ) → times w o ≡ times w q) → length o ≡ length q
below_same n o q b c e = below_long n o b ∙ total_ext n (λ w h. e w) ∙ sym (below_long n q c)

-- ---- each of W ways exactly once

pub each_below : (W : ℕ) (o : Order) → Each W o → Below W o
each_below W o e w h = e w ∙ rw (le-ltb w W h)

pub each_long : (W : ℕ) (o : Order) → Each W o → length o ≡ W
each_long W o e = below_long W o (each_below W o e) ∙ total_ext W (λ w h. e w ∙ rw (lt-ltb w W h)) ∙ total_ones W

-- W places that miss none of W ways hold each of them once, and nothing else
pub none_missing : NoneMissing
unfolding times
none_missing W o long least w =
    let all : W ≡ total W (λ (v : ℕ). times v o) + length (kept (leb W) o) = sym long ∙ total_rest W o in
    let once : (v : ℕ) → v < W → times v o ≡ 1 = total_tight W (λ (v : ℕ). times v o) least (omega arith) in
    let ways : total W (λ (v : ℕ). times v o) ≡ W = total_ext W once ∙ total_ones W in
    let rest : kept (leb W) o ≡ [] = empty (kept (leb W) o) (omega arith) in
    cases (ltb w W)
    (λ t. rw t (once w (ltb-true w W t)))
    (λ t. rw t
    (sym (times_kept (leb W) w o ∙ rw (le-leb W w (ltb-false w W t))) ∙ ap (λ (q : Order). times w q) rest ∙ nothing w))
  where
    empty : (q : Order) → length q ≡ 0 → q ≡ []
    empty [] e = refl
    empty (v ∷ q) e = absurd (omega arith)

    nothing : (v : ℕ) → times v [] ≡ 0
    nothing v = refl

pub fresh_each : (W : ℕ) → Each W (fresh W)
unfolding fresh times
fresh_each zero w = rw (le-ltb w 0 (omega arith))
fresh_each (suc n) w = rw (fresh_each n w, eqb_sym n w) (one_more n w)

-- an order made of two
pub joined_each : (W : ℕ) (p : Bits) (o q : Order) → Each W o → Each W q → Each W (joined p o q)
joined_each W p o q e f w = times_joined p w o q ∙ cases (p w) (λ t. rw t (e w)) (λ t. rw t (f w))

-- and the same ways of two such orders pass a test
pub kept_times : (W : ℕ) (p : Bits) (o q : Order) → Each W o → Each W q → (w : ℕ) → times w (kept p o) ≡ times w (kept p q)
kept_times W p o q e f w = times_kept p w o ∙ ap (λ (n : ℕ). cond (p w) n 0) (e w ∙ sym (f w)) ∙ sym (times_kept p w q)
