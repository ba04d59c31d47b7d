-- The places that pass a test, as a list and as a number.
use mathlib.Core.Path.{◌≡◌, refl, sym, ap, ap₂, ◌∙◌}
use mathlib.Core.Bool.{Bool, true, false, cond, not, ◌&&◌, and-true, and-false}
use mathlib.Core.List.{List, [], ◌∷◌, ◌++◌, append-nil, Mem, mem-cast, mem-cons_self, mem-append_left, mem-append_right}
use Prim.Native.Nat.{ℕ, zero, suc, ◌+◌, ◌≤◌, ◌<◌}
use native.Mathlib.Omega.{arith}
use lib.Dec.{eqb, leb, ltb}
use lib.ListN.{length, length-append}
use borrow.Author.Tests.{eqb-true, eqb-false, lt-ltb, le-ltb, le-leb, lt-leb}
use Rattle.waymap.specs.Bits.{Bits, digit, count, members}
use Rattle.waymap.proofs.Booleans.{cases}
use Rattle.waymap.proofs.WayLaws.{count_ext, count_wider}

-- ---- how many

-- one place more
count_more : (n : ℕ) (p : Bits) → count (suc n) p ≡ count n p + digit (p n)
unfolding count
count_more zero p = omega arith
count_more (suc n) p =
    ap (λ (k : ℕ). digit (p 0) + k) (count_more n (λ (i : ℕ). p (suc i)))
    ∙ omega arith

-- by a second test
pub count_split : (n : ℕ) (p q : Bits) → count n p ≡ count n (λ (i : ℕ). p i && q i) + count n (λ (i : ℕ). p i && not (q i))
unfolding count
count_split zero p q = refl
count_split (suc n) p q =
    ap₂ ◌+◌ (parts (p 0) (q 0)) (count_split n (λ (i : ℕ). p (suc i)) (λ (i : ℕ). q (suc i))) ∙ omega arith
  where
    parts : (a b : Bool) → digit a ≡ digit (a && b) + digit (a && not b)
    parts true true = refl
    parts true false = refl
    parts false b = refl

-- among fewer places, where those beyond do not pass
count_below : (k n : ℕ) (p : Bits) → k ≤ n → count n (λ (i : ℕ). p i && ltb i k) ≡ count k p
count_below k n p h =
    count_wider k n (λ (i : ℕ). p i && ltb i k) h (λ i l. rw (le-ltb i k l) (and-false (p i)))
    ∙ count_ext k (λ i l. rw (lt-ltb i k l) (and-true (p i)))

-- Two tests that pass the same places, each below its own bound, pass equally many.
pub count_same : (n m : ℕ) (p q : Bits) → ((i : ℕ) → (p i && ltb i n) ≡ (q i && ltb i m)) → count n p ≡ count m q
count_same n m p q e =
    sym (count_below n (n + m) p (omega arith)) ∙ count_ext (n + m) (λ i l. e i) ∙ count_below m (n + m) q (omega arith)

-- ---- as a list

pub members_ext : (n : ℕ) {p q : Bits} → ((i : ℕ) → i < n → p i ≡ q i) → members n p ≡ members n q
unfolding members
members_ext zero e = refl
members_ext (suc n) e =
    ap₂ (λ (l : List ℕ) (b : Bool). l ++ cond b (n ∷ []) []) (members_ext n (λ i h. e i (omega arith))) (e n (omega arith))

pub members_length : (n : ℕ) (p : Bits) → length (members n p) ≡ count n p
unfolding members count
members_length zero p = refl
members_length (suc n) p =
    length-append (members n p) (cond (p n) (n ∷ []) [])
    ∙ ap₂ ◌+◌ (members_length n p) (one (p n))
    ∙ sym (count_more n p)
  where
    one : (b : Bool) → length (cond b (n ∷ []) []) ≡ digit b
    one true = refl
    one false = refl

-- Those up to and including h are those below it, and then h.
pub members_up_to : (n h : ℕ) (p : Bits) → h < n → p h ≡ true → members n (λ (i : ℕ). p i && leb i h) ≡ members h p ++ (h ∷ [])
unfolding members
members_up_to zero h p l t = absurd (omega arith)
members_up_to (suc n) h p l t =
    cases (eqb n h)
    (λ e. let top : n ≡ h = eqb-true n h e in
    rw (ap p top ∙ t, le-leb n h (omega arith), members_ext n (below (omega arith))) (ap (λ (k : ℕ). members k p ++ (k ∷ [])) top))
    (λ e. let further : h < n = omega (arith, eqb-false n h e) in
    rw (lt-leb n h further, and-false (p n)) (append-nil (members n (λ (i : ℕ). p i && leb i h)) ∙ members_up_to n h p further t))
  where
    below : n ≤ h → (i : ℕ) → i < n → (p i && leb i h) ≡ p i
    below k i m = rw (le-leb i h (omega arith)) (and-true (p i))

-- A place below n that passes is one of them.
pub members_at : (n : ℕ) (p : Bits) (i : ℕ) → i < n → p i ≡ true → Mem i (members n p)
unfolding members
members_at zero p i h t = absurd (omega arith)
members_at (suc n) p i h t =
    cases (eqb i n)
    (λ e. let top : i ≡ n = eqb-true i n e in
    rw (ap p (sym top) ∙ t) (mem-append_right (members n p) (mem-cast top mem-cons_self)))
    (λ e. mem-append_left (cond (p n) (n ∷ []) []) (members_at n p i (omega (arith, eqb-false i n e)) t))
