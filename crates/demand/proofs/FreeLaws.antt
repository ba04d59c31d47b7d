-- Halving the range of ways finds the tree's free nodes: `is_free` says what `free` says.
use mathlib.Core.Path.{◌≡◌, refl, sym, ap, ap₂, ◌∙◌}
use mathlib.Core.Bool.{Bool, true, false, ◌&&◌, ◌||◌, and-true, and-false, or-true, and-or_distrib_left}
use Prim.Native.Nat.{ℕ, zero, suc, ◌+◌, ◌-◌, ◌*◌, ◌/◌, ◌^◌, ◌≤◌, ◌<◌}
use native.Mathlib.Nat.{pow-suc}
use native.Mathlib.Omega.{arith}
use lib.Dec.{eqb, ltb}
use lib.Pow.{pow-lt}
use borrow.Author.Tests.{eqb-true, eqb-false, ltb-true, ltb-false}
use Rattle.waymap.specs.Bits.{Bits, bit, any}
use Rattle.waymap.specs.Ways.{Sized}
use Rattle.waymap.proofs.Booleans.{cases}
use Rattle.tree.specs.Tree.{left, right, under, holds, free}
use Rattle.tree.proofs.TreeLaws.{passes_back, under_split, under_root, under_leaf, free_node}
use Rattle.tree.proofs.PathLaws.{doubled, holds_block}
use Rattle.demand.specs.Free.{digit, some_in, free_from, is_free}
use Rattle.demand.specs.Statements.{FreeIs}

-- ---- the ways of a range

-- some place passes a test where the last one or one before it does
any_last : (n : ℕ) (p : Bits) → any (suc n) p ≡ (p n || any n p)
unfolding any
any_last zero p = refl
any_last (suc n) p = cases (p 0) (λ t. rw (t, or-true (p (suc n)))) (λ t. rw t (any_last n (λ (i : ℕ). p (suc i))))

-- a range of ways is looked through from its end as from its start
some_in_lem : (map low n : ℕ) → some_in map low n ≡ any n (λ (v : ℕ). bit map (low + v))
unfolding some_in digit bit any
some_in_lem map low zero = refl
some_in_lem map low (suc n) =
    ap (λ (t : Bool). bit map (low + n) || t) (some_in_lem map low n) ∙ sym (any_last n (λ (v : ℕ). bit map (low + v)))

-- Of count places on a level, each with 2 ^ r ways below it, number p holds a way of the map where the map has one of its range.
holds_some : (W r count p map : ℕ) → count * 2 ^ r ≡ W → p < count → holds W (bit map) (count - 1 + p) ≡ some_in map (p * 2 ^ r) (2 ^ r)
holds_some W r count p map whole h = holds_block W r count p whole h (bit map) ∙ sym (some_in_lem map (p * 2 ^ r) (2 ^ r))

-- ---- the places below a node

-- Whether place i is `node` or stands below it. In a tree of i + 1 ways, way 0 stands at place i.
below : ℕ → ℕ → Bool
below node i = under (suc i) node 0

-- no place stands below a later one
below_back : (node i : ℕ) → i < node → below node i ≡ false
unfolding below under
below_back node i h = passes_back (2 * suc i) node (suc i - 1 + 0) (omega arith)

-- what stands below a node, other than itself, stands below one of its children
below_split : (node i : ℕ) → below node i ≡ (eqb node i || (below (left node) i || below (right node) i))
unfolding below
below_split node i =
    cases (eqb node i)
    (λ t. let same : node ≡ suc i - 1 + 0 = omega (arith, eqb-true node i t) in
    rw t (ap (λ (n : ℕ). under (suc i) n 0) same ∙ under_leaf (suc i) 0 0 (omega arith) (omega arith)))
    (λ t. rw t
    (cases (ltb node i)
    (λ u. under_split (suc i) node 0 (omega (arith, ltb-true node i u)) (omega arith))
    (λ u. let after : i < node = omega (arith, eqb-false node i t, ltb-false node i u) in
    rw (below_back node i after, below_back (left node) i (omega arith), below_back (right node) i (omega arith)))))

-- ---- halving

-- no free node is found over a single way, or none
single : (k map node low size i : ℕ) → size ≤ 1 → free_from k map node low size i ≡ false
unfolding free_from some_in
single zero map node low size i h = refl
single (suc k) map node low size i h =
    let none : size / 2 ≡ 0 = omega arith in
    rw (none, single k map (2 * node + 1) low 0 i (omega arith), single k map (2 * node + 2) (low + 0) 0 i (omega arith), and-false (eqb node i))

-- a node that is free is found here, where both halves hold a way, or on the left or the right
gather : (here a b found l r : Bool) → (here ≡ true → (a && b) ≡ found) → (here && a && b || (found && l || found && r)) ≡ (found && (here || (l || r)))
gather true a b true l r is = rw (is refl)
gather true a b false l r is = rw (is refl)
gather false a b found l r is = sym (and-or_distrib_left found l r)

-- Looked for from place number p of a level on, a node is found if it is free and stands there or below. As many levels as halvings are enough.
free_from_lem : (W map i r k count p : ℕ) → r ≤ k → count * 2 ^ r ≡ W → p < count
    → free_from k map (count - 1 + p) (p * 2 ^ r) (2 ^ r) i ≡ (free W (bit map) i && below (count - 1 + p) i)
unfolding free_from free
free_from_lem W map i zero k count p enough whole h =
    single k map (count - 1 + p) (p * 2 ^ 0) 1 i (omega arith)
    ∙ sym (cases (free W (bit map) i) (λ t. rw t (below_back (count - 1 + p) i (omega (arith, free_node W (bit map) i t)))) (λ t. rw t))
free_from_lem W map i (suc r) zero count p enough whole h = absurd (omega arith)
free_from_lem W map i (suc r) (suc k) count p enough whole h =
    let half : 2 ^ suc r / 2 ≡ 2 ^ r = omega (arith, pow-suc 2 r) in
    let middle : p * 2 ^ suc r + 2 ^ r ≡ (2 * p + 1) * 2 ^ r = omega (arith, doubled p r) in
    let l : left (count - 1 + p) ≡ 2 * count - 1 + 2 * p = omega arith in
    let g : right (count - 1 + p) ≡ 2 * count - 1 + (2 * p + 1) = omega arith in
    let twice : 2 * count * 2 ^ r ≡ W = doubled count r ∙ whole in
    rw (
      half,
      middle,
      ← doubled p r,
      l,
      g,
      ← holds_some W r (2 * count) (2 * p) map twice (omega arith),
      ← holds_some W r (2 * count) (2 * p + 1) map twice (omega arith),
      free_from_lem W map i r k (2 * count) (2 * p) (omega arith) twice (omega arith),
      free_from_lem W map i r k (2 * count) (2 * p + 1) (omega arith) twice (omega arith),
      ← l,
      ← g,
      below_split (count - 1 + p) i,
    ) (gather (eqb (count - 1 + p) i) _ _ _ _ _ (λ t. ap (free W (bit map)) (eqb-true (count - 1 + p) i t)))

-- From the root on, the nodes found are the free nodes: every place stands below the root, and sixteen ways are halved four times.
pub free_is : FreeIs
unfolding is_free below
free_is W s map i =
    ap₂ (λ (low size : ℕ). free_from 4 map 0 low size i) (omega arith) s.power
    ∙ free_from_lem W map i (suc s.depth) 4 1 0 enough (omega (arith, s.power)) (omega arith)
    ∙ rw (under_root (suc i) 0 (omega arith)) (and-true (free W (bit map) i))
  where
    enough : suc s.depth ≤ 4
    enough =
        cases (ltb 4 (suc s.depth))
        (λ t. absurd (omega (arith, s.power, s.most, pow-lt (ltb-true 4 (suc s.depth) t))))
        (λ t. ltb-false 4 (suc s.depth) t)
