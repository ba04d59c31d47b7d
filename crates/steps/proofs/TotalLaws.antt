-- Numbers of all sets, added up.
use mathlib.Core.Path.{◌≡◌, refl, sym, ap, ap₂, ◌∙◌}
use mathlib.Core.Bool.{Bool, false, ◌&&◌}
use mathlib.Core.List.{List, [], ◌∷◌, ◌++◌}
use Prim.Native.Nat.{ℕ, zero, suc, ◌+◌, ◌*◌, ◌≤◌, ◌<◌}
use native.Mathlib.Nat.{add_assoc, add-zero, zero-add, mul-suc}
use native.Mathlib.Omega.{arith}
use lib.Dec.{eqb}
use lib.ListN.{get_or, take}
use lib.Seq.{take_all, take-suc}
use borrow.Author.Tests.{eqb-true, eqb-false}
use Rattle.waymap.specs.Bits.{Bits, bit, count}
use Rattle.waymap.proofs.Booleans.{cases}
use Rattle.waymap.proofs.WayLaws.{count_ext, count_wider}
use Rattle.row.specs.Row.{Row, lines_in}
use Rattle.sweep.specs.Number.{lines_among}
use Rattle.geometry.specs.declared.Geometry.{Geometry}
use Rattle.steps.specs.Tables.{Tables, row_at, total}
use Rattle.steps.specs.Inside.{Shaped}
use Rattle.steps.specs.Statements.{AmongTotal}
use Rattle.steps.proofs.SetLaws.{row_long}

-- set by set the same
pub total_ext : (W n : ℕ) (f h : Row → ℕ) (t u : Tables) → ((i : ℕ) → i < n → f (row_at W i t) ≡ h (row_at W i u)) → total W n f t ≡ total W n h u
unfolding total
total_ext W zero f h t u e = refl
total_ext W (suc n) f h t u e = ap₂ ◌+◌ (total_ext W n f h t u (λ i k. e i (omega arith))) (e n (omega arith))

-- set by set no more
pub total_mono : (W n : ℕ) (f h : Row → ℕ) (t u : Tables) → ((i : ℕ) → i < n → f (row_at W i t) ≤ h (row_at W i u)) → total W n f t ≤ total W n h u
unfolding total
total_mono W zero f h t u e = omega arith
total_mono W (suc n) f h t u e = omega (arith, total_mono W n f h t u (λ i k. e i (omega arith)), e n (omega arith))

-- set by set the sum
pub total_sum : (W n : ℕ) (f h k : Row → ℕ) (t u v : Tables) → ((i : ℕ) → i < n → f (row_at W i t) + h (row_at W i u) ≡ k (row_at W i v))
    → total W n f t + total W n h u ≡ total W n k v
unfolding total
total_sum W zero f h k t u v e = refl
total_sum W (suc n) f h k t u v e = omega (arith, total_sum W n f h k t u v (λ i l. e i (omega arith)), e n (omega arith))

-- the same but in one set
pub total_one : (W n : ℕ) (f : Row → ℕ) (t u : Tables) (s : ℕ) → s < n → ((i : ℕ) → i < n → (i ≡ s → ⊥) → f (row_at W i t) ≡ f (row_at W i u))
    → total W n f t + f (row_at W s u) ≡ total W n f u + f (row_at W s t)
unfolding total
total_one W zero f t u s h e = absurd (omega arith)
total_one W (suc n) f t u s h e =
    cases (eqb s n)
    (λ z. let last : s ≡ n = eqb-true s n z in
    let rest : total W n f t ≡ total W n f u = total_ext W n f f t u (λ i k. e i (omega arith) (λ q. omega arith)) in
    rw last (omega arith))
    (λ z. let other : s ≡ n → ⊥ = eqb-false s n z in
    omega (arith, total_one W n f t u s (omega (arith, other)) (λ i k. e i (omega arith)), e n (omega arith) (λ q. other (sym q))))

-- no more than the largest part each
pub total_le : (W n k : ℕ) (f : Row → ℕ) (t : Tables) → ((s : ℕ) → s < n → f (row_at W s t) ≤ k) → total W n f t ≤ k * n
unfolding total
total_le W zero k f t e = omega arith
total_le W (suc n) k f t e = omega (arith, total_le W n k f t (λ s h. e s (omega arith)), e n (omega arith), mul-suc k n)

-- ---- the lines of all sets in some ways, from the valid maps alone

among_append : (map : Bits) (xs ys : List ℕ) → lines_among map (xs ++ ys) ≡ lines_among map xs + lines_among map ys
unfolding lines_among
among_append map [] ys = sym (zero-add (lines_among map ys))
among_append map (x ∷ xs) ys =
    ap (λ (n : ℕ). count 16 (λ (w : ℕ). map w && bit x w) + n) (among_append map xs ys)
    ∙ sym (add_assoc (count 16 (λ (w : ℕ). map w && bit x w)) (lines_among map xs) (lines_among map ys))

-- it goes by the first sixteen ways
pub among_ext : (f h : Bits) (vs : List ℕ) → ((w : ℕ) → w < 16 → f w ≡ h w) → lines_among f vs ≡ lines_among h vs
unfolding lines_among
among_ext f h [] e = refl
among_ext f h (v ∷ vs) e =
    ap₂ ◌+◌ (count_ext 16 (λ w k. ap (λ (b : Bool). b && bit v w) (e w k))) (among_ext f h vs e)

module _ (g : Geometry) (t : Tables) (shaped : Shaped g t) (map : Bits) (within : (w : ℕ) → g.ways ≤ w → map w ≡ false) where
  row_lines : (i : ℕ) → i < g.sets → count 16 (λ (w : ℕ). map w && bit (get_or t.valid i 0) w) ≡ lines_in map (row_at g.ways i t)
  unfolding lines_in row_at
  row_lines i h =
      count_wider g.ways 16 (λ (w : ℕ). map w && bit (get_or t.valid i 0) w) shaped.limited.most_ways (λ w k. rw (within w k))
      ∙ ap (λ (n : ℕ). count n (λ (w : ℕ). map w && bit (get_or t.valid i 0) w)) (sym (row_long g shaped i h))

  first_lines : (n : ℕ) → n ≤ g.sets → lines_among map (take n t.valid) ≡ total g.ways n (lines_in map) t
  unfolding total lines_among
  first_lines zero h = refl
  first_lines (suc n) h =
      ap (lines_among map) (take-suc t.valid n 0 (rw shaped.valid_long h))
      ∙ among_append map (take n t.valid) (get_or t.valid n 0 ∷ [])
      ∙ ap₂ ◌+◌ (first_lines n (omega arith)) (add-zero (count 16 (λ (w : ℕ). map w && bit (get_or t.valid n 0) w)) ∙ row_lines n h)

pub among_total : AmongTotal
among_total g t shaped map within =
    ap (lines_among map) (sym (take_all g.sets t.valid (omega (arith, shaped.valid_long)))) ∙ first_lines g t shaped map within g.sets (omega arith)
