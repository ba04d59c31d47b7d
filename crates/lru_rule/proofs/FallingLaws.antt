-- The ways of a map put one by one, the lowest first: they stand as in the fresh order.
use mathlib.Core.Path.{◌≡◌, refl, sym, ap, ◌∙◌}
use mathlib.Core.Bool.{true, false, not, ◌&&◌, and-true, and-false}
use mathlib.Core.List.{[], ◌∷◌, ◌++◌}
use Prim.Native.Nat.{ℕ, zero, suc, ◌+◌, ◌-◌, ◌*◌, ◌%◌, ◌^◌, ◌≤◌, ◌<◌}
use native.Mathlib.Nat.{zero-add}
use native.Mathlib.Omega.{arith}
use lib.Dec.{eqb}
use lib.Bits.{bit_and}
use borrow.Author.Tests.{eqb-true, eqb-false}
use Rattle.waymap.specs.Bits.{Bits, bit, lowest}
use Rattle.waymap.proofs.Booleans.{cases}
use Rattle.waymap.proofs.BitLaws.{bit_none}
use Rattle.waymap.proofs.LowestLaws.{lowest_lt, lowest_in, lowest_least, rest_bit, rest_lt}
use Rattle.lru_rule.specs.Lru.{Order, fresh, kept}
use Rattle.lru_rule.specs.Calls.{ahead}

-- of the ways below n none is kept
pub kept_nothing : (p : Bits) (n : ℕ) → ((w : ℕ) → w < n → p w ≡ false) → kept p (fresh n) ≡ []
unfolding kept fresh
kept_nothing p zero e = refl
kept_nothing p (suc n) e = rw (e n (omega arith)) (kept_nothing p n (λ w h. e w (omega arith)))

kept_same : (p q : Bits) (n : ℕ) → ((w : ℕ) → w < n → p w ≡ q w) → kept p (fresh n) ≡ kept q (fresh n)
unfolding kept fresh
kept_same p q zero e = refl
kept_same p q (suc n) e = rw (e n (omega arith), kept_same p q n (λ w h. e w (omega arith)))

-- ways from n on do not matter to a test that fails there
pub kept_wider : (p : Bits) (n j : ℕ) → ((w : ℕ) → n ≤ w → p w ≡ false) → kept p (fresh (j + n)) ≡ kept p (fresh n)
unfolding kept fresh
kept_wider p n zero e = ap (λ (k : ℕ). kept p (fresh k)) (zero-add n)
kept_wider p n (suc j) e =
    ap (λ (k : ℕ). kept p (fresh k)) more ∙ rw (e (j + n) (omega arith)) (kept_wider p n j e)
  where
    more : suc j + n ≡ suc (j + n)
    more = omega arith

-- the lowest way stands last
lowest_last : (p : Bits) (n v : ℕ) → v < n → p v ≡ true → ((w : ℕ) → w < v → p w ≡ false)
    → kept p (fresh n) ≡ kept (λ (w : ℕ). p w && not (eqb v w)) (fresh n) ++ (v ∷ [])
unfolding kept fresh
lowest_last p zero v h t e = absurd (omega arith)
lowest_last p (suc n) v h t e =
    cases (eqb v n)
    (λ r. let top : v ≡ n = eqb-true v n r in
    let below : (w : ℕ) → w < n → p w ≡ false = λ w k. e w (omega arith) in
    rw (r, and-false (p n), ap p (sym top) ∙ t, kept_nothing p n below, kept_nothing (λ (w : ℕ). p w && not (eqb v w)) n (λ w k. rw (below w k)))
    (ap (λ (i : ℕ). i ∷ []) (sym top)))
    (λ r. let other : v ≡ n → ⊥ = eqb-false v n r in
    rw (r, and-true (p n))
    (cases (p n)
    (λ s. rw s (ap (λ (o : Order). n ∷ o) (lowest_last p n v (omega (arith, other)) t e)))
    (λ s. rw s (lowest_last p n v (omega (arith, other)) t e))))

ahead_append : (o q : Order) (x : ℕ) → ahead (o ++ q) x ≡ ahead o (ahead q x)
unfolding ahead
ahead_append [] q x = refl
ahead_append (v ∷ o) q x = rw (ahead_append o q x)

-- What is left of the map is still to be put.
pub record Falling (map left out : ℕ) : Type 0 where
  pub left_lt : left < 2 ^ 16
  pub is : ahead (kept (bit left) (fresh 16)) out ≡ ahead (kept (bit map) (fresh 16)) 0

pub fall_begin : (map : ℕ) → map < 2 ^ 16 → Falling map map 0
fall_begin map h = record { left_lt = h; is = refl }

-- one way more fits its word
pub fall_fits : {map left out way : ℕ} → Falling map left out → (left ≡ 0 → ⊥) → way ≡ lowest 16 (bit left) → (out * 16) % 2 ^ 64 + way < 2 ^ 64
fall_fits f some low = omega (arith, lowest_lt 16 f.left_lt some low)

pub fall_turned : {map left out way : ℕ} → Falling map left out → (left ≡ 0 → ⊥) → way ≡ lowest 16 (bit left)
    → Falling map (bit_and left (left - 1)) ((out * 16) % 2 ^ 64 + way)
unfolding ahead
fall_turned {map} {left} {out} {way} f some low = record {
  left_lt = rest_lt 16 f.left_lt some low;
  is =
      sym (ap (λ (o : Order). ahead o out) lowest_out
      ∙ ahead_append (kept (λ (w : ℕ). bit left w && not (eqb way w)) (fresh 16)) (way ∷ []) out
      ∙ ap (λ (o : Order). ahead o ((out * 16) % 2 ^ 64 + way)) (sym rest))
      ∙ f.is;
}
  where
    lowest_out : kept (bit left) (fresh 16) ≡ kept (λ (w : ℕ). bit left w && not (eqb way w)) (fresh 16) ++ (way ∷ [])
    lowest_out =
        lowest_last (bit left) 16 way (lowest_lt 16 f.left_lt some low) (lowest_in 16 _ _ f.left_lt some low) (lowest_least 16 _ _ f.left_lt some low)

    rest : kept (bit (bit_and left (left - 1))) (fresh 16) ≡ kept (λ (w : ℕ). bit left w && not (eqb way w)) (fresh 16)
    rest = kept_same _ _ 16 (λ w h. rest_bit 16 _ _ f.left_lt some low w)

pub fall_end : {map left out : ℕ} → Falling map left out → left ≡ 0 → out ≡ ahead (kept (bit map) (fresh 16)) 0
unfolding ahead
fall_end {map} {left} {out} f none =
    sym (ap (λ (o : Order). ahead o out) (kept_nothing (bit left) 16 (λ w h. rw none (bit_none w)))) ∙ f.is
