-- Numbers 12 and 1, and what they let pass.
use Rattle.std.proofs.Common.{◌≡◌, ℕ, true, eqb, ltb, List, length, ap, ◌∙◌, suc-ne-zero, eq-eqb, ne_eqb, eqb-true}
use Rattle.std.proofs.Common.{Result, Ok, Err}
use Rattle.std.specs.Result.{IsErrAnd}
use Rattle.command.specs.declared.Refusal.{Refusal}
use borrow.Author.Tests.{eqb-false}
use Rattle.waymap.proofs.Booleans.{cases}
use Rattle.geometry.specs.Geometry.{within}
use Rattle.geometry.specs.Named.{geometry_of}
use Rattle.geometry.specs.declared.Geometry.{Geometry}
use Rattle.geometry.proofs.GeometryLaws.{limited}
use Rattle.block.specs.Layout.{block_bytes, zeros_in}
use Rattle.block.specs.Block.{answer_bytes, length_refusal, block_refusal}
use Rattle.block.specs.Inside.{Blocked}

-- What is passed on by a `?` is the refusal itself.
pub passed_on : {A : Type 0} (r : Result A Refusal) (e : Refusal) → IsErrAnd r (λ y. y ≡ e) → r ≡ Err e
passed_on (Ok x) e h = absurd h
passed_on (Err y) e h = ap Err h

-- ---- of a block and a geometry

pub length_passed : (g : Geometry) (n : ℕ) → length_refusal g n ≡ 0 → (within g ≡ true) × (n ≡ block_bytes g)
unfolding length_refusal
length_passed g n e =
    cases (ltb n 8)
    (λ a. absurd (suc-ne-zero 11 (rw a at e)))
    (λ a. cases (within g)
    (λ w. cases (eqb n (block_bytes g))
    (λ l. (w, eqb-true n (block_bytes g) l))
    (λ l. absurd (suc-ne-zero 11 (rw (a, w, l) at e))))
    (λ w. absurd (suc-ne-zero 0 (rw (a, w) at e))))

pub blocked : (g : Geometry) (block : List ℕ) → length_refusal g (length block) ≡ 0 → Blocked g block
blocked g block e =
    let passed = length_passed g (length block) e in
    record { limited = limited g passed.0; long = passed.1 }

-- ---- at a step

module _ (block : List ℕ) {g : Geometry} {n : ℕ} (a : ℕ) (is : g ≡ geometry_of block) (sized : n ≡ length_refusal g (length block)) where
  named : n ≡ length_refusal (geometry_of block) (length block)
  named = sized ∙ ap (λ (h : Geometry). length_refusal h (length block)) is

  pub by_length : (n ≡ 0 → ⊥) → n ≡ block_refusal block a
  unfolding block_refusal
  by_length z = rw (← named, ne_eqb n 0 z)

  pub by_answer : n ≡ 0 → (a ≡ answer_bytes → ⊥) → 12 ≡ block_refusal block a
  unfolding block_refusal
  by_answer z h = rw (← named, eq-eqb n 0 z, ne_eqb a answer_bytes h)

  module _ {zeros : ℕ} (z : n ≡ 0) (h : a ≡ answer_bytes) (read : zeros ≡ zeros_in block) where
    pub by_zeros : (zeros ≡ 0 → ⊥) → 12 ≡ block_refusal block a
    unfolding block_refusal
    by_zeros q = rw (← named, eq-eqb n 0 z, eq-eqb a answer_bytes h, ← read, ne_eqb zeros 0 q)

    pub by_none : zeros ≡ 0 → 0 ≡ block_refusal block a
    unfolding block_refusal
    by_none q = rw (← named, eq-eqb n 0 z, eq-eqb a answer_bytes h, ← read, eq-eqb zeros 0 q)

-- What is let pass has its length, its zero bytes and a geometry within the limits.
pub record Passed (block : List ℕ) : Type 0 where
  pub length_is : length_refusal (geometry_of block) (length block) ≡ 0
  pub zeros_are : zeros_in block ≡ 0

pub passed : (block : List ℕ) (a : ℕ) → block_refusal block a ≡ 0 → Passed block
unfolding block_refusal
passed block a e =
    cases (eqb number 0)
    (λ n. cases (eqb a answer_bytes)
    (λ l. cases (eqb (zeros_in block) 0)
    (λ z. record { length_is = eqb-true number 0 n; zeros_are = eqb-true (zeros_in block) 0 z })
    (λ z. absurd (suc-ne-zero 11 (rw (n, l, z) at e))))
    (λ l. absurd (suc-ne-zero 11 (rw (n, l) at e))))
    (λ n. record { length_is = rw n at e; zeros_are = absurd (eqb-false number 0 n (rw n at e)) })
  where
    number : ℕ
    number = length_refusal (geometry_of block) (length block)
