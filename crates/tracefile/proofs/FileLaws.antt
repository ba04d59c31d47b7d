-- When a file is refused, and what one that is not has.
use mathlib.Core.Path.{◌≡◌, ap, ◌∙◌}
use mathlib.Core.Bool.{Bool, cond, not}
use mathlib.Core.List.{List}
use mathlib.Core.Logic.{◌⊎◌, inl, inr}
use Prim.Native.Nat.{ℕ, ◌+◌, ◌*◌, ◌≤◌, ◌<◌}
use native.Mathlib.Nat.{suc-ne-zero}
use lib.Dec.{eqb, ltb}
use lib.ListN.{length}
use borrow.Author.Tests.{ltb-false, eqb-true, lt-ltb, le-ltb, eq-eqb, ne_eqb}
use Rattle.waymap.proofs.Booleans.{cases}
use Rattle.geometry.specs.Geometry.{within}
use Rattle.geometry.specs.Named.{geometry_of}
use Rattle.geometry.specs.declared.Geometry.{Geometry}
use Rattle.tracefile.specs.File.{step_count, max_steps, max_file_sets, bad_file, file_refusal}
use Rattle.tracefile.specs.Statements.{FileAccepted}

-- ---- the file's refusal

pub bad_short : (file : List ℕ) → length file < 8 → 10 ≡ file_refusal file
unfolding file_refusal bad_file
bad_short file h = rw (lt-ltb (length file) 8 h)

-- A file of 8 bytes or more names n steps; then its length, the steps' number and the geometry decide.
module _ (file : List ℕ) {n : ℕ} (named : n ≡ step_count file) (long : 8 ≤ length file) where
  bad_length : (length file ≡ 8 + 10 * n → ⊥) → 10 ≡ file_refusal file
  unfolding file_refusal bad_file
  bad_length e = rw (le-ltb (length file) 8 long, ← named, ne_eqb (length file) (8 + 10 * n) e)

  bad_steps : length file ≡ 8 + 10 * n → max_steps < n → 10 ≡ file_refusal file
  unfolding file_refusal bad_file
  bad_steps e m = rw (le-ltb (length file) 8 long, ← named, eq-eqb (length file) (8 + 10 * n) e, lt-ltb max_steps n m)

  -- neither
  pub bad_size : (length file ≡ 8 + 10 * n → ⊥) ⊎ ((length file ≡ 8 + 10 * n) × (max_steps < n)) → 10 ≡ file_refusal file
  bad_size (inl e) = bad_length e
  bad_size (inr m) = bad_steps m.0 m.1

  -- then the geometry that it names
  module _ {g : Geometry} (whole : length file ≡ 8 + 10 * n) (few : n ≤ max_steps) (is : g ≡ geometry_of file) where
    sets_are : g.sets ≡ (geometry_of file).sets
    sets_are = ap (λ (h : Geometry). h.sets) is

    pub bad_sets : max_file_sets < g.sets → 10 ≡ file_refusal file
    unfolding file_refusal bad_file
    bad_sets m =
        rw (le-ltb (length file) 8 long, ← named, eq-eqb (length file) (8 + 10 * n) whole, le-ltb max_steps n few)
        (rw (← sets_are, lt-ltb max_file_sets g.sets m))

    pub good_file : {stands : Bool} → g.sets ≤ max_file_sets → stands ≡ within g → cond (not stands) 1 0 ≡ file_refusal file
    unfolding file_refusal bad_file
    good_file m w =
        ap (λ (b : Bool). cond (not b) 1 0) (w ∙ ap within is)
        ∙ rw (le-ltb (length file) 8 long, ← named, eq-eqb (length file) (8 + 10 * n) whole, le-ltb max_steps n few)
        (rw (← sets_are, le-ltb max_file_sets g.sets m))

-- ---- a file that is not refused

pub accepted : FileAccepted
unfolding file_refusal bad_file
accepted file e =
    cases (ltb (length file) 8)
    (λ a. absurd (suc-ne-zero 9 (rw a at e)))
    (λ a. cases (eqb (length file) (8 + 10 * step_count file))
    (λ b. cases (ltb max_steps (step_count file))
    (λ d. absurd (suc-ne-zero 9 (rw (a, b, d) at e)))
    (λ d. cases (ltb max_file_sets (geometry_of file).sets)
    (λ s. absurd (suc-ne-zero 9 (rw (a, b, d, s) at e)))
    (λ s. cases (within (geometry_of file))
    (λ w. record {
      long = ltb-false (length file) 8 a;
      whole = eqb-true (length file) (8 + 10 * step_count file) b;
      short = ltb-false max_steps (step_count file) d;
      few_sets = ltb-false max_file_sets (geometry_of file).sets s;
      limits = w;
    })
    (λ w. absurd (suc-ne-zero 0 (rw (a, b, d, s, w) at e))))))
    (λ b. absurd (suc-ne-zero 9 (rw (a, b) at e))))
