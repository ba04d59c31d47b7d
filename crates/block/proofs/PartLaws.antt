-- The parts of a block: where a number of one lies, and a write into one.
use Rattle.std.proofs.Common.{◌≡◌, ℕ, ◌+◌, ◌*◌, ◌<◌, ◌≤◌, List, [], length, get_or, take, drop, set, sym, ap, ◌∙◌, le_of_eq, mul-le-mul_right, suc-mul, arith}
use lib.Seq.{sets, length-sets}
use Rattle.endian.specs.Bytes.{digits, field, cut, sum, put_field}
use Rattle.runs.specs.Runs.{numbers}
use Rattle.endian.proofs.CutLaws.{cut_part, cut_sets, part_long as part_size, parts_end}
use Rattle.endian.proofs.DigitLaws.{digits_long, put_whole}
use Rattle.runs.proofs.TableLaws.{number_in}
use Rattle.geometry.specs.declared.Geometry.{Geometry}
use Rattle.block.specs.Layout.{sizes}
use Rattle.block.specs.Inside.{Blocked}

-- Part i of a block, and how long it is.
abbrev pub part : Geometry → List ℕ → ℕ → List ℕ
part g block i = get_or (cut (sizes g) block) i []

abbrev pub size : Geometry → ℕ → ℕ
size g i = get_or (sizes g) i 0

-- Where it begins.
abbrev pub start : Geometry → ℕ → ℕ
start g i = sum (take i (sizes g))

-- The parts with a run of stores into part i.
abbrev pub written : ℕ → ℕ → List ℕ → List (List ℕ) → List (List ℕ)
written i j vs parts = set parts i (sets (get_or parts i []) j vs)

in_row : (i k n : ℕ) → i < k → i * n + n ≤ k * n
in_row i k n h = rw (← suc-mul i n) (mul-le-mul_right n h)

module _ (g : Geometry) (block : List ℕ) where
  pub part_is : (i : ℕ) → i < 8 → part g block i ≡ take (size g i) (drop (start g i) block)
  unfolding sizes
  part_is i h = cut_part (sizes g) block i h

  pub part_long : (i : ℕ) → i < 8 → Blocked g block → length (part g block i) ≡ size g i
  unfolding sizes
  part_long i h b = part_size (sizes g) block i h (le_of_eq (sym b.long))

  -- number j of a part of k numbers, n bytes each
  pub number_of : (i n k j : ℕ) → i < 8 → size g i ≡ k * n → j < k → get_or (numbers n k (part g block i)) j 0 ≡ field (start g i + j * n) n block
  number_of i n k j h e l = ap (λ (p : List ℕ). get_or (numbers n k p) j 0) (part_is i h) ∙ number_in n k (start g i) block j e l

  pub stored : (i j : ℕ) (vs : List ℕ) → i < 8 → j + length vs ≤ size g i
      → cut (sizes g) (sets block (start g i + j) vs) ≡ written i j vs (cut (sizes g) block)
  unfolding sizes
  stored i j vs h l = cut_sets (sizes g) block i j vs h l

  -- a number put, if the block is long enough
  part_ends : (i : ℕ) → i < 8 → start g i + size g i ≤ sum (sizes g)
  unfolding sizes
  part_ends i h = parts_end (sizes g) i h

  pub put_stored : (i n k j v : ℕ) {place : ℕ} → i < 8 → size g i ≡ k * n → j < k → Blocked g block → place ≡ start g i + j * n
      → (cut (sizes g) (put_field place n v block) ≡ written i (j * n) (digits n v) (cut (sizes g) block))
      × (length (put_field place n v block) ≡ length block)
  put_stored i n k j v {place} h e l b at =
      let inside : j * n + n ≤ size g i = rw e (in_row j k n l) in
      let room : start g i + j * n + n ≤ length block = rw b.long (omega (arith, part_ends i h)) in
      let put : put_field place n v block ≡ sets block (start g i + j * n) (digits n v) =
      ap (λ (a : ℕ). put_field a n v block) at ∙ put_whole (start g i + j * n) n v block room in (
        ap (cut (sizes g)) put ∙ stored i (j * n) (digits n v) h (rw (digits_long n v) inside),
        ap length put ∙ length-sets block (start g i + j * n) (digits n v),
      )
