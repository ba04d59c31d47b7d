-- Reading a block and writing it undo each other.
use Rattle.std.proofs.Common.{◌≡◌, ℕ, zero, suc, ◌+◌, ◌-◌, ◌*◌, ◌<◌, ◌≤◌, List, [], ◌∷◌, ◌++◌, map, length, take, drop, replicate, sym, refl, ap, ◌∙◌, ap₂, suc-mul, arith, length-drop, length-take-le, take-add}
use lib.ListN.{length-map}
use Rattle.endian.specs.Bytes.{value, digits, field, cut, joined}
use Rattle.runs.specs.Runs.{numbers, bytes_of, Bytes}
use Rattle.endian.proofs.CutLaws.{join_cut, cut_long}
use Rattle.runs.proofs.TableLaws.{bytes_take, bytes_drop, digits_value, bytes_numbers, numbers_long}
use Rattle.geometry.specs.declared.Geometry.{Geometry}
use Rattle.domains.specs.Domains.{max_domains}
use Rattle.domains.specs.declared.Counts.{Counts}
use Rattle.domains.specs.declared.Domain.{Domain}
use Rattle.block.specs.Layout.{sizes, counts_from, counts_in, domains_from, state_in, head_of, counts_bytes, state_bytes}
use Rattle.block.specs.Inside.{Blocked, contents_in, contents}
use Rattle.block.specs.Statements.{BlockAgain, HeadAgain}
use Rattle.block.proofs.PartLaws.{part, size, start, part_is, part_long}

-- ---- what is read, written again

-- the maps and counts of records side by side
from_parts : (hs fs : List ℕ) (cs : List Counts) → length fs ≡ length hs → length cs ≡ length hs
    → (map (λ (x : Domain). x.hit) (domains_from hs fs cs) ≡ hs) × (map (λ (x : Domain). x.fill) (domains_from hs fs cs) ≡ fs)
    × (map (λ (x : Domain). counts_bytes x.counts) (domains_from hs fs cs) ≡ map counts_bytes cs)
unfolding domains_from
from_parts [] [] [] e f = (refl, refl, refl)
from_parts [] (y ∷ fs) cs e f = absurd (omega arith)
from_parts [] [] (z ∷ cs) e f = absurd (omega arith)
from_parts (x ∷ hs) [] cs e f = absurd (omega arith)
from_parts (x ∷ hs) (y ∷ fs) [] e f = absurd (omega arith)
from_parts (x ∷ hs) (y ∷ fs) (z ∷ cs) e f =
    let rest = from_parts hs fs cs (omega arith) (omega arith) in (
      ap (λ (l : List ℕ). x ∷ l) rest.0,
      ap (λ (l : List ℕ). y ∷ l) rest.1,
      ap (λ (l : List (List ℕ)). counts_bytes z ∷ l) rest.2,
    )

-- a record of counts
counts_again : (bytes : List ℕ) → length bytes ≡ 28 → Bytes bytes → counts_bytes (counts_in bytes) ≡ bytes
unfolding counts_bytes counts_in counts_from numbers cut
counts_again bytes e b = bytes_numbers 4 7 bytes e b

all_counts : (k : ℕ) (bytes : List ℕ) → length bytes ≡ k * 28 → Bytes bytes
    → map counts_bytes (map counts_in (cut (replicate k 28) bytes)) ≡ cut (replicate k 28) bytes
unfolding cut
all_counts zero bytes e b = refl
all_counts (suc k) bytes e b =
    let more : length bytes ≡ k * 28 + 28 = rw (suc-mul k 28) at e in
    ap₂ (λ (x : List ℕ) (xs : List (List ℕ)). x ∷ xs)
    (counts_again (take 28 bytes) (length-take-le 28 bytes (omega arith)) (bytes_take 28 bytes b))
    (all_counts k (drop 28 bytes) (length-drop 28 bytes ∙ omega arith) (bytes_drop 28 bytes b))

-- the eight parts one after the other
eight_parts : (g : Geometry) (block : List ℕ) → Blocked g block
    → joined (part g block 0 ∷ part g block 1 ∷ part g block 2 ∷ part g block 3
    ∷ part g block 4 ∷ part g block 5 ∷ part g block 6 ∷ part g block 7 ∷ []) ≡ block
unfolding sizes cut
eight_parts g block b = join_cut (sizes g) block b.long

module _ (g : Geometry) (block : List ℕ) (b : Blocked g block) (bytes : Bytes block) where
  part_bytes : (i : ℕ) → i < 8 → Bytes (part g block i)
  part_bytes i h = rw (part_is g block i h) (bytes_take (size g i) (drop (start g i) block) (bytes_drop (start g i) block bytes))

  table_again : (i n k : ℕ) → i < 8 → size g i ≡ k * n → bytes_of n (numbers n k (part g block i)) ≡ part g block i
  table_again i n k h e = bytes_numbers n k (part g block i) (part_long g block i h b ∙ e) (part_bytes i h)

  counts_are : joined (map counts_bytes (map counts_in (cut (replicate max_domains 28) (part g block 3)))) ≡ part g block 3
  unfolding sizes
  counts_are =
      let long : length (part g block 3) ≡ 448 = part_long g block 3 (omega arith) b in
      ap joined (all_counts 16 (part g block 3) long (part_bytes 3 (omega arith))) ∙ join_cut (replicate max_domains 28) (part g block 3) long

  -- all parts
  parts_again : state_bytes (contents g block).head (contents g block).state ≡ block
  unfolding state_bytes contents contents_in state_in sizes
  parts_again = (λ i. joined
      (part g block 0
      ∷ (ap (bytes_of 2) from.0 ∙ table_again 1 2 16 (omega arith) refl) i
      ∷ (ap (bytes_of 2) from.1 ∙ table_again 2 2 16 (omega arith) refl) i
      ∷ (ap joined from.2 ∙ counts_are) i
      ∷ table_again 4 2 g.sets (omega arith) refl i
      ∷ table_again 5 2 g.sets (omega arith) refl i
      ∷ table_again 6 8 g.sets (omega arith) refl i
      ∷ table_again 7 8 (g.sets * g.ways) (omega arith) refl i
      ∷ []))
      ∙ eight_parts g block b
    where
      hs : List ℕ
      hs = numbers 2 16 (part g block 1)

      fs : List ℕ
      fs = numbers 2 16 (part g block 2)

      cs : List Counts
      cs = map counts_in (cut (replicate max_domains 28) (part g block 3))

      from : (map (λ (x : Domain). x.hit) (domains_from hs fs cs) ≡ hs) × (map (λ (x : Domain). x.fill) (domains_from hs fs cs) ≡ fs)
          × (map (λ (x : Domain). counts_bytes x.counts) (domains_from hs fs cs) ≡ map counts_bytes cs)
      from =
          from_parts hs fs cs (numbers_long 2 16 (part g block 2) ∙ sym (numbers_long 2 16 (part g block 1)))
          (length-map (cut (replicate max_domains 28) (part g block 3)) counts_in ∙ cut_long (replicate max_domains 28) (part g block 3)
          ∙ sym (numbers_long 2 16 (part g block 1)))

pub block_again : BlockAgain
block_again = parts_again

-- ---- the head

-- The first eight bytes are those of the geometry that they name, if the last four are zero.
pub head_again : HeadAgain
unfolding head_of field
head_again block h b z =
    (λ i. field_again 0 2 (omega arith) i ++ field_again 2 1 (omega arith) i ++ field_again 3 1 (omega arith) i ++ zeros i)
    ∙ sym whole
  where
    field_again : (i n : ℕ) → i + n ≤ length block → digits n (value (take n (drop i block))) ≡ take n (drop i block)
    field_again i n l =
        digits_value n (take n (drop i block)) (length-take-le n (drop i block) (rw (length-drop i block) (omega arith)))
        (bytes_take n (drop i block) (bytes_drop i block b))

    zeros : digits 4 0 ≡ take 4 (drop 4 block)
    zeros = ap (digits 4) (sym z) ∙ field_again 4 4 (omega arith)

    whole : take 8 block ≡ take 2 block ++ take 1 (drop 2 block) ++ take 1 (drop 3 block) ++ take 4 (drop 4 block)
    whole =
        take-add 4 4 block
        ∙ ap (λ (xs : List ℕ). xs ++ take 4 (drop 4 block))
        (take-add 3 1 block ∙ ap (λ (xs : List ℕ). xs ++ take 1 (drop 3 block)) (take-add 2 1 block))
