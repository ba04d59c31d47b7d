-- The lent tables, and a set's row in them.
use Rattle.std.specs.Prelude.{List, ◌++◌, ℕ, zero, suc, ◌+◌, ◌*◌, length, get_or, take, drop, set}
use Rattle.row.specs.Row.{Row}
use Rattle.geometry.specs.Geometry.{Lengths}

-- "tags, S × W words of 64 bits, the W tags of a set side by side; valid and dirty, one 16-bit map per set each; replacement, one 64-bit
-- word per set."
pub record Tables : Type 0 where
  pub tags : List ℕ
  pub valid : List ℕ
  pub dirty : List ℕ
  pub words : List ℕ

abbrev pub lengths : Tables → Lengths
lengths t = record { tags = length t.tags; valid = length t.valid; dirty = length t.dirty; words = length t.words }

-- The row of set s, where a set has W ways.
unfoldable pub row_at : ℕ → ℕ → Tables → Row
row_at W s t = record {
  tags = take W (drop (s * W) t.tags);
  valid = get_or t.valid s 0;
  dirty = get_or t.dirty s 0;
  word = get_or t.words s 0;
}

-- The tables with another row for set s.
unfoldable pub put_row : ℕ → ℕ → Row → Tables → Tables
put_row W s r t = record {
  tags = take (s * W) t.tags ++ (r.tags ++ drop W (drop (s * W) t.tags));
  valid = set t.valid s r.valid;
  dirty = set t.dirty s r.dirty;
  words = set t.words s r.word;
}

-- The tables with another row for each of the first n sets, made of the row that was there.
unfoldable pub each_set : ℕ → ℕ → (Row → Row) → Tables → Tables
each_set W zero f t = t
each_set W (suc n) f t = put_row W n (f (row_at W n t)) (each_set W n f t)

-- A number for each of the first n sets, added up.
unfoldable pub total : ℕ → ℕ → (Row → ℕ) → Tables → ℕ
total W zero f t = 0
total W (suc n) f t = total W n f t + f (row_at W n t)
