-- Lines and numbers of small scripts, by computing.
use mathlib.Core.Path.{◌≡◌, refl}
use mathlib.Core.List.{[], ◌∷◌}
use Rattle.script.specs.Script.{behind_first, line_after, with_byte, number_from, number_at, numbers_from, numbers_of}

-- "put 40 7" and its newline; "all"; "a", two spaces and "9"; "a1 2 3 4 5 6", whose last has no place; "/09:", the digits and the bytes beside them; the
-- largest number that a digit has room behind, and the next.
pub record Numbers : Type 0 where
  pub two : numbers_of (112 ∷ 117 ∷ 116 ∷ 32 ∷ 52 ∷ 48 ∷ 32 ∷ 55 ∷ 10 ∷ []) ≡ 0 ∷ 40 ∷ 7 ∷ 0 ∷ 0 ∷ []
  pub word : numbers_of (97 ∷ 108 ∷ 108 ∷ []) ≡ 0 ∷ 0 ∷ 0 ∷ 0 ∷ 0 ∷ []
  pub two_spaces : numbers_of (97 ∷ 32 ∷ 32 ∷ 57 ∷ []) ≡ 0 ∷ 0 ∷ 9 ∷ 0 ∷ 0 ∷ []
  pub six : numbers_of (97 ∷ 49 ∷ 32 ∷ 50 ∷ 32 ∷ 51 ∷ 32 ∷ 52 ∷ 32 ∷ 53 ∷ 32 ∷ 54 ∷ []) ≡ 1 ∷ 2 ∷ 3 ∷ 4 ∷ 5 ∷ []
  pub bounds : numbers_of (47 ∷ 48 ∷ 57 ∷ 58 ∷ []) ≡ 9 ∷ 0 ∷ 0 ∷ 0 ∷ 0 ∷ []
  pub room : with_byte 1844674407370955160 57 ≡ 18446744073709551609
  pub no_room : with_byte 1844674407370955161 48 ≡ 1844674407370955161

pub numbers : Numbers
unfolding behind_first with_byte number_from number_at numbers_from numbers_of
numbers = record { two = refl; word = refl; two_spaces = refl; six = refl; bounds = refl; room = refl; no_room = refl }

-- "a", a newline, "bc": from its first place, from the newline itself, from the second line, which has none, and from the length on.
pub record Lines : Type 0 where
  pub first : line_after (97 ∷ 10 ∷ 98 ∷ 99 ∷ []) 0 ≡ 2
  pub newline : line_after (97 ∷ 10 ∷ 98 ∷ 99 ∷ []) 1 ≡ 2
  pub last : line_after (97 ∷ 10 ∷ 98 ∷ 99 ∷ []) 2 ≡ 4
  pub at_length : line_after (97 ∷ 10 ∷ 98 ∷ 99 ∷ []) 4 ≡ 4
  pub past_length : line_after (97 ∷ 10 ∷ 98 ∷ 99 ∷ []) 9 ≡ 4

pub lines : Lines
unfolding behind_first line_after
lines = record { first = refl; newline = refl; last = refl; at_length = refl; past_length = refl }
