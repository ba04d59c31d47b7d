-- Scripts as bytes in ASCII: lines, each a word and numbers with one space before each.
use Rattle.std.specs.Prelude.{cond, List, [], ◌∷◌, ℕ, zero, suc, ◌+◌, ◌-◌, ◌*◌, eqb, ltb, drop}

-- The place behind the first byte `stop` from a place on; the length where there is none, or where the place is the length or more.
unfoldable pub behind_first : ℕ → List ℕ → ℕ → ℕ
behind_first stop [] from = zero
behind_first stop (b ∷ bytes) zero = cond (eqb b stop) 1 (suc (behind_first stop bytes zero))
behind_first stop (b ∷ bytes) (suc from) = suc (behind_first stop bytes from)

-- Where the line begins that comes after a place: behind the first newline from there on.
unfoldable pub line_after : List ℕ → ℕ → ℕ
line_after bytes from = behind_first 10 bytes from

-- A number with a byte read. A digit becomes its last digit; a byte that is no digit leaves it, and so does a digit where not every digit has room in 64 bits.
unfoldable pub with_byte : ℕ → ℕ → ℕ
with_byte n b = cond (ltb b 48) n (cond (ltb 57 b) n (cond (ltb n 1844674407370955161) (10 * n + (b - 48)) n))

-- A number with the bytes read that stand before the first space.
unfoldable pub number_from : ℕ → List ℕ → ℕ
number_from n [] = n
number_from n (b ∷ bytes) = cond (eqb b 32) n (number_from (with_byte n b) bytes)

-- The number at a place: from zero, the bytes from there on.
unfoldable pub number_at : List ℕ → ℕ → ℕ
number_at line from = number_from 0 (drop from line)

-- As many numbers, the first at a place, and each other behind the next space. At the line's end the number is zero.
unfoldable pub numbers_from : ℕ → List ℕ → ℕ → List ℕ
numbers_from zero line from = []
numbers_from (suc k) line from = number_at line from ∷ numbers_from k line (behind_first 32 line from)

-- The five numbers of a line: the word's, which is zero where the word has no digit, and those behind the first four spaces.
unfoldable pub numbers_of : List ℕ → List ℕ
numbers_of line = numbers_from 5 line 0
