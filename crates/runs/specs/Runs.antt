-- Tables of little-endian numbers in bytes, and runs of them at a place.
use Rattle.std.specs.Prelude.{cond, List, map, ℕ, ◌-◌, ◌*◌, ◌<◌, leb, length, get_or, drop, replicate}
use Rattle.std.proofs.lemmas.List.Edits.{sets}
use Rattle.endian.specs.Bytes.{value, digits, cut, joined}

-- Each element is a byte.
abbrev pub Bytes : List ℕ → Type 0
Bytes xs = (i : ℕ) → get_or xs i 0 < 256

-- A table of k numbers, n bytes each; and its bytes.
unfoldable pub numbers : ℕ → ℕ → List ℕ → List ℕ
numbers n k bytes = map value (cut (replicate k n) bytes)

unfoldable pub bytes_of : ℕ → List ℕ → List ℕ
bytes_of n vs = joined (map (digits n) vs)

-- A run of numbers of n bytes each, from byte i on: as many as are asked for, read where so many are left, and else what was there; and the bytes with
-- a run put there, unchanged where it would reach past their end.
unfoldable pub read_run : ℕ → ℕ → List ℕ → List ℕ → List ℕ
read_run i n bytes xs = cond (leb (n * length xs) (length bytes - i)) (numbers n (length xs) (drop i bytes)) xs

unfoldable pub put_run : ℕ → ℕ → List ℕ → List ℕ → List ℕ
put_run i n xs bytes = cond (leb (n * length xs) (length bytes - i)) (sets bytes i (bytes_of n xs)) bytes
