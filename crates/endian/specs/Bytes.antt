-- Little-endian numbers in bytes. A byte is a number below 256.
use Rattle.std.specs.Prelude.{cond, List, [], ◌∷◌, ◌++◌, ℕ, zero, suc, ◌+◌, ◌*◌, ◌/◌, ◌%◌, leb, length, take, drop}
use Rattle.std.proofs.lemmas.List.Edits.{sets}

-- "little-endian": the value of some bytes.
unfoldable pub value : List ℕ → ℕ
value [] = 0
value (b ∷ bs) = b + 256 * value bs

-- The n bytes of a number; what they do not hold is cut off.
unfoldable pub digits : ℕ → ℕ → List ℕ
digits zero v = []
digits (suc n) v = v % 256 ∷ digits n (v / 256)

-- ---- a number at a place

-- The value of the n bytes from byte i on; of fewer where the bytes end before.
unfoldable pub field : ℕ → ℕ → List ℕ → ℕ
field i n bytes = value (take n (drop i bytes))

-- The bytes with a number of n bytes put at place i; unchanged where it would reach past their end.
unfoldable pub put_field : ℕ → ℕ → ℕ → List ℕ → List ℕ
put_field i n v bytes = cond (leb (i + n) (length bytes)) (sets bytes i (digits n v)) bytes

-- ---- parts side by side

-- Bytes cut into parts of given sizes, one after the other.
unfoldable pub cut : List ℕ → List ℕ → List (List ℕ)
cut [] bytes = []
cut (n ∷ ns) bytes = take n bytes ∷ cut ns (drop n bytes)

-- How many bytes parts of some sizes take in all.
abbrev pub sum : List ℕ → ℕ
sum [] = 0
sum (n ∷ ns) = n + sum ns

-- The parts one after the other.
unfoldable pub joined : List (List ℕ) → List ℕ
joined [] = []
joined (p ∷ ps) = p ++ joined ps
