-- True LRU, for any number W of ways: document 02, job 1. A row of bits m is a fill map, x a replacement word, and an order a list of ways, the
-- most recent first.
use Rattle.std.specs.Prelude.{Bool, false, cond, not, ◌&&◌, ◌||◌, List, [], ◌∷◌, ◌++◌, ℕ, zero, suc, ◌+◌, ◌*◌, ◌/◌, ◌%◌, ◌^◌, eqb}
use Rattle.std.specs.Bool.{xor}
use Rattle.waymap.specs.Bits.{Bits, digit, any}

-- ---- Words and orders

-- The ways, the most recent first.
abbrev pub Order : Type 0
Order = List ℕ

-- "The replacement word holds ways in 4-bit places, place k from bit 4k up, place 0 the most recent": its first n places.
unfoldable pub places : ℕ → ℕ → Order
places zero x = []
places (suc n) x = x % 16 ∷ places n (x / 16)

-- The word that holds an order: "places W and above are zero".
unfoldable pub word_of : Order → ℕ
word_of [] = 0
word_of (w ∷ o) = w + 16 * word_of o

-- How often a way stands in an order.
unfoldable pub times : ℕ → Order → ℕ
times w [] = 0
times w (v ∷ o) = digit (eqb v w) + times w o

-- "a word that does not hold each way exactly once, or has a higher place not zero"
unfoldable pub malformed : ℕ → ℕ → Bool
malformed W x = any W (λ w. not (eqb (times w (places W x)) 1)) || not (eqb (x / 16 ^ W) 0)

-- "Fresh, place k holds way W − 1 − k"
unfoldable pub fresh : ℕ → Order
fresh zero = []
fresh (suc n) = n ∷ fresh n

-- The order that a word is read as: a malformed one "is read as fresh".
unfoldable pub order : ℕ → ℕ → Order
order W x = cond (malformed W x) (fresh W) (places W x)

-- "A step, or a call of the rules alone, after which the order is as read leaves the word untouched": the word x where an order is to be
-- written over it. Law `word_told`: orders of as many ways are the same where their words are.
unfoldable pub written : ℕ → ℕ → Order → ℕ
written W x o = cond (eqb (word_of o) (word_of (order W x))) x (word_of o)

-- ---- The rule

-- The ways of an order that pass a test, in their order.
unfoldable pub kept : Bits → Order → Order
kept p [] = []
kept p (w ∷ o) = cond (p w) (w ∷ kept p o) (kept p o)

-- The ways that pass a test as they stand in one order, then the others as they stand in another.
abbrev pub others : Bits → Bits
others p w = not (p w)

unfoldable pub joined : Bits → Order → Order → Order
joined p o q = kept p o ++ kept (others p) q

-- "Touching a way of the fill map brings it to place 0; touching another moves nothing."
unfoldable pub touched : Bits → ℕ → Order → Order
touched m w o = cond (m w) (joined (eqb w) o o) o

unfoldable pub touch : ℕ → Bits → ℕ → ℕ → ℕ
touch W m w x = written W x (touched m w (order W x))

-- "The victim is the fill map's way nearest the old end": the last of its ways, and 0 without one.
unfoldable pub last : ℕ → Order → ℕ
last v [] = v
last v (w ∷ o) = last w o

unfoldable pub victim : ℕ → Bits → ℕ → ℕ
victim W m x = last 0 (kept m (order W x))

-- "A policy change moves the ways in exactly one of the old and new fill maps to the old end, the lowest of them oldest, and leaves the rest in
-- their order." Of ways as they stand in the fresh order the lowest is the oldest.
unfoldable pub changes : Bits → Bits → Bits
changes old new w = xor (old w) (new w)

unfoldable pub aged : ℕ → Bits → Order → Order
aged W moves o = joined (others moves) o (fresh W)

unfoldable pub reset : ℕ → Bits → Bits → ℕ → ℕ
reset W old new x = written W x (aged W (changes old new) (order W x))

-- ---- A domain's own data

-- Whether way v stands before way w, as the more recent one.
unfoldable pub before : Order → ℕ → ℕ → Bool
before [] v w = false
before (u ∷ o) v w = not (eqb u w) && (eqb u v || before o v w)

-- "Here a domain's own replacement data is the relative order of its fill ways": as a word, its fill ways alone in their order.
unfoldable pub own : ℕ → Bits → ℕ → ℕ
own W m x = word_of (kept m (order W x))
