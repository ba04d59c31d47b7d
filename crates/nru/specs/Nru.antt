-- NRU, for any number W of ways: "bit w belongs to way w". A row of bits m is a fill map, and a row of bits b a replacement word.
use Rattle.std.specs.Prelude.{true, false, cond, ◌&&◌, ◌||◌, ℕ, eqb, ltb}
use Rattle.std.specs.Bool.{xor}
use Rattle.waymap.specs.Bits.{Bits, any}
use Rattle.waymap.specs.Encoder.{encode}

-- The word before the touch. Where no way of the fill map has a bit that is one, "all bits of the fill map become one".
unfoldable pub before : ℕ → Bits → Bits → Bits
before W m b w = cond (any W (λ v. m v && b v)) (b w) (m w || b w)

-- The victim, a "way of the fill map whose bit is one" in that word: "among NRU ways whose bit is one, and for the NRU default, the highest way now wins"
-- (document 02, job 8).
unfoldable pub victim : ℕ → Bits → Bits → ℕ
victim W m b = encode W (λ w. m w && before W m b w)

-- "Touching w clears its bit if w is in the fill map."
unfoldable pub touch : Bits → ℕ → Bits → Bits
touch m w b v = cond (m w && eqb w v) false (b v)

-- "NRU bits of ways in exactly one of the old and new fill maps become one."
unfoldable pub changes : Bits → Bits → Bits
changes old new w = xor (old w) (new w)

unfoldable pub reset : Bits → Bits → Bits → Bits
reset old new b w = cond (changes old new w) true (b w)

-- A domain's own replacement bits are "the NRU bits of its fill map": those bits of a word, and zero elsewhere.
unfoldable pub own : Bits → Bits → Bits
own m b w = m w && b w

-- "under NRU the low W bits of each replacement word are one"
unfoldable pub fresh : ℕ → Bits
fresh W w = ltb w W
