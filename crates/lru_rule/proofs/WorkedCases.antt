-- The reading of job 1, by computing: "zero is only read as fresh", and what touches make of it.
use mathlib.Core.Path.{◌≡◌, refl}
use Rattle.waymap.specs.Bits.{bit, any}
use Rattle.lru_rule.specs.Lru.{places, word_of, times, malformed, fresh, order, written, kept, joined, touched, touch}

fresh_words : (word_of (fresh 4) ≡ 0x0123) × (word_of (fresh 16) ≡ 0x0123456789abcdef)
unfolding word_of fresh
fresh_words = (refl, refl)

-- W = 4, map 15: way 3 is read as the most recent already, and way 2 is not
zero_words : (touch 4 (bit 15) 3 0 ≡ 0) × (touch 4 (bit 15) 2 0 ≡ 0x0132)
unfolding bit any places word_of times malformed fresh order written kept joined touched touch
zero_words = (refl, refl)
