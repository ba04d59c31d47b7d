-- What the calls give, for any word, map and way. No map has more than sixteen ways, so that the number of ways does not matter to them.
use Rattle.std.specs.Prelude.{true, cond, ℕ}
use Rattle.waymap.specs.Bits.{bit, word}
use Rattle.nru.specs.Nru.{before, victim, touch, changes, own, fresh}
use Rattle.nru.specs.declared.Choice.{Choice}

-- The victim, 16 of an empty map, and the word before its touch.
unfoldable pub victim_of : ℕ → ℕ → Choice
victim_of x map = record { way = victim 16 (bit map) (bit x); word = word 64 (before 16 (bit map) (bit x)) }

-- The word after a touch of a way.
unfoldable pub touch_of : ℕ → ℕ → ℕ → ℕ
touch_of x map w = word 64 (touch (bit map) w (bit x))

-- A change of fill map: the ways whose bits become one, and a word with the bits of some ways made one.
unfoldable pub change_of : ℕ → ℕ → ℕ
change_of old new = word 16 (changes (bit old) (bit new))

unfoldable pub reset_of : ℕ → ℕ → ℕ
reset_of x ways = word 64 (λ w. cond (bit ways w) true (bit x w))

-- The own part of a word.
unfoldable pub own_of : ℕ → ℕ → ℕ
own_of x map = word 64 (own (bit map) (bit x))

-- The word of a fresh cache.
unfoldable pub fresh_of : ℕ → ℕ
fresh_of W = word 16 (fresh W)
