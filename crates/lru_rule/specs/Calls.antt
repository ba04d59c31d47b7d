-- What the calls give, for any number of ways, word, map and way: what the rule gives where W is 2, 4, 8 or 16 and the map has no way of W or
-- higher; else way 0, the word as it was, no part, 0.
use Rattle.std.specs.Prelude.{cond, [], ◌∷◌, ℕ, ◌+◌, ◌*◌, ◌%◌, ◌^◌, eqb}
use Rattle.waymap.specs.Bits.{bit, word}
use Rattle.waymap.specs.Ways.{is_ways, takes}
use Rattle.lru_rule.specs.Lru.{Order, order, word_of, kept, others, victim, touch, changes, own, fresh}
use Rattle.lru_rule.specs.declared.Moves.{Moves}

-- The victim of a word and a fill map.
unfoldable pub victim_of : ℕ → ℕ → ℕ → ℕ
victim_of W x map = cond (takes W map) (victim W (bit map) x) 0

-- The word after a touch of a way.
unfoldable pub touch_of : ℕ → ℕ → ℕ → ℕ → ℕ
touch_of W x map w = cond (takes W map) (touch W (bit map) w x) x

-- An order put before the places of a word: that word moves up by as many places, and what passes its 64 bits is lost.
unfoldable pub ahead : Order → ℕ → ℕ
ahead [] x = x
ahead (w ∷ o) x = (ahead o x * 16) % 2 ^ 64 + w

-- A change of fill map, from the maps alone: the ways that move to the old end, and the word that holds them as they then stand there.
unfoldable pub change_of : ℕ → ℕ → Moves
change_of old new = record { ways = word 16 (changes (bit old) (bit new)); tail = word_of (kept (changes (bit old) (bit new)) (fresh 16)) }

-- A word after ways have moved: those that stay in their order, put before the tail. Law `change_resets`: with what `change_of` gives it is the
-- rule's `reset`.
unfoldable pub reset_of : ℕ → ℕ → Moves → ℕ
reset_of W x m =
    let next = ahead (kept (others (bit m.ways)) (order W x)) m.tail in
    cond (takes W m.ways) (cond (eqb next (word_of (order W x))) x next) x

-- The own part of a word.
unfoldable pub own_of : ℕ → ℕ → ℕ → ℕ
own_of W x map = cond (takes W map) (own W (bit map) x) 0

-- The word of a fresh cache.
unfoldable pub fresh_of : ℕ → ℕ
fresh_of W = cond (is_ways W) (word_of (fresh W)) 0
