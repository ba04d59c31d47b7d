-- What the crate's inner functions go by.
use Rattle.std.specs.Prelude.{cond, ℕ, suc, ◌+◌, ◌*◌, ◌/◌, ◌%◌, ◌^◌, eqb, [], ◌∷◌, Option, Some, None}
use Rattle.waymap.specs.Bits.{Bits}
use Rattle.lru_rule.specs.Lru.{Order, places, malformed, kept}
use Rattle.lru_rule.specs.Calls.{ahead}

-- How many ways stand before way w: its place.
unfoldable pub rank : ℕ → Order → ℕ
rank w [] = 0
rank w (v ∷ o) = cond (eqb v w) 0 (suc (rank w o))

-- A word with way w at place 0, the places below k moved up by one, and those above k as they were.
unfoldable pub lifted : ℕ → ℕ → ℕ → ℕ
lifted w k x = w + x % 16 ^ k * 16 + x / 16 ^ k / 16 * 16 * 16 ^ k

-- The ways of a word that pass a test, put before y; nothing of a malformed word.
unfoldable pub passed : Bits → ℕ → ℕ → ℕ → Option ℕ
passed m y W x = cond (malformed W x) None (Some (ahead (kept m (places W x)) y))
