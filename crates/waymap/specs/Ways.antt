-- The number of ways, and maps of that many.
use Rattle.std.specs.Prelude.{◌≡◌, Bool, not, ◌&&◌, ℕ, suc, ◌^◌, ◌≤◌, eqb}
use Rattle.waymap.specs.Bits.{any, reaches}

-- "Ways W: 2, 4, 8 or 16."
unfoldable pub is_ways : ℕ → Bool
is_ways W = any 4 (λ k. eqb W (2 ^ suc k))

-- W is such a number, and the map has no way of W or higher.
unfoldable pub takes : ℕ → ℕ → Bool
takes W map = is_ways W && not (reaches W map)

-- What a number of ways is, for functions that are called with one alone.
pub record Sized (W : ℕ) : Type 0 where
  pub depth : ℕ
  pub power : W ≡ 2 ^ suc depth
  pub least : 2 ≤ W
  pub most : W ≤ 16
