-- Free nodes of Tree-PLRU, by halving the range of ways.
use Rattle.std.specs.Prelude.{Bool, false, ◌&&◌, ◌||◌, ℕ, zero, suc, ◌+◌, ◌*◌, ◌/◌, ◌%◌, ◌^◌, eqb}

-- Bit i of a number, 0 or 1.
unfoldable pub digit : ℕ → ℕ → ℕ
digit x i = x / 2 ^ i % 2

-- Whether a map holds one of the n ways from `low` on.
unfoldable pub some_in : ℕ → ℕ → ℕ → Bool
some_in map low zero = false
some_in map low (suc n) = eqb (digit map (low + n)) 1 || some_in map low n

-- "A node is free for a fill map if each of its halves holds a way of the map." Below `node` stand the `size` ways from `low` on, the lower half
-- of them to its left, under node 2i + 1, the others under 2i + 2: whether node i is it, or one of k levels in all, and free.
unfoldable pub free_from : ℕ → ℕ → ℕ → ℕ → ℕ → ℕ → Bool
free_from zero map node low size i = false
free_from (suc k) map node low size i =
    let half = size / 2 in
    (eqb node i && some_in map low half && some_in map (low + half) half)
    || (free_from k map (2 * node + 1) low half i || free_from k map (2 * node + 2) (low + half) half i)

-- Node 0 is the root, and sixteen ways have four levels of nodes. Of one way alone neither half holds any.
unfoldable pub is_free : ℕ → ℕ → ℕ → Bool
is_free W map i = free_from 4 map 0 0 W i
