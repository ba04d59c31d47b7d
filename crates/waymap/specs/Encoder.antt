-- The block's priority encoder: of several ways that would do, the one that is taken. A fill takes an invalid way by it, and NRU its victim. The hit
-- lookup does not go by it.
use Rattle.std.specs.Prelude.{cond, ℕ, zero, suc}
use Rattle.waymap.specs.Bits.{Bits}

-- The way that the priority encoder gives of the ways below n that pass the test: "the highest way now wins" (document 02, job 8). Where none passes it
-- is 16, which is no way of a map.
unfoldable pub encode : ℕ → Bits → ℕ
encode zero p = 16
encode (suc n) p = cond (p n) n (encode n p)
