-- How many valid lines sets have in some ways.
use Rattle.std.specs.Prelude.{ℕ, ◌+◌, ◌&&◌, List, [], ◌∷◌}
use Rattle.waymap.specs.Bits.{Bits, bit, count}

-- Those of the sets with these valid maps. Of the sets of a cache it is `lines_in` added up (law `among_total` of `steps`).
unfoldable pub lines_among : Bits → List ℕ → ℕ
lines_among map [] = 0
lines_among map (v ∷ vs) = count 16 (λ w. map w && bit v w) + lines_among map vs
