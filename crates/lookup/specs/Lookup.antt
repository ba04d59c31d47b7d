-- The hit lookup: document 01, "Steps", and document 02, job 2. It reads the tags of a set, whose number is the number of ways, its valid map and a
-- hit map, of which it takes the ways below that number: the map as read.
use Rattle.std.specs.Prelude.{◌≡◌, Bool, ◌&&◌, ℕ, eqb, leb, length, get_or}
use mathlib.Core.List.{List, Mem}
use Rattle.waymap.specs.Bits.{Bits, bit, any, lowest, members}

-- A way of the hit map "that is valid with an equal tag".
unfoldable pub matches : List ℕ → ℕ → ℕ → ℕ → Bits
matches tags valid hit tag w = bit hit w && bit valid w && eqb (get_or tags w 0) tag

-- "It hits the lowest way" of those, where there is one; where there is none the number of ways stands for it.
unfoldable pub is_hit : List ℕ → ℕ → ℕ → ℕ → Bool
is_hit tags valid hit tag = any (length tags) (matches tags valid hit tag)

unfoldable pub hit_way : List ℕ → ℕ → ℕ → ℕ → ℕ
hit_way tags valid hit tag = lowest (length tags) (matches tags valid hit tag)

-- The ways visited, in order: "the hit map's ways up to and including the one hit, or all of them without a hit". A way of the map is visited though it is
-- not valid.
unfoldable pub visits : List ℕ → ℕ → ℕ → ℕ → List ℕ
visits tags valid hit tag = members (length tags) (λ w. bit hit w && leb w (hit_way tags valid hit tag))

-- "how many ways it visited"
unfoldable pub visited : List ℕ → ℕ → ℕ → ℕ → ℕ
visited tags valid hit tag = length (visits tags valid hit tag)

-- Two sets that are alike in the ways visited: as many ways, and at each visited one the same valid bit and tag.
pub record SameVisited (ts us : List ℕ) (valid other hit tag : ℕ) : Type 0 where
  pub as_long : length us ≡ length ts
  pub same_valid : (w : ℕ) → Mem w (visits ts valid hit tag) → bit other w ≡ bit valid w
  pub same_tag : (w : ℕ) → Mem w (visits ts valid hit tag) → get_or us w 0 ≡ get_or ts w 0

-- Lookups that say the same: whether they hit, where, and which ways they visit. Law `unread`: they do in sets that are alike in the ways visited,
-- whatever the others hold; so no other tag is compared.
pub record SameFound (ts us : List ℕ) (valid other hit tag : ℕ) : Type 0 where
  pub same_hit : is_hit us other hit tag ≡ is_hit ts valid hit tag
  pub same_way : hit_way us other hit tag ≡ hit_way ts valid hit tag
  pub same_visits : visits us other hit tag ≡ visits ts valid hit tag
