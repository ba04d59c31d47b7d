-- What is claimed of the hit lookup, as closed statements. The theorem of each has its name in small letters, stands in proofs/, and is of exactly that
-- type.
use Rattle.std.specs.Prelude.{◌≡◌, true, false, List, [], ◌∷◌, ◌++◌, ℕ, ◌≤◌, ◌<◌, length}
use Rattle.waymap.specs.Bits.{bit, members}
use Rattle.lookup.specs.Lookup.{is_hit, hit_way, visits, SameVisited, SameFound}

-- It hits where a way is given.
abbrev pub HitBelow : Type 0
HitBelow = (tags : List ℕ) (valid hit tag : ℕ) → hit_way tags valid hit tag < length tags → is_hit tags valid hit tag ≡ true

-- It misses where none is.
abbrev pub MissAbove : Type 0
MissAbove = (tags : List ℕ) (valid hit tag : ℕ) → length tags ≤ hit_way tags valid hit tag → is_hit tags valid hit tag ≡ false

-- With a hit the ways visited are the hit map's ways below the one hit, and then that one.
abbrev pub VisitsHit : Type 0
VisitsHit =
    (tags : List ℕ) (valid hit tag : ℕ) → is_hit tags valid hit tag ≡ true
    → visits tags valid hit tag ≡ members (hit_way tags valid hit tag) (bit hit) ++ (hit_way tags valid hit tag ∷ [])

-- Without one they are all the hit map's ways.
abbrev pub VisitsMiss : Type 0
VisitsMiss =
    (tags : List ℕ) (valid hit tag : ℕ) → is_hit tags valid hit tag ≡ false → visits tags valid hit tag ≡ members (length tags) (bit hit)

-- No other tag is compared: two rows of one length that have the same valid bit and the same tag at each way visited give the same answer, the same
-- visits and the same number, whatever else they hold.
abbrev pub Unread : Type 0
Unread = (ts us : List ℕ) (valid other hit tag : ℕ) → SameVisited ts us valid other hit tag → SameFound ts us valid other hit tag
