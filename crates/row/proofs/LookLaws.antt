-- The lookup alone.
use mathlib.Core.Path.{◌≡◌, ap, ap₂, ◌∙◌}
use mathlib.Core.Bool.{Bool, true, ◌&&◌}
use mathlib.Core.List.{List}
use Prim.Native.Nat.{ℕ, ◌<◌}
use native.Mathlib.Omega.{arith}
use lib.Dec.{eqb}
use lib.ListN.{length}
use Rattle.waymap.specs.Bits.{bit}
use Rattle.waymap.proofs.Booleans.{cases}
use Rattle.waymap.specs.Ways.{is_ways}
use Rattle.policy.specs.Policy.{as_read}
use Rattle.policy.specs.declared.Maps.{Maps}
use Rattle.lookup.specs.Lookup.{matches, SameFound}
use Rattle.lookup.specs.Lookup as Lookup
use Rattle.lookup.proofs.LookupLaws.{hit_below, miss_above, found_same, unread}
use Rattle.command.specs.declared.Answer.TheVariants.{Hit, Absent}
use Rattle.row.specs.Row.{Row, ways, is_hit, hit_way, visited}
use Rattle.row.specs.Calls.{row_of, lookup_of, visited_of}
use Rattle.row.specs.View.{SameMatch}
use Rattle.row.specs.declared.Lines.{Lines}
use Rattle.row.specs.Statements.{LookupUnread, LookupSame}

-- ---- what it answers

module _ (p : Maps) (tag : ℕ) (tags : List ℕ) (l : Lines) (is : is_ways (length tags) ≡ true) {read : Maps} (e : read ≡ as_read (length tags) p) where
  pub look_hit : {way : ℕ} → way ≡ hit_way (row_of tags l) read.hit tag → way < length tags → Hit way ≡ lookup_of p tag (row_of tags l)
  unfolding lookup_of
  look_hit f h = rw (is, ← e, hit_below tags l.valid read.hit tag (rw (← f) h), f)

  pub look_absent : length tags ≡ hit_way (row_of tags l) read.hit tag → Absent ≡ lookup_of p tag (row_of tags l)
  unfolding lookup_of
  look_absent f = rw (is, ← e, miss_above tags l.valid read.hit tag (omega arith))

  pub look_visited : {n : ℕ} → n ≡ visited (row_of tags l) read.hit tag → n ≡ visited_of p tag (row_of tags l)
  unfolding visited_of
  look_visited f = f ∙ rw (is, ← e)

-- ---- what it depends on

-- No other tag is compared: two rows that have the same valid bits and tags at the ways visited give the same answer and the same count, whatever
-- else they hold.
pub lookup_unread : LookupUnread
unfolding lookup_of visited_of Lookup.visited
lookup_unread p tag r q s =
    let f = unread _ _ _ _ _ _ s in
    (rw (s.as_long, f.same_hit, f.same_way), rw (s.as_long, f.same_visits))

-- Nor anything outside the hit map: of two rows that are as long and the same at each of its ways, a lookup says the same.
module _ (hit tag : ℕ) (r q : Row) (as_long : ways r ≡ ways q) (same : (w : ℕ) → bit hit w ≡ true → SameMatch r q w) where
  matches_same : (w : ℕ) → matches r.tags r.valid hit tag w ≡ matches q.tags q.valid hit tag w
  unfolding matches
  matches_same w =
      cases (bit hit w)
      (λ t. rw t (ap₂ (λ (b : Bool) (x : ℕ). b && eqb x tag) (same w t).valid (same w t).tag))
      (λ t. rw t)

  found : SameFound q.tags r.tags q.valid r.valid hit tag
  found = found_same q.tags r.tags q.valid r.valid hit tag as_long (λ w h k. matches_same w)

  pub hit_same : is_hit r hit tag ≡ is_hit q hit tag
  hit_same = found.same_hit

  pub way_same : hit_way r hit tag ≡ hit_way q hit tag
  way_same = found.same_way

  visited_same : visited r hit tag ≡ visited q hit tag
  unfolding Lookup.visited
  visited_same = ap length found.same_visits

pub lookup_same : LookupSame
unfolding lookup_of visited_of
lookup_same p tag r q e same =
    let hit = (as_read (ways r) p).hit in (
      rw (← e, hit_same hit tag r q e same, way_same hit tag r q e same),
      rw (← e, visited_same hit tag r q e same),
    )
