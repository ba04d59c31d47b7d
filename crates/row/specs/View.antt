-- What can be seen of a set.
use Rattle.std.specs.Prelude.{◌≡◌, true, ℕ, get_or}
use Rattle.waymap.specs.Bits.{bit}
use Rattle.replacement.specs.Rule.{Rule}
use Rattle.replacement.specs.Isolates.{SameOwn}
use Rattle.row.specs.Row.{Row}
use Rattle.policy.specs.declared.Maps.{Maps}

-- Two rows have the same valid bit and tag at a way: what a lookup compares.
pub record SameMatch (r q : Row) (w : ℕ) : Type 0 where
  pub valid : bit r.valid w ≡ bit q.valid w
  pub tag : get_or r.tags w 0 ≡ get_or q.tags w 0

-- Two rows have the same "valid bit, dirty bit and tag" at a way.
pub record SameLine (r q : Row) (w : ℕ) : Type 0 where
  pub valid : bit r.valid w ≡ bit q.valid w
  pub dirty : bit r.dirty w ≡ bit q.dirty w
  pub tag : get_or r.tags w 0 ≡ get_or q.tags w 0

-- Two rows look the same to a domain with these maps: at each way of its hit map, and in its own replacement bits.
pub record SameView (R : Rule) (p : Maps) (r q : Row) : Type 0 where
  pub lines : (w : ℕ) → bit p.hit w ≡ true → SameLine r q w
  pub own : SameOwn R p.fill r.word q.word

-- What an access of a domain with these maps reads is the same in two rows: what its lookup compares, the dirty marks in the ways that it may evict, and
-- its own replacement bits.
pub record SameRead (R : Rule) (p : Maps) (r q : Row) : Type 0 where
  pub matches : (w : ℕ) → bit p.hit w ≡ true → SameMatch r q w
  pub marks : (w : ℕ) → bit p.fill w ≡ true → bit r.dirty w ≡ bit q.dirty w
  pub own : SameOwn R p.fill r.word q.word
