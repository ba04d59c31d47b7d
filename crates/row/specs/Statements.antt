-- What is claimed of one set, as closed statements. The theorem of each has its name in small letters, stands in proofs/, and is of exactly that type.
-- They are of any rule that isolates, any policy as read, and any set of W ways.
use Rattle.std.specs.Prelude.{◌≡◌, Bool, true, false, ℕ, ◌+◌, ◌≤◌, ◌<◌, length}
use Rattle.waymap.specs.Bits.{bit}
use Rattle.replacement.specs.Rule.{Rule}
use Rattle.replacement.specs.Isolates.{Isolates}
use Rattle.policy.specs.Policy.{as_read, Cut}
use Rattle.policy.specs.declared.Maps.{Maps}
use Rattle.lookup.specs.Lookup.{SameVisited}
use Rattle.command.specs.declared.Answer.{Answer}
use Rattle.command.specs.declared.Answer.TheVariants.{Hit, Fill, Evict, Pass, Flush, Absent, Policy, Refused}
use Rattle.row.specs.Row.{Row, Effect, ways, lines_in, is_hit, hit_way, access, flush}
use Rattle.row.specs.View.{SameMatch, SameLine, SameRead}
use Rattle.row.specs.Calls.{told, lookup_of, visited_of}

-- ---- The lookup

-- No other tag is compared: two rows that have the same valid bits and tags at the ways visited give the same answer and the same count, whatever
-- else they hold.
abbrev pub LookupUnread : Type 0
LookupUnread =
    (p : Maps) (tag : ℕ) (r q : Row) → SameVisited r.tags q.tags r.valid q.valid (as_read (ways r) p).hit tag
    → (lookup_of p tag q ≡ lookup_of p tag r) × (visited_of p tag q ≡ visited_of p tag r)

-- Nor does anything outside the hit map matter.
abbrev pub LookupSame : Type 0
LookupSame =
    (p : Maps) (tag : ℕ) (r q : Row) → ways r ≡ ways q → ((w : ℕ) → bit (as_read (ways r) p).hit w ≡ true → SameMatch r q w)
    → (lookup_of p tag r ≡ lookup_of p tag q) × (visited_of p tag r ≡ visited_of p tag q)

-- What the contracts equate tells any two answers and rows apart, and so settles both whole.
abbrev pub ToldInjective : Type 0
ToldInjective = (e f : Effect) → told e ≡ told f → e ≡ f

-- ---- What an access leaves alone, and what it goes by

-- It changes no line outside the hit map.
abbrev pub AccessLeaves : Type 1
AccessLeaves =
    (W : ℕ) (R : Rule) → Isolates W R → W ≤ 16 → (p : Maps) → Cut W p → (tag : ℕ) (r : Row) → length r.tags ≡ W
    → (store : Bool) (v : ℕ) → v < W → bit p.hit v ≡ false → SameLine (access R p tag store r).row r v

-- Outside the fill map it changes no valid bit and no tag.
abbrev pub AccessKeeps : Type 1
AccessKeeps =
    (W : ℕ) (R : Rule) → Isolates W R → W ≤ 16 → (p : Maps) → Cut W p → (tag : ℕ) (r : Row) → length r.tags ≡ W
    → (store : Bool) (v : ℕ) → v < W → bit p.fill v ≡ false → SameMatch (access R p tag store r).row r v

-- It changes no replacement cell that the fill map does not write.
abbrev pub AccessStays : Type 1
AccessStays =
    (W : ℕ) (R : Rule) → Isolates W R → W ≤ 16 → (p : Maps) → Cut W p → (tag : ℕ) (r : Row) → length r.tags ≡ W
    → (store : Bool) (x : R.Cell) → R.writes p.fill x ≡ false → R.view (access R p tag store r).row.word x ≡ R.view r.word x

-- What it answers depends on the valid bits and tags in its hit map, the dirty marks in its fill map and its own replacement bits alone.
abbrev pub AccessAnswer : Type 1
AccessAnswer =
    (W : ℕ) (R : Rule) → Isolates W R → W ≤ 16 → (p : Maps) → Cut W p → (tag : ℕ) (r q : Row) → length r.tags ≡ W → length q.tags ≡ W
    → SameRead R p r q → (store : Bool) → (access R p tag store r).answer ≡ (access R p tag store q).answer

-- A line that is alike in two rows of which it reads the same is alike afterwards.
abbrev pub AccessAgrees : Type 1
AccessAgrees =
    (W : ℕ) (R : Rule) → Isolates W R → W ≤ 16 → (p : Maps) → Cut W p → (tag : ℕ) (r q : Row) → length r.tags ≡ W → length q.tags ≡ W
    → SameRead R p r q → (store : Bool) (v : ℕ) → v < W → SameLine r q v → SameLine (access R p tag store r).row (access R p tag store q).row v

-- So is a replacement cell.
abbrev pub AccessView : Type 1
AccessView =
    (W : ℕ) (R : Rule) → Isolates W R → W ≤ 16 → (p : Maps) → Cut W p → (tag : ℕ) (r q : Row) → length r.tags ≡ W → length q.tags ≡ W
    → SameRead R p r q → (store : Bool) (x : R.Cell) → R.view r.word x ≡ R.view q.word x
    → R.view (access R p tag store r).row.word x ≡ R.view (access R p tag store q).row.word x

-- ---- What a flush leaves alone, and what it goes by

-- It changes no line but the one that it hits.
abbrev pub FlushSpares : Type 1
FlushSpares =
    (W : ℕ) (R : Rule) → Isolates W R → W ≤ 16 → (p : Maps) → Cut W p → (tag : ℕ) (r : Row) → length r.tags ≡ W
    → (v : ℕ) → v < W → (is_hit r p.hit tag ≡ true → hit_way r p.hit tag ≡ v → ⊥) → SameLine (flush p tag r).row r v

-- And so none outside the hit map.
abbrev pub FlushLeaves : Type 1
FlushLeaves =
    (W : ℕ) (R : Rule) → Isolates W R → W ≤ 16 → (p : Maps) → Cut W p → (tag : ℕ) (r : Row) → length r.tags ≡ W
    → (v : ℕ) → v < W → bit p.hit v ≡ false → SameLine (flush p tag r).row r v

-- What it answers depends on what an access reads, and on the dirty mark of the line that it hits.
abbrev pub FlushAnswer : Type 1
FlushAnswer =
    (W : ℕ) (R : Rule) → Isolates W R → W ≤ 16 → (p : Maps) → Cut W p → (tag : ℕ) (r q : Row) → length r.tags ≡ W → length q.tags ≡ W
    → SameRead R p r q → (is_hit r p.hit tag ≡ true → bit r.dirty (hit_way r p.hit tag) ≡ bit q.dirty (hit_way r p.hit tag))
    → (flush p tag r).answer ≡ (flush p tag q).answer

-- A line that is alike in two such rows is alike afterwards.
abbrev pub FlushAgrees : Type 1
FlushAgrees =
    (W : ℕ) (R : Rule) → Isolates W R → W ≤ 16 → (p : Maps) → Cut W p → (tag : ℕ) (r q : Row) → length r.tags ≡ W → length q.tags ≡ W
    → SameRead R p r q → (v : ℕ) → v < W → SameLine r q v → SameLine (flush p tag r).row (flush p tag q).row v

-- ---- Lines in and lines out

-- The lines that an answer of an access or a flush brings into its set, and those that it takes out.
abbrev pub came : Answer → ℕ
came (Fill w) = 1
came (Evict w tag dirty) = 1
came (Hit w) = 0
came Pass = 0
came (Flush w dirty) = 0
came Absent = 0
came (Policy dropped dirty) = 0
came (Refused n) = 0

abbrev pub went : Answer → ℕ
went (Evict w tag dirty) = 1
went (Flush w dirty) = 1
went (Hit w) = 0
went (Fill w) = 0
went Pass = 0
went Absent = 0
went (Policy dropped dirty) = 0
went (Refused n) = 0

-- The lines in the hit map before an access and those that came are the lines after it and those that went.
abbrev pub AccessLines : Type 1
AccessLines =
    (W : ℕ) (R : Rule) → Isolates W R → W ≤ 16 → (p : Maps) → Cut W p → (tag : ℕ) (r : Row) → length r.tags ≡ W
    → (store : Bool) → lines_in (bit p.hit) r + came (access R p tag store r).answer
    ≡ lines_in (bit p.hit) (access R p tag store r).row + went (access R p tag store r).answer

-- The same of a flush.
abbrev pub FlushLines : Type 1
FlushLines =
    (W : ℕ) (R : Rule) → Isolates W R → W ≤ 16 → (p : Maps) → Cut W p → (tag : ℕ) (r : Row) → length r.tags ≡ W
    → lines_in (bit p.hit) r + came (flush p tag r).answer ≡ lines_in (bit p.hit) (flush p tag r).row + went (flush p tag r).answer
