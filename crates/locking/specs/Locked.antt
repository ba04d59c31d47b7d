-- What a locked line is. Document 02, job 4: "A licensee locks a working set by leaving its ways in the hit map and out of the fill map."
use Rattle.std.specs.Prelude.{◌≡◌, Bool, true, false, not, ◌&&◌, ℕ, eqb, get_or}
use Rattle.waymap.specs.Bits.{Bits, bit, any}
use Rattle.replacement.specs.Rule.{Rule}
use Rattle.replacement.specs.Isolates.{SameOwn}
use Rattle.row.specs.Row.{Row}
use Rattle.row.specs.View.{SameMatch}
use Rattle.policy.specs.declared.Maps.{Maps}
use Rattle.domains.specs.Domains.{policies}
use Rattle.geometry.specs.Address.{line_of, set_of, tag_of}
use Rattle.geometry.specs.declared.Geometry.{Geometry}
use Rattle.steps.specs.Tables.{row_at}
use Rattle.steps.specs.Step.{State}

-- A line is locked for a domain while its way is in the domain's hit map, not in its fill map, and valid.
unfoldable pub locked : Maps → Row → Bits
locked p r w = bit p.hit w && not (bit p.fill w) && bit r.valid w

-- The line of an address is locked for domain d in way w: of the address's set, with the address's tag.
unfoldable pub locked_in : Geometry → ℕ → State → ℕ → Bits
locked_in g d s address w =
    let r = row_at g.ways (set_of g address) s.tables in
    locked (policies g.ways s.domains d) r w && eqb (get_or r.tags w 0) (tag_of g address)

-- It is locked in one of the ways.
unfoldable pub is_locked : Geometry → ℕ → State → ℕ → Bool
is_locked g d s address = any g.ways (locked_in g d s address)

-- Two addresses are of one line.
abbrev pub same_line : ℕ → ℕ → Bool
same_line a b = eqb (line_of a) (line_of b)

-- Two rows look the same to a domain with these maps but for the dirty marks of its locked lines: valid bit and tag at each way of its hit map, the
-- dirty mark where no line is locked, and its own replacement data.
pub record SameUnlocked (R : Rule) (p : Maps) (r q : Row) : Type 0 where
  pub matches : (w : ℕ) → bit p.hit w ≡ true → SameMatch r q w
  pub marks : (w : ℕ) → bit p.hit w ≡ true → locked p r w ≡ false → bit r.dirty w ≡ bit q.dirty w
  pub own : SameOwn R p.fill r.word q.word
