-- What is claimed of a change of policy on one set, as closed statements. The theorem of each has its name in small letters, stands in proofs/, and is of
-- exactly that type.
use Rattle.std.specs.Prelude.{◌≡◌, ℕ, ◌+◌, ◌^◌, ◌<◌, ◌≤◌, true, false, length}
use Rattle.waymap.specs.Bits.{bit}
use Rattle.replacement.specs.Rule.{Rule, rule_of}
use Rattle.replacement.specs.Calls.{in_limits}
use Rattle.policy.specs.Policy.{as_read}
use Rattle.policy.specs.declared.Maps.{Maps}
use Rattle.command.specs.declared.Answer.{Answer}
use Rattle.row.specs.Row.{Row, ways, lines_in}
use Rattle.row.specs.View.{SameLine}
use Rattle.sweep.specs.Clean.{moved, dropped, cleaned, clean}
use Rattle.sweep.specs.Sweep.{sweep_of, sweep_by}
use Rattle.sweep.specs.Drops.{drops_in, added_to}
use Rattle.sweep.specs.declared.Drops.{Drops}

-- On a set of W ways `sweep_of` and `swept` together are what the rules say of the change, for the maps as read.
abbrev pub SweepCleans : Type 0
SweepCleans =
    (rule : ℕ) (old new : Maps) (r : Row) → in_limits (ways r) rule ≡ true
    → sweep_by (sweep_of (ways r) rule old new) r ≡ clean (rule_of rule (ways r)) (as_read (ways r) old) (as_read (ways r) new) r

-- Sums of drops that fit 64 bits are plain sums.
abbrev pub AddedFits : Type 0
AddedFits =
    (d : Drops) (a : Answer) → d.dropped + (drops_in a).dropped < 2 ^ 64 → d.dirty + (drops_in a).dirty < 2 ^ 64
    → added_to d a ≡ record { dropped = d.dropped + (drops_in a).dropped; dirty = d.dirty + (drops_in a).dirty }

-- A change of policy leaves the ways that do not move.
abbrev pub CleanLeaves : Type 1
CleanLeaves =
    (W : ℕ) (R : Rule) → W ≤ 16 → (old new : Maps) (r : Row) (v : ℕ) → v < W → moved old new v ≡ false → SameLine (cleaned R old new r) r v

-- It makes those that move the same whatever was in them.
abbrev pub CleanGone : Type 1
CleanGone =
    (W : ℕ) (R : Rule) → W ≤ 16 → (old new : Maps) (r q : Row) (v : ℕ) → v < W → moved old new v ≡ true
    → SameLine (cleaned R old new r) (cleaned R old new q) v

-- So a line that is alike in two rows is alike afterwards.
abbrev pub CleanAgrees : Type 1
CleanAgrees =
    (W : ℕ) (R : Rule) → W ≤ 16 → (old new : Maps) (r q : Row) (v : ℕ) → v < W → SameLine r q v
    → SameLine (cleaned R old new r) (cleaned R old new q) v

-- The lines dropped go by the lines in the ways that move.
abbrev pub DropsSame : Type 1
DropsSame =
    (W : ℕ) (R : Rule) → W ≤ 16 → (old new : Maps) (r q : Row) → length r.tags ≡ W → length q.tags ≡ W
    → ((v : ℕ) → v < W → moved old new v ≡ true → SameLine r q v) → dropped old new r ≡ dropped old new q

-- Where the ways that are gained have no line, the lines of the old hit map are those of the new one and those that were dropped.
abbrev pub CleanOwn : Type 1
CleanOwn =
    (W : ℕ) (R : Rule) → W ≤ 16 → (old new : Maps) (r : Row) → length r.tags ≡ W
    → ((w : ℕ) → w < W → bit old.hit w ≡ false → bit new.hit w ≡ true → bit r.valid w ≡ false)
    → lines_in (bit new.hit) (cleaned R old new r) + dropped old new r ≡ lines_in (bit old.hit) r
