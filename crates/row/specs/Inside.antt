-- What the crate's inner functions go by: they are called within the limits alone, with maps as read.
use Rattle.std.specs.Prelude.{◌≡◌, Bool, true, false, [], ℕ, ◌^◌, ◌<◌}
use Rattle.waymap.specs.Bits.{any, reaches}
use Rattle.replacement.specs.Rule.{Rule, rule_of}
use Rattle.replacement.specs.Calls.{in_limits}
use Rattle.row.specs.Row.{Row, Effect, ways, vacant, access_by}
use Rattle.row.specs.Calls.{row_of}
use Rattle.row.specs.declared.Lines.{Lines}
use Rattle.nru.specs.declared.Choice.{Choice}

-- A number of ways and a rule within the limits, and a map within the ways.
pub record Usable (W rule fill : ℕ) : Type 0 where
  pub limits : in_limits W rule ≡ true
  pub within : reaches W fill ≡ false
  pub small : fill < 2 ^ 16

-- A rule's victim, and the word before its touch.
pub record ChoiceOf (W rule fill x : ℕ) (r : Choice) : Type 0 where
  pub way_is : r.way ≡ (rule_of rule W).victim fill x
  pub way_lt : r.way < W
  pub word_is : r.word ≡ (rule_of rule W).before fill x

-- A row without its tags, and what a row has beside them.
abbrev pub untagged : Lines → Row
untagged l = row_of [] l

abbrev pub lines_of : Row → Lines
lines_of r = record { valid = r.valid; dirty = r.dirty; word = r.word }

-- A miss with ways to fill.
abbrev pub miss_at : Rule → ℕ → ℕ → Bool → Row → Effect
miss_at R fill tag store r = access_by false true (any (ways r) (vacant r fill)) R (record { hit = 0; fill = fill }) tag store r
