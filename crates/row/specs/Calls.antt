-- What the public calls give, for rows of any length and maps of any content: the number of ways is the row's length, and a length or a
-- rule outside the limits is refused by 1 with nothing changed.
use Rattle.std.specs.Prelude.{Bool, true, false, cond, List, ℕ}
use Rattle.replacement.specs.Rule.{rule_of}
use Rattle.waymap.specs.Ways.{is_ways}
use Rattle.replacement.specs.Calls.{in_limits}
use Rattle.row.specs.Row.{Row, Effect, ways, is_hit, hit_way, visited, access, flush}
use Rattle.policy.specs.Policy.{as_read}
use Rattle.policy.specs.declared.Maps.{Maps}
use Rattle.row.specs.declared.Lines.{Lines}
use Rattle.row.specs.declared.Done.{Done}
use Rattle.command.specs.Answer.{answer_of}
use Rattle.command.specs.declared.Answer.{Answer}
use Rattle.command.specs.declared.Answer.TheVariants.{Hit, Absent, Refused}
use Rattle.command.specs.declared.LineUse.{LineUse}
use Rattle.command.specs.declared.LineUse.TheVariants.{Load, Store, Flush}

-- A set's row from its lent tags and the rest by value.
abbrev pub row_of : List ℕ → Lines → Row
row_of tags l = record { tags = tags; valid = l.valid; dirty = l.dirty; word = l.word }

-- An effect with its answer as document 01 words it. Law `told_injective`: it tells any two effects apart.
pub record Told : Type 0 where
  pub answer : List ℕ
  pub row : Row

abbrev pub told : Effect → Told
told e = record { answer = answer_of e.answer; row = e.row }

-- What a call gives, as an effect on the row.
abbrev pub effect_of : Done → List ℕ → Effect
effect_of d tags = record { answer = d.answer; row = row_of tags d.lines }

abbrev pub refused : ℕ → Row → Effect
refused n r = record { answer = Refused n; row = r }

-- The lookup alone, of a hit map as read: the way that it hits, or absent; and how many ways it visited, none where it is refused.
unfoldable pub lookup_of : Maps → ℕ → Row → Answer
lookup_of p tag r =
    let hit = (as_read (ways r) p).hit in
    cond (is_ways (ways r)) (cond (is_hit r hit tag) (Hit (hit_way r hit tag)) Absent) (Refused 1)

unfoldable pub visited_of : Maps → ℕ → Row → ℕ
visited_of p tag r = cond (is_ways (ways r)) (visited r (as_read (ways r) p).hit tag) 0

unfoldable pub access_of : ℕ → Maps → ℕ → Bool → Row → Effect
access_of rule p tag store r =
    cond (in_limits (ways r) rule) (access (rule_of rule (ways r)) (as_read (ways r) p) tag store r) (refused 1 r)

unfoldable pub flush_of : Maps → ℕ → Row → Effect
flush_of p tag r = cond (is_ways (ways r)) (flush (as_read (ways r) p) tag r) (refused 1 r)

-- Whether a step flushes its line, and whether it stores.
abbrev pub flushes : LineUse → Bool
flushes Load = false
flushes Store = false
flushes Flush = true

abbrev pub stores : LineUse → Bool
stores Load = false
stores Store = true
stores Flush = false

-- What an access or a flush does to a row.
unfoldable pub use_of : LineUse → ℕ → Maps → ℕ → Row → Effect
use_of u rule p tag r = cond (flushes u) (flush_of p tag r) (access_of rule p tag (stores u) r)
