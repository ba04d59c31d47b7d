-- A change of policy, worked out from the maps once and then done to any number of sets. Law `sweep_cleans`: on a set of W ways it is
-- `clean`.
use Rattle.std.specs.Prelude.{ℕ, ◌&&◌}
use Rattle.waymap.specs.Bits.{bit, word, count}
use Rattle.replacement.specs.Change.{change_of, change_by}
use Rattle.replacement.specs.declared.Change.{Change}
use Rattle.row.specs.Row.{Row, Effect, ways}
use Rattle.policy.specs.Policy.{as_read}
use Rattle.sweep.specs.Clean.{moved, without, wiped}
use Rattle.row.specs.Calls.{row_of}
use Rattle.policy.specs.declared.Maps.{Maps}
use Rattle.row.specs.declared.Lines.{Lines}
use Rattle.sweep.specs.declared.Sweep.{Sweep}
use Rattle.command.specs.declared.Answer.{Answer}
use Rattle.command.specs.declared.Answer.TheVariants.{Policy}

-- The ways that are cleaned, and the change of fill map.
unfoldable pub sweep_of : ℕ → ℕ → Maps → Maps → Sweep
sweep_of W rule old new = record {
  gone = word 16 (moved (as_read W old) (as_read W new));
  change = change_of W rule (as_read W old).fill (as_read W new).fill;
}

-- The valid lines in the ways that are cleaned, and how many of them are dirty.
unfoldable pub drops : ℕ → Lines → Answer
drops gone l =
    Policy (count 16 (λ w. bit gone w && bit l.valid w)) (count 16 (λ w. bit gone w && bit l.valid w && bit l.dirty w))

-- What a set has beside its tags afterwards.
unfoldable pub swept_lines : ℕ → Change → Lines → Lines
swept_lines gone change l = record {
  valid = without (bit gone) l.valid;
  dirty = without (bit gone) l.dirty;
  word = change_by change l.word;
}

-- What it does to a set, of any length: ways that the set does not have are left out.
unfoldable pub sweep_by : Sweep → Row → Effect
sweep_by s r =
    let gone = (as_read (ways r) (record { hit = s.gone; fill = 0 })).hit in
    let l : Lines = record { valid = r.valid; dirty = r.dirty; word = r.word } in
    record { answer = drops gone l; row = row_of (wiped (bit gone) r.tags) (swept_lines gone s.change l) }
