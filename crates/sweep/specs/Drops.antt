-- Adding up the drops of one set after another, as the call `added` does it.
use Rattle.std.specs.Prelude.{◌+◌, ◌%◌, ◌^◌}
use Rattle.command.specs.declared.Answer.{Answer}
use Rattle.command.specs.declared.Answer.TheVariants.{Hit, Fill, Evict, Pass, Flush, Absent, Policy, Refused}
use Rattle.sweep.specs.declared.Drops.{Drops}

-- The drops that an answer tells of.
abbrev pub drops_in : Answer → Drops
drops_in (Policy n d) = record { dropped = n; dirty = d }
drops_in (Hit w) = record { dropped = 0; dirty = 0 }
drops_in (Fill w) = record { dropped = 0; dirty = 0 }
drops_in (Evict w tag dirty) = record { dropped = 0; dirty = 0 }
drops_in Pass = record { dropped = 0; dirty = 0 }
drops_in (Flush w dirty) = record { dropped = 0; dirty = 0 }
drops_in Absent = record { dropped = 0; dirty = 0 }
drops_in (Refused n) = record { dropped = 0; dirty = 0 }

-- The drops so far with those of one set more, in 64 bits.
unfoldable pub added_to : Drops → Answer → Drops
added_to d a = record { dropped = (d.dropped + (drops_in a).dropped) % 2 ^ 64; dirty = (d.dirty + (drops_in a).dirty) % 2 ^ 64 }
