-- What a change of policy does to one set.
use Rattle.std.specs.Prelude.{ℕ, suc, false, cond, not, ◌&&◌, List, [], ◌∷◌}
use Rattle.std.specs.Bool.{xor}
use Rattle.waymap.specs.Bits.{Bits, bit, word, count}
use Rattle.replacement.specs.Rule.{Rule}
use Rattle.policy.specs.declared.Maps.{Maps}
use Rattle.row.specs.Row.{Row, Effect, ways, lines_in}
use Rattle.command.specs.declared.Answer.TheVariants.{Policy}

-- "Ways in exactly one of the old and new hit maps".
unfoldable pub moved : Maps → Maps → Bits
moved old new w = xor (bit old.hit w) (bit new.hit w)

-- They "are cleaned in every set: invalid, not dirty, tag zero": a map without them, and the tags with theirs zero.
unfoldable pub without : Bits → ℕ → ℕ
without gone map = word 16 (λ w. cond (gone w) false (bit map w))

unfoldable pub wiped : Bits → List ℕ → List ℕ
wiped gone [] = []
wiped gone (t ∷ ts) = cond (gone 0) 0 t ∷ wiped (λ w. gone (suc w)) ts

-- The ways whose lines a change of policy drops, where `held` are the ways that other domains hold: those that it cleans, but for ways that it
-- would take from another domain, whose lines are no drops of the change (docs/DECISIONS.md, job 6). For a change that number 8 lets pass they
-- are all that it cleans.
unfoldable pub drop_ways : Maps → Maps → Bits → Bits
drop_ways old new held w = moved old new w && not (bit new.hit w && held w)

-- "the number of valid lines dropped and how many of them were dirty"
unfoldable pub dropped : Maps → Maps → Row → ℕ
dropped old new r = lines_in (moved old new) r

unfoldable pub dropped_dirty : Maps → Maps → Row → ℕ
dropped_dirty old new r = count (ways r) (λ w. moved old new w && bit r.valid w && bit r.dirty w)

-- The set after a change of policy; the rule says what becomes of the replacement bits.
unfoldable pub cleaned : Rule → Maps → Maps → Row → Row
cleaned R old new r = record {
  tags = wiped (moved old new) r.tags;
  valid = without (moved old new) r.valid;
  dirty = without (moved old new) r.dirty;
  word = R.reset old.fill new.fill r.word;
}

unfoldable pub clean : Rule → Maps → Maps → Row → Effect
clean R old new r = record { answer = Policy (dropped old new r) (dropped_dirty old new r); row = cleaned R old new r }
