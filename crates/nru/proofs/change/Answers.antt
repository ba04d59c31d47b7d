-- `nru::change` meets its contract.
use native.Mathlib.Nat.{lt_of_lt_of_le}
use lib.Dec.{lit≤}
use lib.Bits.{xor_lt}
use Rattle.nru.proofs.NruWordLaws.{change_word}
use Rattle.nru.proofs.change.Goals as goal

pub overflow_cast-result : goal.overflow_cast-result
overflow_cast-result c = record { fits = lt_of_lt_of_le (xor_lt 16 c.args.old c.args.new c.ranges.old.fits c.ranges.new.fits) (lit≤ tt) }

pub returns : goal.returns
returns c = change_word c.args.old c.args.new c.ranges.old.fits c.ranges.new.fits
