-- `nru::touch` meets its contract.
use native.Mathlib.Nat.{lt_of_le_of_lt, lt_of_lt_of_le}
use lib.Dec.{lit≤}
use lib.Bits.{and_le_l}
use Rattle.nru.proofs.NruWordLaws.{touch_word}
use Rattle.nru.proofs.touch.Goals as goal

pub overflow_cast-result : goal.overflow_cast-result
overflow_cast-result c =
    record { fits = lt_of_le_of_lt (and_le_l c.args.map c.only.result) (lt_of_lt_of_le c.ranges.map.fits (lit≤ tt)) }

pub returns : goal.returns
returns c =
    touch_word c.args.map c.args.way c.args.word c.ranges.map.fits c.ranges.word.fits c.only.ensures
