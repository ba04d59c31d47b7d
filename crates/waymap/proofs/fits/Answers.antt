-- `waymap::fits` meets its contract.
use mathlib.Core.Path.{sym, ap, ◌∙◌}
use mathlib.Core.Bool.{not}
use native.Mathlib.Nat.{lt_of_lt_of_le}
use lib.Pow.{pow_mono}
use borrow.Author.Tests.{le-leb}
use Rattle.waymap.proofs.MapLaws.{reach_below, shift_reach}
use Rattle.waymap.proofs.fits.Goals as goal

pub returns-then-ways-ge16 : goal.returns-then-ways-ge16
returns-then-ways-ge16 c =
    let a = c.args in
    let all = c.if-ways-ge16.true in
    le-leb 16 a.ways all ∙ sym (ap not (reach_below a.ways a.map (lt_of_lt_of_le c.ranges.map.fits (pow_mono all))))

pub returns-else-ways-ge16 : goal.returns-else-ways-ge16
returns-else-ways-ge16 c = shift_reach c.args.ways c.args.map c.ranges.map.fits
