-- `waymap::has` meets its contract.
use mathlib.Core.Path.{sym, ◌∙◌}
use borrow.Author.Rules.{rules}
use borrow.Author.Tests.{le-ltb}
use Rattle.waymap.specs.Bits.{bit}
use Rattle.waymap.proofs.WordLaws.{bit_high}
use Rattle.waymap.proofs.has.Goals as goal

pub returns-then-way-lt16 : goal.returns-then-way-lt16
unfolding bit
returns-then-way-lt16 c = search rules

pub returns-else-way-lt16 : goal.returns-else-way-lt16
returns-else-way-lt16 c =
    let high = c.if-way-lt16.false in
    le-ltb c.args.way 16 high ∙ sym (bit_high 16 c.args.map c.args.way c.ranges.map.fits high)
