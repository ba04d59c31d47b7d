-- `row::rules::touched` meets its contract: within the limits no touch is refused.
use Rattle.row.proofs.RuleLaws.{touch_gives}
use Rattle.row.proofs.rules.touched.Goals as goal

pub unwrap-requires : goal.unwrap-requires
unwrap-requires c = rw (touch_gives c.args.word c.requires.usable c.requires.way_lt_ways c.touch.ensures)

pub returns : goal.returns
returns c = cc (touch_gives c.args.word c.requires.usable c.requires.way_lt_ways c.touch.ensures, c.unwrap.ensures)
