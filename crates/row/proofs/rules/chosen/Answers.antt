-- `row::rules::chosen` meets its contract: within the limits a map that is not empty has a victim.
use mathlib.Core.Path.{sym, ◌∙◌}
use Rattle.row.proofs.RuleLaws.{victim_gives, chosen_is}
use Rattle.replacement.proofs.ReplyLaws.{ok_same}
use Rattle.row.proofs.rules.chosen.Goals as goal

pub unwrap-requires : goal.unwrap-requires
unwrap-requires c = rw (victim_gives c.args.word c.requires.usable c.requires.fill_value c.victim.ensures)

pub returns : goal.returns
returns c =
    let gives = victim_gives c.args.word c.requires.usable c.requires.fill_value c.victim.ensures in
    chosen_is c.args.word c.requires.usable c.requires.fill_value (ok_same (sym c.unwrap.ensures ∙ gives))
