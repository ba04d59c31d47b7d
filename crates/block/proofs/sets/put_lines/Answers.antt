-- `block::sets::put_lines` meets its contract.
use Rattle.std.proofs.Common.{◌∙◌}
use Rattle.block.proofs.sets.put_lines.Goals as goal

pub returns : goal.returns
returns c =
    let third = c.put-3 in
    let second = c.put-2 in
    let first = c.put in
    third.ensures ∙ rw (second.ensures, first.ensures)
