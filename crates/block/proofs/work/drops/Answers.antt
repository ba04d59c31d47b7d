-- `block::work::drops` meets its contract.
use Rattle.std.proofs.Common.{le_trans, le_of_eq}
use Rattle.steps.proofs.JudgeLaws.{judged_near}
use Rattle.block.proofs.SetLaws.{tables_in, tables_shaped}
use Rattle.block.proofs.work.drops.Goals as goal

pub returns : goal.returns
returns c =
    let a = c.args in
    let map = c.drop_ways-map.ensures in
    let shaped = tables_shaped a.g a.block.now c.requires in
    judged_near a.g.ways a.old a.policies a.d a.argument (tables_in a.g a.block.now).valid
    (le_trans (le_of_eq shaped.valid_long) c.requires.limited.most_sets) c.held_elsewhere-held.ensures
    (rw c.new_maps.ensures at map) c.lines_among.ensures
