-- `block::sets::sweep_set` meets its contract.
use Rattle.std.proofs.Common.{rules, ℕ, subst}
use Rattle.sweep.specs.Sweep.{sweep_by}
use Rattle.block.specs.Inside.{RowWorked}
use Rattle.block.proofs.WorkLaws.{row_room, set_worked, row_cut}
use Rattle.block.proofs.sets.sweep_set.Goals as goal

pub work_row-requires-clause-room : goal.work_row-requires-clause-room
work_row-requires-clause-room c =
    let at = c.places_of-at in
    rw (row_cut c.args.g.ways c.requires.blocked.limited.most_ways)
    (row_room c.args.g c.args.block.now c.requires.blocked c.args.set c.requires.set_lt_sets at.result at.ensures)

pub returns : goal.returns
returns c =
    let a = c.args in
    set_worked a.g a.block.now c.requires.blocked a.set c.requires.set_lt_sets c.places_of-at.result c.places_of-at.ensures
    (sweep_by a.sweep)
    (subst (λ (W : ℕ). RowWorked c.places_of-at.result (sweep_by a.sweep) W a.block.now c.work_row.result c.work_row.new.block)
    (row_cut a.g.ways c.requires.blocked.limited.most_ways) (c.work_row.ensures (sweep_by a.sweep) (record { does = λ tags left l d e. search rules })))
