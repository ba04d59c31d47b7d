-- `block::sets::use_set` meets its contract.
use Rattle.std.proofs.Common.{rules, ℕ, ap, ◌∙◌, subst}
use Rattle.geometry.specs.Address.{place_of}
use Rattle.geometry.specs.declared.Place.{Place}
use Rattle.geometry.proofs.AddressLaws.{set_below}
use Rattle.row.specs.Calls.{use_of}
use Rattle.steps.specs.Deed.{on_row, work_at}
use Rattle.block.specs.Inside.{contents, RowWorked, work_did}
use Rattle.block.proofs.WorkLaws.{row_room, set_worked, row_cut}
use Rattle.block.proofs.sets.use_set.Goals as goal

pub places_of-at-requires : goal.places_of-at-requires
unfolding place_of
places_of-at-requires c =
    record {
      limited = c.requires.limited;
      set_lt_sets = rw c.place_of-found.ensures (set_below c.args.g c.args.address c.requires.limited);
    }

pub work_row-requires-clause-room : goal.work_row-requires-clause-room
unfolding place_of
work_row-requires-clause-room c =
    let found = c.place_of-found in
    let at = c.places_of-at in
    rw (row_cut c.args.g.ways c.requires.limited.most_ways)
    (row_room c.args.g c.args.block.now c.requires found.result.set
    (rw found.ensures (set_below c.args.g c.args.address c.requires.limited)) at.result at.ensures)

pub returns : goal.returns
unfolding place_of work_at
returns c =
    let found = c.place_of-found in
    let a = c.args in
    let block = a.block.now in
    let does = c.work_row.ensures (use_of a.usage a.g.rule a.maps found.result.tag) (record { does = λ tags left l d e. search rules }) in
    let worked = subst (λ (W : ℕ). RowWorked c.places_of-at.result (use_of a.usage a.g.rule a.maps found.result.tag) W block
    c.work_row.result c.work_row.new.block) (row_cut a.g.ways c.requires.limited.most_ways) does in
    set_worked a.g block c.requires found.result.set (rw found.ensures (set_below a.g a.address c.requires.limited))
    c.places_of-at.result c.places_of-at.ensures (use_of a.usage a.g.rule a.maps found.result.tag) worked
    ∙ ap (λ (q : Place). work_did (on_row a.g.ways q.set (use_of a.usage a.g.rule a.maps q.tag) (contents a.g block).state.tables)
    (contents a.g block)) found.ensures
