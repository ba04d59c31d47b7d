-- `cache::sets::use_set` meets its contract.
use Rattle.std.proofs.Common.{rules}
use Rattle.row.specs.Calls.{use_of}
use Rattle.steps.specs.Step.{tables_of}
use Rattle.steps.specs.Deed.{work_at}
use Rattle.cache.proofs.RowLaws.{row_done}
use Rattle.cache.proofs.sets.use_set.Goals as goal

pub returns : goal.returns
unfolding work_at
returns c =
    let a = c.args in
    let p = c.place_of-found in
    let done = c.with_row in
    rw (← p.ensures.set_is, ← p.ensures.tag_is)
    (row_done {after = tables_of done.new.tags done.new.valid done.new.dirty done.new.words}
    (use_of a.usage a.g.rule a.maps p.result.tag) done.ensures (search (rules, done.ensures.met)))
