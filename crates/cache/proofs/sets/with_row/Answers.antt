-- `cache::sets::with_row` meets its contract.
use mathlib.Core.Path.{refl}
use Rattle.cache.proofs.RowLaws.{row_back}
use Rattle.cache.proofs.sets.with_row.Goals as goal

pub returns : goal.returns
returns g c =
    let a = c.args in
    let span = c.span_of-span in
    row_back a.g.ways a.set span.result.start span.result.stop a.tags.now a.valid.now a.dirty.now a.words.now
    span.ensures.start_is span.ensures.stop_is _ _ c.work-done.result refl c.work-done.ensures
