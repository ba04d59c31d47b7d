-- `row::work::evict` meets its contract.
use Rattle.row.proofs.WorkLaws.{evict_is}
use Rattle.row.proofs.work.evict.Goals as goal

pub returns : goal.returns
returns c =
    let a = c.args in
    evict_is a.rule a.tag a.store a.tags.now a.lines a.fill c.chosen-choice.result
    c.chosen-choice.ensures c.has-dirty.ensures c.filled.ensures
