-- `row::work::bring` meets its contract.
use Rattle.row.proofs.WorkLaws.{bring_fill, bring_evict}
use Rattle.row.proofs.work.bring.Goals as goal

pub returns-then-way-ways : goal.returns-then-way-ways
returns-then-way-ways c =
    let a = c.args in
    bring_fill a.rule a.tag a.store a.tags.now a.lines a.fill c.requires.usable
    c.struct_known-1.given.0.fits
    c.encode-way.ensures c.if-way-ways.true c.filled.ensures

pub returns : goal.returns
returns c =
    let a = c.args in
    bring_evict a.rule a.tag a.store a.tags.now a.lines a.fill
    c.requires.usable
    c.struct_known-1.given.0.fits
    c.encode-way.ensures c.if-way-ways.false c.evict.ensures
