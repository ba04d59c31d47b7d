-- `sweep::sweep_of` meets its contract.
use Rattle.sweep.proofs.SweepLaws.{sweep_is}
use Rattle.sweep.proofs.sweep_of.Goals as goal

pub returns : goal.returns
returns c =
    let a = c.args in
    sweep_is a.ways a.rule a.old a.new c.as_read-was.ensures c.as_read-next.ensures
    c.change_of.ensures
