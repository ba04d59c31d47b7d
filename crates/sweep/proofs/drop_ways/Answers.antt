-- `sweep::drop_ways` meets its contract.
use Rattle.policy.proofs.ReadLaws.{hit_small}
use Rattle.sweep.proofs.SweepLaws.{drop_ways_is}
use Rattle.sweep.proofs.drop_ways.Goals as goal

pub returns : goal.returns
returns c =
    let a = c.args in
    rw (c.as_read-was.ensures, c.as_read-next.ensures)
    (drop_ways_is _ _ a.held (hit_small a.ways a.old) (hit_small a.ways a.new))
