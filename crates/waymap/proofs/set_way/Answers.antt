-- `waymap::set_way` meets its contract.
use Rattle.waymap.proofs.MapLaws.{put_in, put_out}
use Rattle.waymap.proofs.set_way.Goals as goal

pub returns-then-on : goal.returns-then-on
returns-then-on c =
    rw c.if-on.true (put_in c.args.way c.args.map c.ranges.map.fits c.only.ensures)

pub returns : goal.returns
returns c =
    rw c.if-on.false (put_out c.args.way c.args.map c.ranges.map.fits c.only-2.ensures)
