-- `policy::as_read` meets its contract.
use Rattle.policy.proofs.ReadLaws.{read_is}
use Rattle.policy.proofs.as_read.Goals as goal

pub returns : goal.returns
returns c =
    let m = c.args.maps in
    read_is c.args.ways m.hit m.fill c.struct_known-2-1.given.0.fits c.struct_known-2-1.given.1.0.fits
    c.all.ensures
