-- `waymap::only` meets its contract.
use Rattle.waymap.proofs.MapLaws.{one_way, no_way}
use Rattle.waymap.proofs.only.Goals as goal

pub returns-then-way-ge16 : goal.returns-then-way-ge16
returns-then-way-ge16 c = no_way 16 c.args.way c.if-way-ge16.true

pub returns : goal.returns
returns c = one_way 16 c.args.way c.if-way-ge16.false
