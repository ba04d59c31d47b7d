-- `lru_rule::change` meets its contract.
use Rattle.lru_rule.proofs.CallLaws.{change_given}
use Rattle.lru_rule.proofs.change.Goals as goal

pub returns : goal.returns
returns c = change_given c.args.old c.args.new c.ranges.old.fits c.ranges.new.fits c.falling.ensures
