-- `nru::fresh` meets its contract.
use Rattle.nru.specs.Nru.{fresh}
use Rattle.nru.specs.Calls.{fresh_of}
use Rattle.nru.proofs.fresh.Goals as goal

pub returns : goal.returns
unfolding fresh_of fresh
returns c = c.all.ensures
