-- `cache::account::after_change` meets its contract.
use Rattle.domains.specs.Calls.{changed_of}
use Rattle.cache.proofs.account.after_change.Goals as goal

pub returns : goal.returns
unfolding changed_of
returns c = rw (c.changed.ensures, c.requires)
