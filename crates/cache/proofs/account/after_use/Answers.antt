-- `cache::account::after_use` meets its contract.
use Rattle.domains.specs.Calls.{used_of}
use Rattle.cache.proofs.account.after_use.Goals as goal

pub returns : goal.returns
unfolding used_of
returns c = rw (c.used.ensures, c.requires)
