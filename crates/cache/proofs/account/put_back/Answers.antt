-- `cache::account::put_back` meets its contract.
use mathlib.Core.Path.{refl}
use Rattle.domains.specs.Domains.{put_domain}
use Rattle.cache.proofs.account.put_back.Goals as goal

pub returns : goal.returns
unfolding put_domain
returns c = refl
