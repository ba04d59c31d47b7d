-- `cache::place::place_of` meets its contract.
use Rattle.cache.proofs.PlaceLaws.{place_is}
use Rattle.cache.proofs.place.place_of.Goals as goal

pub returns : goal.returns
returns c = place_is c.args.g c.args.address c.requires c.place_of.ensures
