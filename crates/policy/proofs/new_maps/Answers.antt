-- `policy::new_maps` meets its contract.
use mathlib.Core.Path.{refl}
use Rattle.policy.specs.Policy.{new_maps}
use Rattle.policy.proofs.new_maps.Goals as goal

pub returns : goal.returns
unfolding new_maps
returns c = refl
