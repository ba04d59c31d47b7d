-- `geometry::place_of` meets its contract.
use mathlib.Core.Path.{refl}
use Rattle.geometry.specs.Address.{set_of, tag_of, place_of}
use Rattle.geometry.proofs.AddressLaws.{no_sets}
use Rattle.geometry.proofs.place_of.Goals as goal

pub returns-then-sets-eq0 : goal.returns-then-sets-eq0
returns-then-sets-eq0 c = no_sets c.args.g c.args.address c.if-sets-eq0.true

pub returns : goal.returns
unfolding place_of set_of tag_of
returns c = refl
