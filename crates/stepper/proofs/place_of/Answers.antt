-- `stepper::place_of` meets its contract.
use native.Mathlib.Nat.{mod-lt}
use Prim.Native.Nat.{◌/◌}
use Rattle.geometry.specs.Address.{set_of, place_of}
use Rattle.stepper.proofs.place_of.Goals as goal

pub returns : goal.returns
unfolding place_of set_of
returns c = rw c.place_of.ensures (mod-lt (c.args.address / 64) c.requires)
