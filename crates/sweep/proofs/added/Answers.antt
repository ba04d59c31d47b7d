-- `sweep::added` meets its contract.
use Rattle.sweep.specs.Drops.{added_to}
use Rattle.sweep.proofs.added.Goals as goal

pub returns : goal.returns
unfolding added_to
returns c = rw (← c.drops_of-more.ensures)
