-- `block::sets::sweep_sets` meets its contract. The invariant: the sets before are swept, and nothing but the tables changed.
use Rattle.std.proofs.Common.{◌-◌}
use Rattle.block.proofs.WorkLaws.{Cleaning}
use Rattle.block.proofs.sets.sweep_sets.Given as goal

abbrev pub invariant-loop-set : goal.invariant-loop-set
invariant-loop-set l = Cleaning l.g l.sweep l.initial.block l.block l.drops.dropped l.drops.dirty l.set
