-- `cache::sets::sweep_sets` meets its contract. The invariant: the sets before are swept, and the sums are theirs.
use Rattle.steps.specs.Step.{tables_of}
use Rattle.steps.proofs.SweepLaws.{Sweeping}
use Rattle.cache.proofs.sets.sweep_sets.Given as goal

abbrev pub invariant-loop-set : goal.invariant-loop-set
invariant-loop-set l =
    Sweeping l.g l.sweep (tables_of l.initial.tags l.initial.valid l.initial.dirty l.initial.words) (tables_of l.tags l.valid l.dirty l.words) l.drops.dropped l.drops.dirty l.set
