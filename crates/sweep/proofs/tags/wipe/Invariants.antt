-- `sweep::tags::wipe` meets its contract. The invariant: what is left of the map is still to be done.
use Rattle.sweep.proofs.TagLaws.{Wiping}
use Rattle.sweep.proofs.tags.wipe.Given as goal

abbrev pub invariant-loop-rest : goal.invariant-loop-rest
invariant-loop-rest l = Wiping l.map l.initial.tags l.tags l.rest

abbrev pub decreases-loop-rest : goal.decreases-loop-rest
decreases-loop-rest l = l.rest
