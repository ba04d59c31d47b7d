-- `block::sets::lines_among` meets its contract. The invariant: what was added and what is left make the whole.
use Rattle.std.proofs.Common.{◌-◌, drop}
use Rattle.runs.specs.Runs.{numbers}
use Rattle.sweep.proofs.NumberLaws.{Adding}
use Rattle.block.proofs.sets.lines_among.Given as goal

abbrev pub invariant-loop-set : goal.invariant-loop-set
invariant-loop-set l = Adding l.map (numbers 2 l.initial.set-end (drop 520 l.block)) l.lines l.set
