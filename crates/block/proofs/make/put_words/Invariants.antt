-- `block::make::put_words` meets its contract. The invariant: what was put and what is left to put make the whole.
use Rattle.std.proofs.Common.{◌-◌, replicate}
use Rattle.runs.proofs.RunLaws.{Storing}
use Rattle.block.proofs.make.put_words.Given as goal

abbrev pub invariant-loop-set : goal.invariant-loop-set
invariant-loop-set l = Storing 8 l.initial.block l.at (replicate l.sets l.word) l.block l.set
