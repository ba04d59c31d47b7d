-- `sweep::number::lines_among` meets its contract. The invariant: what was added and what is left make the whole.
use Rattle.sweep.proofs.NumberLaws.{Adding}
use Rattle.sweep.proofs.number.lines_among.Given as goal

abbrev pub invariant-loop-held : goal.invariant-loop-held
invariant-loop-held l = Adding l.map l.valid l.lines l.held-index
