-- The numbers that are there and those to come make the whole.
use Rattle.script.proofs.ScriptLaws.{Gathered}
use Rattle.script.proofs.numbers_of.Given as goal

abbrev pub invariant-loop-number : goal.invariant-loop-number
invariant-loop-number l = Gathered l.line l.number-items l.place l.number-index
