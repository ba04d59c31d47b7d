-- The bytes to come make the whole.
use Rattle.script.proofs.ScriptLaws.{Reading}
use Rattle.script.proofs.number_at.Given as goal

abbrev pub invariant-loop-byte : goal.invariant-loop-byte
invariant-loop-byte l = Reading l.byte-items 0 l.n l.byte-index
