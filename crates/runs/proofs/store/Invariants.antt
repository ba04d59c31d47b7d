-- What was put and what is left to put make the whole.
use Rattle.std.proofs.Common.{map}
use Rattle.runs.proofs.RunLaws.{Storing}
use Rattle.runs.proofs.store.Given as goal

abbrev pub invariant-loop-i : goal.invariant-loop-i
invariant-loop-i g l = Storing g.N.Number.WIDTH l.initial.bytes 0 (map g.N.Number.number l.numbers) l.bytes l.i
