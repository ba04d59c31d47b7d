-- The first numbers are there.
use Rattle.std.proofs.Common.{length, map}
use Rattle.runs.proofs.RunLaws.{Loading}
use Rattle.runs.proofs.load.Given as goal

abbrev pub invariant-loop-i : goal.invariant-loop-i
invariant-loop-i g l = Loading g.N.Number.WIDTH l.bytes (length l.initial.numbers) (map g.N.Number.number l.numbers) l.i
