-- `verdict::reasons::held_elsewhere` meets its contract. The invariant: the ways of the domains before are gathered.
use Rattle.verdict.proofs.RefusalLaws.{Holding}
use Rattle.verdict.proofs.reasons.held_elsewhere.Given as goal

abbrev pub invariant-loop-e : goal.invariant-loop-e
invariant-loop-e l = Holding l.ways l.policies l.d l.held l.e
