-- `trace::lines::domains` meets its contract. The invariant: the domains to come make the whole.
use Rattle.trace.proofs.LineLaws.{Naming}
use Rattle.trace.proofs.lines.domains.Given as goal

abbrev pub invariant-loop-d : goal.invariant-loop-d
invariant-loop-d l = Naming l.ways l.domains l.initial.out l.at l.out l.next l.d
