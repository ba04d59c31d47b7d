-- `domains::policies_of` meets its contract. The invariant: the first ones are there.
use Rattle.domains.proofs.PolicyLaws.{Gathering}
use Rattle.domains.proofs.policies_of.Given as goal

abbrev pub invariant-loop-d : goal.invariant-loop-d
invariant-loop-d l = Gathering l.domains l.maps l.d
