-- `domains::policies_of` meets its contract.
use Rattle.domains.specs.Domains.{domain_of}
use Rattle.domains.proofs.PolicyLaws.{turned, end}
use Rattle.domains.proofs.policies_of.Goals as goal

pub loop-d-preserved : goal.loop-d-preserved
unfolding domain_of
loop-d-preserved c = rw c.maps.ensures (turned c.loop-d.invariant c.loop-d-test.true)

pub returns : goal.returns
returns c = end c.loop-d.invariant c.loop-d-test.false
