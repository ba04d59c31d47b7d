-- `block::records::policies` meets its contract. The invariant: the first ones are there.
use Rattle.std.proofs.Common.{◌+◌, ◌-◌, set, refl, ap, subst}
use Rattle.policy.specs.declared.Maps.{Maps}
use Rattle.domains.specs.Domains.{maps_of}
use Rattle.domains.proofs.PolicyLaws.{Gathering, begin, turned, end}
use Rattle.block.proofs.DomainLaws.{domains_in, domain_read}
use Rattle.block.proofs.records.policies.Goals as goal

pub loop-d-init : goal.loop-d-init
loop-d-init c = λ g. begin _ _ refl

pub loop-d-preserved : goal.loop-d-preserved
loop-d-preserved c = λ g.
    let loop = c.loop-d in
    let block = c.args.block.now in
    let read = ap maps_of (domain_read g block loop.d c.loop-d-test.true) in
    let found = rw (← c.at.ensures, ← c.at-in-loop-d.ensures) at read in
    subst (λ (m : Maps). Gathering (domains_in g block) (set loop.own-items loop.d m) (loop.d + 1)) found
    (turned (loop.invariant g) c.loop-d-test.true)

pub returns : goal.returns
returns c = end (c.loop-d.invariant c.args.g) c.loop-d-test.false
