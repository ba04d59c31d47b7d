-- `trace::lines::domains` meets its contract. The invariant: the domains to come make the whole.
use Rattle.domains.specs.Domains.{domain_of}
use Rattle.trace.proofs.LineLaws.{name_turned, name_end}
use Rattle.trace.proofs.lines.domains.Goals as goal

pub loop-d-preserved : goal.loop-d-preserved
unfolding domain_of
loop-d-preserved c =
    let part = c.part-next in
    name_turned c.loop-d.invariant c.loop-d-test.true part.ensures.out_after part.ensures.upper_bound

pub returns-clause-out_after : goal.returns-clause-out_after
returns-clause-out_after c = name_end c.loop-d.invariant c.loop-d-test.false
