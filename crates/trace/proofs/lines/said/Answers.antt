-- `trace::lines::said` meets its contract.
use Rattle.listing.specs.Listing.{told}
use Rattle.trace.proofs.LineLaws.{byte_is}
use Rattle.trace.proofs.lines.said.Goals as goal

pub returns-in-Hit-clause-out_after : goal.returns-in-Hit-clause-out_after
unfolding told
returns-in-Hit-clause-out_after c = rw c.in-Hit.is c.told.ensures.out_after

pub returns-in-Fill-clause-out_after : goal.returns-in-Fill-clause-out_after
unfolding told
returns-in-Fill-clause-out_after c = rw c.in-Fill.is c.told-in-Fill.ensures.out_after

pub returns-in-Evict-clause-out_after : goal.returns-in-Evict-clause-out_after
unfolding told
returns-in-Evict-clause-out_after c = rw (c.in-Evict.is, ← (byte_is c.in-Evict.dirty)) c.told-in-Evict.ensures.out_after

pub returns-in-Pass-clause-out_after : goal.returns-in-Pass-clause-out_after
unfolding told
returns-in-Pass-clause-out_after c = rw c.in-Pass.is c.told-in-Pass.ensures.out_after

pub returns-in-Flush-clause-out_after : goal.returns-in-Flush-clause-out_after
unfolding told
returns-in-Flush-clause-out_after c = rw (c.in-Flush.is, ← (byte_is c.in-Flush.dirty)) c.told-in-Flush.ensures.out_after

pub returns-in-Absent-clause-out_after : goal.returns-in-Absent-clause-out_after
unfolding told
returns-in-Absent-clause-out_after c = rw c.in-Absent.is c.told-in-Absent.ensures.out_after

pub returns-in-Policy-clause-out_after : goal.returns-in-Policy-clause-out_after
unfolding told
returns-in-Policy-clause-out_after c = rw c.in-Policy.is c.told-in-Policy.ensures.out_after

pub returns-in-Refused-clause-out_after : goal.returns-in-Refused-clause-out_after
unfolding told
returns-in-Refused-clause-out_after c = rw c.in-Refused.is c.told-in-Refused.ensures.out_after
