-- `trace::lines::replied` meets its contract.
use Rattle.listing.specs.Listing.{told}
use Rattle.trace.proofs.lines.replied.Goals as goal

pub returns-in-Select-clause-out_after : goal.returns-in-Select-clause-out_after
unfolding told
returns-in-Select-clause-out_after c = rw c.in-Select.is c.told.ensures.out_after
