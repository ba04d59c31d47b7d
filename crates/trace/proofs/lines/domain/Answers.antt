-- `trace::lines::domain` meets its contract.
use Rattle.listing.specs.Listing.{domain_line}
use Rattle.trace.proofs.lines.domain.Goals as goal

pub returns : goal.returns
unfolding domain_line
returns c =
    record { out_after = c.told.ensures.out_after; upper_bound = c.told.ensures.upper_bound }
