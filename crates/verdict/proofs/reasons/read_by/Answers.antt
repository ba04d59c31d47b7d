-- `verdict::reasons::read_by` meets its contract.
use Rattle.domains.specs.Calls.{read_by}
use Rattle.verdict.proofs.reasons.read_by.Goals as goal

pub returns : goal.returns
unfolding read_by
returns c = c.as_read.ensures
