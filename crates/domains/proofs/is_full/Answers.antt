-- `domains::is_full` meets its contract.
use Rattle.std.proofs.Common.{rules}
use Rattle.domains.specs.Domains.{is_full}
use Rattle.domains.proofs.is_full.Goals as goal

pub returns-then-c-eq-LARGEST-6 : goal.returns-then-c-eq-LARGEST-6
unfolding is_full
returns-then-c-eq-LARGEST-6 c = search rules

pub returns-else-c-eq-LARGEST-6 : goal.returns-else-c-eq-LARGEST-6
unfolding is_full
returns-else-c-eq-LARGEST-6 c = search rules
