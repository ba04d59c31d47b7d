-- `verdict::policy_refusal` meets its contract.
use mathlib.Core.Path.{sym}
use Rattle.verdict.specs.Calls.{policy_refusal_of}
use Rattle.verdict.proofs.policy_refusal.Goals as goal

pub returns-then-not-in_limits : goal.returns-then-not-in_limits
unfolding policy_refusal_of
returns-then-not-in_limits c = rw (sym c.if-not-in_limits.ensures)

pub returns : goal.returns
unfolding policy_refusal_of
returns c = rw (sym c.if-not-in_limits.ensures) c.change_refusal.ensures
