-- `verdict::reasons::change_refusal` meets its contract.
use mathlib.Core.Path.{sym}
use Rattle.verdict.specs.Refusal.{policy_refusal}
use Rattle.verdict.proofs.reasons.change_refusal.Goals as goal

pub returns-then-bad_argument : goal.returns-then-bad_argument
unfolding policy_refusal
returns-then-bad_argument c = rw (sym c.if-bad_argument.ensures)

pub returns-then-overflows : goal.returns-then-overflows
unfolding policy_refusal
returns-then-overflows c = rw (
  sym c.if-bad_argument.ensures,
  sym c.if-overflows.ensures,
)

pub returns : goal.returns
unfolding policy_refusal
returns c = rw (
  sym c.if-bad_argument.ensures,
  sym c.if-overflows.ensures,
) c.sharing_refusal.ensures
