-- `stepper::put_rows` meets its contract: there is room for the rows to come.
use Rattle.std.proofs.Common.{◌≡◌, ◌+◌, ◌*◌, ◌≤◌, length}
use Rattle.stepper.proofs.put_rows.Given as goal

abbrev pub invariant-loop-set : goal.invariant-loop-set
invariant-loop-set l = (l.at ≤ 616 + 142 * l.set) × (length l.out ≡ length l.initial.out)
