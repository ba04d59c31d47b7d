-- `script::joined` meets its contract.
use native.Mathlib.Omega.{arith}
use Rattle.script.proofs.ScriptLaws.{no_digit_below, no_digit_above, digit_joined, no_room}
use Rattle.script.proofs.joined.Goals as goal

pub returns-in-48-to-57 : goal.returns-in-48-to-57
returns-in-48-to-57 c = digit_joined _ _ (omega arith) (omega arith) (omega arith) c.from.ensures

pub returns-in_default : goal.returns-in_default
returns-in_default c = no_digit_below _ _ (omega arith)

pub returns-in_default-2 : goal.returns-in_default-2
returns-in_default-2 c = no_room _ _ (omega arith) (omega arith) (omega arith)

pub returns-in_default-3 : goal.returns-in_default-3
returns-in_default-3 c = no_digit_above _ _ (omega arith)
