-- `replacement::in_limits` meets its contract.
use mathlib.Core.Path.{sym, ◌∙◌}
use Rattle.replacement.specs.Calls.{in_limits}
use Rattle.replacement.proofs.in_limits.Goals as goal

pub returns-then-is_ways : goal.returns-then-is_ways
unfolding in_limits
returns-then-is_ways c = rw (sym c.is_ways.ensures ∙ c.if-is_ways.true)

pub returns-else-is_ways : goal.returns-else-is_ways
unfolding in_limits
returns-else-is_ways c = rw (sym c.is_ways.ensures ∙ c.if-is_ways.false) c.if-is_ways.false
