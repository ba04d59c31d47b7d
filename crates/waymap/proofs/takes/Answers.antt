-- `waymap::takes` meets its contract.
use mathlib.Core.Path.{sym, ◌∙◌}
use Rattle.waymap.specs.Ways.{takes}
use Rattle.waymap.proofs.takes.Goals as goal

pub returns-then-is_ways : goal.returns-then-is_ways
unfolding takes
returns-then-is_ways c = c.fits.ensures ∙ rw (sym c.is_ways.ensures ∙ c.if-is_ways.true)

pub returns-else-is_ways : goal.returns-else-is_ways
unfolding takes
returns-else-is_ways c = rw (sym c.is_ways.ensures ∙ c.if-is_ways.false) c.if-is_ways.false
