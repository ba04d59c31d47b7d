-- `tracefile::command_at` meets its contract.
use mathlib.Core.Path.{◌∙◌}
use Rattle.tracefile.proofs.command_at.Goals as goal

pub returns : goal.returns
returns c = c.command_of.ensures ∙ rw (c.at-code.ensures, c.at-argument.ensures)
