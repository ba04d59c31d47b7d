-- `purge::meaning_of` meets its contract.
use mathlib.Core.Path.{ap, ◌∙◌}
use lib.Dec.{ltb}
use Rattle.command.specs.Command.{Command, command_of}
use Rattle.selectors.specs.Selectors.{max_cores, meant_by}
use Rattle.purge.proofs.meaning_of.Goals as goal

pub returns : goal.returns
unfolding command_of
returns c =
    c.meant.ensures
    ∙ ap (λ (s : Command). meant_by (ltb s.domain max_cores) c.args.core s) c.command_of-step.ensures
