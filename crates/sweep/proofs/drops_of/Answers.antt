-- `sweep::drops_of` meets its contract.
use Rattle.std.proofs.Common.{◌∙◌}
use Rattle.sweep.proofs.DropLaws.{no_drops}
use Rattle.sweep.proofs.drops_of.Goals as goal

pub returns-in_default : goal.returns-in_default
returns-in_default c = (λ i. record { dropped = c.default.ensures.0 i; dirty = c.default.ensures.1 i }) ∙ no_drops c.args.answer c.in_default.not-Policy
