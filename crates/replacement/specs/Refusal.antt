-- Why a call is refused, by document 01's numbers.
use Rattle.std.specs.Prelude.{ℕ}
use Rattle.replacement.specs.declared.Refusal.{Refusal}
use Rattle.replacement.specs.declared.Refusal.TheVariants.{OutsideLimits, OutOfReach, SharedNode}

-- Law `number_injective`: it tells any two refusals apart.
abbrev pub number_of : Refusal → ℕ
number_of OutsideLimits = 1
number_of OutOfReach = 5
number_of SharedNode = 9
