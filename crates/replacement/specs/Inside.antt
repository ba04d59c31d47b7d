-- What the crate's inner functions go by.
use Rattle.std.specs.Prelude.{cond, ℕ, zero, suc, Result, Ok, Err}
use Rattle.waymap.specs.Bits.{reaches}
use Rattle.replacement.specs.Calls.{in_limits}
use Rattle.replacement.specs.declared.Refusal.{Refusal}
use Rattle.replacement.specs.declared.Refusal.TheVariants.{OutsideLimits, OutOfReach}
use Rattle.replacement.specs.declared.Rule.{Rule}
use Rattle.replacement.specs.declared.Rule.TheVariants.{Tree, Nru, Lru}

-- The rule that a number within the limits names.
abbrev pub named : ℕ → Rule
named zero = Tree
named (suc zero) = Nru
named (suc (suc r)) = Lru

-- The rule, where it and the number of ways are within the limits.
unfoldable pub known : ℕ → ℕ → Result Rule Refusal
known W rule = cond (in_limits W rule) (Ok (named rule)) (Err OutsideLimits)

-- The rule, where no way of the map is W or higher either.
unfoldable pub admitted : ℕ → ℕ → ℕ → Result Rule Refusal
admitted W rule map = cond (in_limits W rule) (cond (reaches W map) (Err OutOfReach) (Ok (named rule))) (Err OutsideLimits)
