-- What the calls give.
use Rattle.std.specs.Prelude.{cond, ℕ}
use Rattle.replacement.specs.Calls.{in_limits}
use Rattle.verdict.specs.Refusal.{policy_refusal}
use Rattle.geometry.specs.declared.Geometry.{Geometry}
use Rattle.domains.specs.Calls.{read_by}
use Rattle.domains.specs.declared.Counts.{Counts}
use Rattle.domains.specs.declared.Policies.{Policies}

-- Of a change of policy alone: numbers 5, 7, 8 and 9, and 1 outside the limits of ways and rule.
unfoldable pub policy_refusal_of : Geometry → Policies → Counts → ℕ → ℕ → ℕ → ℕ
policy_refusal_of g p c drops d arg = cond (in_limits g.ways g.rule) (policy_refusal g (read_by g.ways p) c drops d arg) 1
