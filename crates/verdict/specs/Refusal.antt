-- Document 01, "When a step is turned down". A verdict reads the geometry, the tables' lengths, the step, the policies, the counts of the
-- domain that the step names and, as a number, the lines that a change of policy would drop; it sees no table, and no other domain's counts.
use Rattle.std.specs.Prelude.{Bool, cond, not, ◌&&◌, ℕ, eqb, leb}
use Rattle.waymap.specs.Bits.{Bits, bit, any}
use Rattle.replacement.specs.Rule.{Rule, rule_of}
use Rattle.command.specs.Kind.{Kind, access, flush, policy, unknown, kind_of}
use Rattle.policy.specs.Policy.{new_maps, bad_argument}
use Rattle.policy.specs.declared.Maps.{Maps}
use Rattle.geometry.specs.Geometry.{within, Lengths, sized}
use Rattle.domains.specs.Domains.{max_domains, is_full, overflows}
use Rattle.geometry.specs.declared.Geometry.{Geometry}
use Rattle.domains.specs.declared.Counts.{Counts}

-- The ways that are in another domain's hit map.
unfoldable pub held_elsewhere : (ℕ → Maps) → ℕ → Bits
held_elsewhere policies d w = any max_domains (λ e. not (eqb d e) && bit (policies e).hit w)

-- "8: policy whose hit map shares a way with another domain's."
unfoldable pub shares_way : (ℕ → Maps) → ℕ → Maps → Bool
shares_way policies d new = any 16 (λ w. bit new.hit w && held_elsewhere policies d w)

-- "9: policy under Tree-PLRU with a node free for it and for another domain."
unfoldable pub shares_node : Rule → (ℕ → Maps) → ℕ → Maps → Bool
shares_node R policies d new = any max_domains (λ e. not (eqb d e) && R.shares new.fill (policies e).fill)

-- "6: access or flush by a domain with an empty hit map. 7: access or flush while any count of that domain is 4,294,967,295."
unfoldable pub use_refusal : Maps → Counts → ℕ
use_refusal p c = cond (eqb p.hit 0) 6 (cond (is_full c) 7 0)

-- Numbers 8 and 9, which go by the policies alone.
unfoldable pub sharing_refusal : Geometry → (ℕ → Maps) → ℕ → ℕ → ℕ
sharing_refusal g policies d arg =
    cond (shares_way policies d (new_maps arg)) 8 (cond (shares_node (rule_of g.rule g.ways) policies d (new_maps arg)) 9 0)

-- 7: "also a policy change, other than a removal, whose drops would carry dropped past the largest count".
unfoldable pub policy_refusal : Geometry → (ℕ → Maps) → Counts → ℕ → ℕ → ℕ → ℕ
policy_refusal g policies c drops d arg =
    cond (bad_argument g.ways arg) 5 (cond (overflows arg drops c) 7 (sharing_refusal g policies d arg))

unfoldable pub refusal_by : Kind → Geometry → (ℕ → Maps) → Counts → ℕ → ℕ → ℕ → ℕ
refusal_by (access store) g policies c drops d arg = use_refusal (policies d) c
refusal_by flush g policies c drops d arg = use_refusal (policies d) c
refusal_by policy g policies c drops d arg = policy_refusal g policies c drops d arg
refusal_by unknown g policies c drops d arg = 4

-- The number of a step's refusal, 0 for a step that is not turned down. "If several hold, the lowest number is given."
unfoldable pub refusal : Geometry → Lengths → (ℕ → Maps) → Counts → ℕ → ℕ → ℕ → ℕ → ℕ
refusal g n policies c drops d kind arg =
    cond (not (within g)) 1 (cond (not (sized g n)) 2 (cond (leb max_domains d) 3 (refusal_by (kind_of kind) g policies c drops d arg)))
