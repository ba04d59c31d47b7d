-- For worked cases: `unfolding computing` opens every definition that a step computes with; and short names for steps.
use mathlib.Core.Bool.{xor}
use Prim.Native.Nat.{ℕ, ◌+◌, ◌*◌}
use Rattle.waymap.specs.Bits.{bit, word, any, lowest, count, members, put, reaches}
use Rattle.waymap.specs.Encoder.{encode}
use Rattle.waymap.specs.Ways.{is_ways}
use Rattle.tree.specs.Tree as Tree
use Rattle.nru.specs.Nru as Nru
use Rattle.lru_rule.specs.Lru as Lru
use Rattle.replacement.specs.Calls.{in_limits}
use Rattle.lookup.specs.Lookup as Lookup
use Rattle.row.specs.Row as Row
use Rattle.row.specs.Calls.{lookup_of, visited_of}
use Rattle.sweep.specs.Clean as Clean
use Rattle.policy.specs.Policy.{as_read, new_maps, bad_argument}
use Rattle.command.specs.Command.{Command}
use Rattle.command.specs.Kind.{kind_of}
use Rattle.domains.specs.Domains.{domain_of, policies, is_full, overflows, put_domain, counted, with_drops, new_domain}
use Rattle.verdict.specs.Refusal.{held_elsewhere, shares_way, shares_node, use_refusal, sharing_refusal, policy_refusal, refusal_by, refusal}
use Rattle.geometry.specs.Address.{set_of, tag_of}
use Rattle.geometry.specs.Geometry.{is_power, within, sized}
use Rattle.steps.specs.Tables.{row_at, put_row, each_set, total}
use Rattle.steps.specs.Step.{on_set, row_effect, use_line, dropped_by, change_policy, drops_of, step_by, decided, step}
use Rattle.steps.specs.Run.{answers_of, finally}
use Rattle.steps.specs.Fresh.{fresh_tables, fresh_domains, fresh}

unfoldable pub computing : Unit {0}
unfolding answers_of finally step decided step_by change_policy dropped_by drops_of use_line row_effect on_set fresh_tables fresh_domains fresh row_at put_row
    each_set total refusal refusal_by policy_refusal sharing_refusal use_refusal shares_node shares_way held_elsewhere new_domain with_drops counted overflows
    is_full policies put_domain domain_of kind_of as_read new_maps bad_argument set_of tag_of is_power within sized in_limits is_ways Lookup.matches Lookup.is_hit
    Lookup.hit_way Lookup.visits Lookup.visited lookup_of visited_of Row.lines_in Row.hit_at Row.filled Row.vacant Row.fill_at Row.evict_at Row.access_by
    Row.access Row.flush_at Row.flush Clean.moved Clean.without Clean.wiped Clean.drop_ways Clean.dropped Clean.dropped_dirty Clean.cleaned Tree.passes
    Tree.under Tree.holds Tree.free Tree.forced_right Tree.walk Tree.walked Tree.victim Tree.touch Tree.changes Tree.reset Tree.shares Nru.victim
    Nru.before Nru.touch Nru.changes Nru.reset Nru.fresh Lru.places Lru.word_of Lru.times Lru.malformed Lru.fresh Lru.order Lru.written Lru.kept
    Lru.joined Lru.touched Lru.touch Lru.last Lru.victim Lru.changes Lru.aged Lru.reset Lru.before Lru.own bit word any lowest encode count members
    put reaches xor
computing = tt

-- A step, and the argument of a policy with both maps m.
abbrev pub does : ℕ → ℕ → ℕ → Command
does d k a = record { domain = d; kind = k; argument = a }

abbrev pub both : ℕ → ℕ
both m = m + 65536 * m
