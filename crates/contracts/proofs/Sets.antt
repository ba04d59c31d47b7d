-- Contracts of steps and policies, one set, and the verdict: each asks nothing, and settles
-- what is said here for every input.
use Prim.Native.Nat.{◌%◌, ◌^◌, ◌<◌, ℕ}
use Rattle.command.proofs.Refusal.number.Reads as CommandRefusalNumber
use Rattle.command.proofs.code_of.Reads as CommandCodeOf
use Rattle.command.proofs.command_of.Reads as CommandCommandOf
use Rattle.command.proofs.kind_of.Reads as CommandKindOf
use Rattle.command.specs.Answer.{answer_of}
use Rattle.command.specs.Command.{code_of, command_is, command_of}
use Rattle.command.specs.Kind.{kind_is, kind_of}
use Rattle.contracts.proofs.Exactly.{exactly}
use Rattle.contracts.specs.Contract.{Held}
use Rattle.domains.proofs.Domain.maps.Reads as DomainMaps
use Rattle.domains.proofs.changed.Reads as DomainsChanged
use Rattle.domains.proofs.is_full.Reads as DomainsIsFull
use Rattle.domains.proofs.overflows.Reads as DomainsOverflows
use Rattle.domains.proofs.policies_of.Reads as DomainsPoliciesOf
use Rattle.domains.proofs.used.Reads as DomainsUsed
use Rattle.domains.specs.Calls.{changed_of, policies_of, read_by, used_of}
use Rattle.domains.specs.Domains.{is_full, maps_of, overflows}
use Rattle.geometry.proofs.named.Reads as GeometryNamed
use Rattle.geometry.proofs.place_of.Reads as GeometryPlaceOf
use Rattle.command.specs.Refusal.{number_in, number_of}
use Rattle.geometry.proofs.sizes.Reads as GeometrySizes
use Rattle.geometry.proofs.within.Reads as GeometryWithin
use Rattle.geometry.specs.Address.{place_of}
use Rattle.geometry.specs.Geometry.{sizes_of, within}
use Rattle.geometry.specs.Named.{geometry_of}
use Rattle.lookup.proofs.find.Reads as LookupFind
use Rattle.lookup.specs.Lookup.{hit_way, visited}
use Rattle.policy.proofs.as_read.Reads as PolicyAsRead
use Rattle.policy.proofs.bad_argument.Reads as PolicyBadArgument
use Rattle.policy.proofs.new_maps.Reads as PolicyNewMaps
use Rattle.policy.specs.Policy.{as_read, bad_argument, new_maps}
use Rattle.row.proofs.access.Reads as RowAccess
use Rattle.row.proofs.flush.Reads as RowFlush
use Rattle.row.proofs.lookup.Reads as RowLookup
use Rattle.row.proofs.use_line.Reads as RowUseLine
use Rattle.row.specs.Calls.{access_of, flush_of, lookup_of, effect_of, row_of, told, use_of, visited_of}
use Rattle.selectors.proofs.meant.Reads as SelectorsMeant
use Rattle.selectors.proofs.record_after.Reads as SelectorsRecordAfter
use Rattle.selectors.proofs.MeantLaws.{record_told}
use Rattle.selectors.specs.Calls.{meaning_is, record_left}
use Rattle.selectors.specs.declared.Core.{Core}
use Rattle.selectors.specs.declared.Meaning.{Meaning}
use Rattle.command.specs.declared.Refusal.{Refusal}
use Rattle.std.specs.Prelude.{Result}
use Rattle.std.specs.declared.clone.Clone as Clone
use denote.Param.Laws.{Laws, IsCopy}
use denote.RattleType.{RattleType}
use mathlib.Core.List.{List, [], Mem, not-mem-nil}
use mir.Syntax.{Dict}
use Rattle.selectors.specs.Selectors.{meant_by, record_by}
use Rattle.sweep.proofs.added.Reads as SweepAdded
use Rattle.sweep.proofs.drop_ways.Reads as SweepDropWays
use Rattle.sweep.proofs.lines_among.Reads as SweepLinesAmong
use Rattle.sweep.proofs.lines_in.Reads as SweepLinesIn
use Rattle.sweep.proofs.sweep_of.Reads as SweepSweepOf
use Rattle.sweep.proofs.swept.Reads as SweepSwept
use Rattle.sweep.specs.Clean.{drop_ways}
use Rattle.sweep.specs.Drops.{added_to}
use Rattle.sweep.specs.Number.{lines_among}
use Rattle.sweep.specs.Sweep.{sweep_by, sweep_of}
use Rattle.verdict.proofs.held_elsewhere.Reads as VerdictHeldElsewhere
use Rattle.verdict.proofs.line_refusal.Reads as VerdictLineRefusal
use Rattle.verdict.proofs.policy_refusal.Reads as VerdictPolicyRefusal
use Rattle.verdict.specs.Calls.{policy_refusal_of}
use Rattle.verdict.specs.Refusal.{held_elsewhere, use_refusal}
use Rattle.waymap.specs.Bits.{bit, count, word}
use Rattle.std.specs.Option.{IfSome, unwrap_or}
use lib.ListN.{length}
use mathlib.Core.Bool.{◌&&◌}
use mathlib.Core.Path.{◌≡◌, subst}

-- ---- `command`

command_code_of : Held CommandCodeOf.Asked CommandCodeOf.Learnt (λ κs a r e. let command = a.0 in r ≡ code_of (command_is command))
command_code_of = exactly

command_command_of : Held CommandCommandOf.Asked CommandCommandOf.Learnt
    (λ κs a r e. let code = a.0 in let argument = a.1.0 in command_is r ≡ command_of code argument)
command_command_of = exactly

command_kind_of : Held CommandKindOf.Asked CommandKindOf.Learnt (λ κs a r e. let kind = a.0 in kind_is r ≡ kind_of kind)
command_kind_of = exactly

command_refusal_number : Held CommandRefusalNumber.Asked CommandRefusalNumber.Learnt (λ κs a r e. let refusal = a.0 in r ≡ number_of refusal)
command_refusal_number = exactly

-- ---- `policy`

policy_as_read : Held PolicyAsRead.Asked PolicyAsRead.Learnt (λ κs a r e. let ways = a.0 in let maps = a.1.0 in r ≡ as_read ways maps)
policy_as_read = exactly

policy_new_maps : Held PolicyNewMaps.Asked PolicyNewMaps.Learnt (λ κs a r e. let argument = a.0 in r ≡ new_maps argument)
policy_new_maps = exactly

policy_bad_argument : Held PolicyBadArgument.Asked PolicyBadArgument.Learnt
    (λ κs a r e. let ways = a.0 in let argument = a.1.0 in r ≡ bad_argument ways argument)
policy_bad_argument = exactly

-- ---- `lookup`

lookup_find : Held LookupFind.Asked LookupFind.Learnt
    (λ κs a r e.
    let tags = a.0 in let valid = a.1.0 in let hit = a.1.1.0 in let tag = a.1.1.1.0 in
    (unwrap_or r.way (length tags.now) ≡ hit_way tags.now valid hit tag)
    × (IfSome r.way (λ way. way < length tags.now) × (r.visited ≡ visited tags.now valid hit tag)))
lookup_find = exactly

-- ---- `row`

row_lookup : Held RowLookup.Asked RowLookup.Learnt
    (λ κs a r e.
    let tags = a.0 in let lines = a.1.0 in let maps = a.1.1.0 in let tag = a.1.1.1.0 in
    (answer_of r.answer ≡ answer_of (lookup_of maps tag (row_of tags.now lines)))
    × (r.visited ≡ visited_of maps tag (row_of tags.now lines)))
row_lookup = exactly

row_access : Held RowAccess.Asked RowAccess.Learnt
    (λ κs a r e.
    let tags = a.0 in let tags' = e.0 in let lines = a.1.0 in let rule = a.1.1.0 in let maps = a.1.1.1.0 in
    let tag = a.1.1.1.1.0 in let store = a.1.1.1.1.1.0 in
    told (effect_of r tags'.now) ≡ told (access_of rule maps tag store (row_of tags.now lines)))
row_access = exactly

row_flush : Held RowFlush.Asked RowFlush.Learnt
    (λ κs a r e.
    let tags = a.0 in let lines = a.1.0 in let maps = a.1.1.0 in let tag = a.1.1.1.0 in
    told (effect_of r tags.now) ≡ told (flush_of maps tag (row_of tags.now lines)))
row_flush = exactly

row_use_line : Held RowUseLine.Asked RowUseLine.Learnt
    (λ κs a r e.
    let tags = a.0 in let tags' = e.0 in let lines = a.1.0 in let rule = a.1.1.0 in let maps = a.1.1.1.0 in
    let usage = a.1.1.1.1.0 in let tag = a.1.1.1.1.1.0 in
    told (effect_of r tags'.now) ≡ told (use_of usage rule maps tag (row_of tags.now lines)))
row_use_line = exactly

-- ---- `domains`

domains_policies_of : Held DomainsPoliciesOf.Asked DomainsPoliciesOf.Learnt (λ κs a r e. let domains = a.0 in r ≡ policies_of domains)
domains_policies_of = exactly

domain_maps : Held DomainMaps.Asked DomainMaps.Learnt (λ κs a r e. let self = a.0 in r ≡ maps_of self)
domain_maps = exactly

domains_is_full : Held DomainsIsFull.Asked DomainsIsFull.Learnt (λ κs a r e. let c = a.0 in r ≡ is_full c)
domains_is_full = exactly

domains_overflows : Held DomainsOverflows.Asked DomainsOverflows.Learnt
    (λ κs a r e. let argument = a.0 in let dropped = a.1.0 in let c = a.1.1.0 in r ≡ overflows argument dropped c)
domains_overflows = exactly

domains_used : Held DomainsUsed.Asked DomainsUsed.Learnt (λ κs a r e. let own = a.0 in let answer = a.1.0 in r ≡ used_of answer own)
domains_used = exactly

domains_changed : Held DomainsChanged.Asked DomainsChanged.Learnt
    (λ κs a r e. let own = a.0 in let argument = a.1.0 in let dropped = a.1.1.0 in r ≡ changed_of argument dropped own)
domains_changed = exactly

-- ---- `sweep`

sweep_sweep_of : Held SweepSweepOf.Asked SweepSweepOf.Learnt
    (λ κs a r e. let ways = a.0 in let rule = a.1.0 in let old = a.1.1.0 in let new = a.1.1.1.0 in r ≡ sweep_of ways rule old new)
sweep_sweep_of = exactly

sweep_drop_ways : Held SweepDropWays.Asked SweepDropWays.Learnt
    (λ κs a r e.
    let ways = a.0 in let old = a.1.0 in let new = a.1.1.0 in let held = a.1.1.1.0 in
    r ≡ word 16 (drop_ways (as_read ways old) (as_read ways new) (bit held)))
sweep_drop_ways = exactly

sweep_swept : Held SweepSwept.Asked SweepSwept.Learnt
    (λ κs a r e.
    let tags = a.0 in let tags' = e.0 in let lines = a.1.0 in let sweep = a.1.1.0 in
    told (effect_of r tags'.now) ≡ told (sweep_by sweep (row_of tags.now lines)))
sweep_swept = exactly

sweep_added : Held SweepAdded.Asked SweepAdded.Learnt (λ κs a r e. let drops = a.0 in let answer = a.1.0 in r ≡ added_to drops answer)
sweep_added = exactly

sweep_lines_in : Held SweepLinesIn.Asked SweepLinesIn.Learnt
    (λ κs a r e. let valid = a.0 in let map = a.1.0 in r ≡ count 16 (λ (w : ℕ). bit map w && bit valid w))
sweep_lines_in = exactly

sweep_lines_among : Held SweepLinesAmong.Asked SweepLinesAmong.Learnt
    (λ κs a r e. let valid = a.0 in let map = a.1.0 in r ≡ lines_among (bit map) valid.now % 2 ^ 64)
sweep_lines_among = exactly

-- ---- `geometry`

geometry_named : Held GeometryNamed.Asked GeometryNamed.Learnt (λ κs a r e. let bytes = a.0 in r ≡ geometry_of bytes.now)
geometry_named = exactly

geometry_within : Held GeometryWithin.Asked GeometryWithin.Learnt (λ κs a r e. let g = a.0 in r ≡ within g)
geometry_within = exactly

geometry_sizes : Held GeometrySizes.Asked GeometrySizes.Learnt
    (λ κs a r e.
    let g = a.0 in let tags = a.1.0 in let valid = a.1.1.0 in let dirty = a.1.1.1.0 in let words = a.1.1.1.1.0 in
    number_in r ≡ sizes_of g (record { tags = tags; valid = valid; dirty = dirty; words = words }))
geometry_sizes = exactly

geometry_place_of : Held GeometryPlaceOf.Asked GeometryPlaceOf.Learnt (λ κs a r e. let g = a.0 in let address = a.1.0 in r ≡ place_of g address)
geometry_place_of = exactly

-- ---- `verdict`

verdict_policy_refusal : Held VerdictPolicyRefusal.Asked VerdictPolicyRefusal.Learnt
    (λ κs a r e.
    let g = a.0 in let policies = a.1.0 in let counts = a.1.1.0 in let drops = a.1.1.1.0 in let domain = a.1.1.1.1.0 in
    let argument = a.1.1.1.1.1.0 in
    number_in r ≡ policy_refusal_of g policies counts drops domain argument)
verdict_policy_refusal = exactly

verdict_line_refusal : Held VerdictLineRefusal.Asked VerdictLineRefusal.Learnt
    (λ κs a r e. let ways = a.0 in let stored = a.1.0 in let counts = a.1.1.0 in number_in r ≡ use_refusal (as_read ways stored) counts)
verdict_line_refusal = exactly

verdict_held_elsewhere : Held VerdictHeldElsewhere.Asked VerdictHeldElsewhere.Learnt
    (λ κs a r e. let ways = a.0 in let policies = a.1.0 in let d = a.1.1.0 in r ≡ word 16 (held_elsewhere (read_by ways policies) d))
verdict_held_elsewhere = exactly

-- ---- `selectors`

selectors_meant : Held SelectorsMeant.Asked SelectorsMeant.Learnt
    (λ κs a r e.
    let listed = a.0 in let core = a.1.0 in let named = a.1.1.0 in let kind = a.1.1.1.0 in let argument = a.1.1.1.1.0 in
    meaning_is r ≡ meant_by listed core (record { domain = named; kind = kind; argument = argument }))
selectors_meant = exactly

-- of any type of refusals that borrows nothing, and of document 01's
lasts : {P : Type 0} (loans : List ℕ) → loans ≡ [] → (κ : ℕ) → Mem κ loans → P
lasts loans none κ m = absurd (not-mem-nil (subst (Mem κ) none m))

module _ (E : RattleType) (none : E.lives ≡ []) (laws : Laws E) (copy : IsCopy E) (its : Clone.Ghosts E.Denot) (dict : Dict) where
  selectors_record_after : Held (SelectorsRecordAfter.Asked E laws copy its dict) (SelectorsRecordAfter.Learnt E laws copy its dict)
      (λ κs a r e. let core = a.0 in let meaning = a.1.0 in r ≡ record_left meaning core)
  selectors_record_after = record { asks_nothing = λ κs a κ m. lasts E.lives none κ m; settles = λ κs a r e h. h }

records_told : (m : Result Meaning Refusal) (core : Core) → record_left m core ≡ record_by (meaning_is m) core
records_told = record_told
