-- Contracts of the maps, the replacement rules, and the rules called alone: each asks nothing, and settles
-- what is said here for every input.
use Prim.Native.Nat.{ℕ}
use Rattle.contracts.proofs.Exactly.{exactly}
use Rattle.contracts.specs.Contract.{Held}
use Rattle.lru_rule.proofs.change.Reads as LruChange
use Rattle.lru_rule.proofs.fresh.Reads as LruFresh
use Rattle.lru_rule.proofs.own.Reads as LruOwn
use Rattle.lru_rule.proofs.reset.Reads as LruReset
use Rattle.lru_rule.proofs.touch.Reads as LruTouch
use Rattle.lru_rule.proofs.victim.Reads as LruVictim
use Rattle.lru_rule.specs.Calls as Lru
use Rattle.nru.proofs.change.Reads as NruChange
use Rattle.nru.proofs.fresh.Reads as NruFresh
use Rattle.nru.proofs.own.Reads as NruOwn
use Rattle.nru.proofs.reset.Reads as NruReset
use Rattle.nru.proofs.touch.Reads as NruTouch
use Rattle.nru.proofs.victim.Reads as NruVictim
use Rattle.nru.specs.Calls as Nru
use Rattle.replacement.proofs.Refusal.number.Reads as ReplacementNumber
use Rattle.replacement.proofs.change_of.Reads as ReplacementChangeOf
use Rattle.replacement.proofs.changed.Reads as ReplacementChanged
use Rattle.replacement.proofs.conflict.Reads as ReplacementConflict
use Rattle.replacement.proofs.fresh.Reads as ReplacementFresh
use Rattle.replacement.proofs.in_limits.Reads as ReplacementInLimits
use Rattle.replacement.proofs.own.Reads as ReplacementOwn
use Rattle.replacement.proofs.touch.Reads as ReplacementTouch
use Rattle.replacement.proofs.victim.Reads as ReplacementVictim
use Rattle.replacement.specs.Calls as Replacement
use Rattle.replacement.specs.Calls.{in_limits}
use Rattle.replacement.specs.Answer.{answer_of, outcome_of, choice_of}
use Rattle.replacement.specs.Refusal.{number_of}
use Rattle.replacement.specs.Change as ReplacementChange
use Rattle.replacement.specs.Change.{change_by}
use Rattle.tree.proofs.change.Reads as TreeChange
use Rattle.tree.proofs.own.Reads as TreeOwn
use Rattle.tree.proofs.reset.Reads as TreeReset
use Rattle.tree.proofs.shares.Reads as TreeShares
use Rattle.tree.proofs.touch.Reads as TreeTouch
use Rattle.tree.proofs.victim.Reads as TreeVictim
use Rattle.tree.specs.Calls as Tree
use Rattle.waymap.proofs.all.Reads as WaymapAll
use Rattle.waymap.proofs.count_ways.Reads as WaymapCountWays
use Rattle.waymap.proofs.encode.Reads as WaymapEncode
use Rattle.waymap.proofs.fits.Reads as WaymapFits
use Rattle.waymap.proofs.has.Reads as WaymapHas
use Rattle.waymap.proofs.is_ways.Reads as WaymapIsWays
use Rattle.waymap.proofs.lowest_way.Reads as WaymapLowestWay
use Rattle.waymap.proofs.only.Reads as WaymapOnly
use Rattle.waymap.proofs.set_way.Reads as WaymapSetWay
use Rattle.waymap.proofs.takes.Reads as WaymapTakes
use Rattle.waymap.specs.Bits.{bit, count, lowest, put, reaches, word}
use Rattle.waymap.specs.Encoder.{encode}
use Rattle.waymap.specs.Ways.{is_ways, takes}
use lib.Dec.{eqb, ltb}
use mathlib.Core.Bool.{not}
use mathlib.Core.Path.{◌≡◌}

-- ---- `waymap`

waymap_has : Held WaymapHas.Asked WaymapHas.Learnt (λ κs a r e. let map = a.0 in let way = a.1.0 in r ≡ bit map way)
waymap_has = exactly

waymap_only : Held WaymapOnly.Asked WaymapOnly.Learnt (λ κs a r e. let way = a.0 in r ≡ word 16 (λ (w : ℕ). eqb way w))
waymap_only = exactly

waymap_all : Held WaymapAll.Asked WaymapAll.Learnt (λ κs a r e. let ways = a.0 in r ≡ word 16 (λ (w : ℕ). ltb w ways))
waymap_all = exactly

waymap_fits : Held WaymapFits.Asked WaymapFits.Learnt (λ κs a r e. let map = a.0 in let ways = a.1.0 in r ≡ not (reaches ways map))
waymap_fits = exactly

waymap_is_ways : Held WaymapIsWays.Asked WaymapIsWays.Learnt (λ κs a r e. let ways = a.0 in r ≡ is_ways ways)
waymap_is_ways = exactly

waymap_takes : Held WaymapTakes.Asked WaymapTakes.Learnt (λ κs a r e. let ways = a.0 in let map = a.1.0 in r ≡ takes ways map)
waymap_takes = exactly

waymap_lowest_way : Held WaymapLowestWay.Asked WaymapLowestWay.Learnt (λ κs a r e. let map = a.0 in r ≡ lowest 16 (bit map))
waymap_lowest_way = exactly

waymap_encode : Held WaymapEncode.Asked WaymapEncode.Learnt (λ κs a r e. let map = a.0 in r ≡ encode 16 (bit map))
waymap_encode = exactly

waymap_set_way : Held WaymapSetWay.Asked WaymapSetWay.Learnt
    (λ κs a r e. let map = a.0 in let way = a.1.0 in let on = a.1.1.0 in r ≡ put way on map)
waymap_set_way = exactly

waymap_count_ways : Held WaymapCountWays.Asked WaymapCountWays.Learnt (λ κs a r e. let map = a.0 in r ≡ count 16 (bit map))
waymap_count_ways = exactly

-- ---- `tree`

tree_victim : Held TreeVictim.Asked TreeVictim.Learnt
    (λ κs a r e. let ways = a.0 in let word = a.1.0 in let map = a.1.1.0 in r ≡ Tree.victim_of ways word map)
tree_victim = exactly

tree_touch : Held TreeTouch.Asked TreeTouch.Learnt
    (λ κs a r e.
    let ways = a.0 in let word = a.1.0 in let map = a.1.1.0 in let way = a.1.1.1.0 in
    r ≡ Tree.touch_of ways word map way)
tree_touch = exactly

tree_change : Held TreeChange.Asked TreeChange.Learnt
    (λ κs a r e. let ways = a.0 in let old = a.1.0 in let new = a.1.1.0 in r ≡ Tree.change_of ways old new)
tree_change = exactly

tree_reset : Held TreeReset.Asked TreeReset.Learnt (λ κs a r e. let word = a.0 in let nodes = a.1.0 in r ≡ Tree.reset_of word nodes)
tree_reset = exactly

tree_own : Held TreeOwn.Asked TreeOwn.Learnt
    (λ κs a r e. let ways = a.0 in let word = a.1.0 in let map = a.1.1.0 in r ≡ Tree.own_of ways word map)
tree_own = exactly

tree_shares : Held TreeShares.Asked TreeShares.Learnt
    (λ κs a r e. let ways = a.0 in let map = a.1.0 in let other = a.1.1.0 in r ≡ Tree.shares_of ways map other)
tree_shares = exactly

-- ---- `nru`

nru_victim : Held NruVictim.Asked NruVictim.Learnt (λ κs a r e. let word = a.0 in let map = a.1.0 in r ≡ Nru.victim_of word map)
nru_victim = exactly

nru_touch : Held NruTouch.Asked NruTouch.Learnt
    (λ κs a r e. let word = a.0 in let map = a.1.0 in let way = a.1.1.0 in r ≡ Nru.touch_of word map way)
nru_touch = exactly

nru_change : Held NruChange.Asked NruChange.Learnt (λ κs a r e. let old = a.0 in let new = a.1.0 in r ≡ Nru.change_of old new)
nru_change = exactly

nru_reset : Held NruReset.Asked NruReset.Learnt (λ κs a r e. let word = a.0 in let ways = a.1.0 in r ≡ Nru.reset_of word ways)
nru_reset = exactly

nru_own : Held NruOwn.Asked NruOwn.Learnt (λ κs a r e. let word = a.0 in let map = a.1.0 in r ≡ Nru.own_of word map)
nru_own = exactly

nru_fresh : Held NruFresh.Asked NruFresh.Learnt (λ κs a r e. let ways = a.0 in r ≡ Nru.fresh_of ways)
nru_fresh = exactly

-- ---- `lru`

lru_victim : Held LruVictim.Asked LruVictim.Learnt
    (λ κs a r e. let ways = a.0 in let word = a.1.0 in let map = a.1.1.0 in r ≡ Lru.victim_of ways word map)
lru_victim = exactly

lru_touch : Held LruTouch.Asked LruTouch.Learnt
    (λ κs a r e. let ways = a.0 in let word = a.1.0 in let map = a.1.1.0 in let way = a.1.1.1.0 in r ≡ Lru.touch_of ways word map way)
lru_touch = exactly

lru_change : Held LruChange.Asked LruChange.Learnt (λ κs a r e. let old = a.0 in let new = a.1.0 in r ≡ Lru.change_of old new)
lru_change = exactly

lru_reset : Held LruReset.Asked LruReset.Learnt
    (λ κs a r e. let ways = a.0 in let word = a.1.0 in let moves = a.1.1.0 in r ≡ Lru.reset_of ways word moves)
lru_reset = exactly

lru_own : Held LruOwn.Asked LruOwn.Learnt (λ κs a r e. let ways = a.0 in let word = a.1.0 in let map = a.1.1.0 in r ≡ Lru.own_of ways word map)
lru_own = exactly

lru_fresh : Held LruFresh.Asked LruFresh.Learnt (λ κs a r e. let ways = a.0 in r ≡ Lru.fresh_of ways)
lru_fresh = exactly

-- ---- `replacement`

replacement_in_limits : Held ReplacementInLimits.Asked ReplacementInLimits.Learnt
    (λ κs a r e. let ways = a.0 in let rule = a.1.0 in r ≡ in_limits ways rule)
replacement_in_limits = exactly

replacement_number : Held ReplacementNumber.Asked ReplacementNumber.Learnt (λ κs a r e. let refusal = a.0 in r ≡ number_of refusal)
replacement_number = exactly

replacement_victim : Held ReplacementVictim.Asked ReplacementVictim.Learnt
    (λ κs a r e.
    let ways = a.0 in let rule = a.1.0 in let word = a.1.1.0 in let map = a.1.1.1.0 in
    choice_of word r ≡ Replacement.victim_of ways rule word map)
replacement_victim = exactly

replacement_touch : Held ReplacementTouch.Asked ReplacementTouch.Learnt
    (λ κs a r e.
    let ways = a.0 in let rule = a.1.0 in let word = a.1.1.0 in let map = a.1.1.1.0 in let way = a.1.1.1.1.0 in
    outcome_of word r ≡ Replacement.touch_of ways rule word map way)
replacement_touch = exactly

replacement_change_of : Held ReplacementChangeOf.Asked ReplacementChangeOf.Learnt
    (λ κs a r e.
    let ways = a.0 in let rule = a.1.0 in let old = a.1.1.0 in let new = a.1.1.1.0 in
    r ≡ ReplacementChange.change_of ways rule old new)
replacement_change_of = exactly

replacement_changed : Held ReplacementChanged.Asked ReplacementChanged.Learnt
    (λ κs a r e. let change = a.0 in let word = a.1.0 in r ≡ change_by change word)
replacement_changed = exactly

replacement_fresh : Held ReplacementFresh.Asked ReplacementFresh.Learnt
    (λ κs a r e. let ways = a.0 in let rule = a.1.0 in outcome_of 0 r ≡ Replacement.fresh_of ways rule)
replacement_fresh = exactly

replacement_own : Held ReplacementOwn.Asked ReplacementOwn.Learnt
    (λ κs a r e.
    let ways = a.0 in let rule = a.1.0 in let word = a.1.1.0 in let map = a.1.1.1.0 in
    outcome_of word r ≡ Replacement.own_of ways rule word map)
replacement_own = exactly

replacement_conflict : Held ReplacementConflict.Asked ReplacementConflict.Learnt
    (λ κs a r e.
    let ways = a.0 in let rule = a.1.0 in let map = a.1.1.0 in let other = a.1.1.1.0 in
    answer_of r ≡ Replacement.shares_of ways rule map other)
replacement_conflict = exactly
