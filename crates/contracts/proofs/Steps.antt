-- Contracts of a step, with and without core records, a fresh cache, the struck-out list, and the block: each asks nothing, and settles
-- what is said here for every input.
use Rattle.block.proofs.dipperlock_fresh.Reads as DipperlockFresh
use Rattle.block.proofs.dipperlock_step.Reads as DipperlockStep
use Rattle.block.specs.Block as Block
use Rattle.block.specs.Block.{fresh_call, state_after, step_call, stepped_of}
use Rattle.block.specs.Layout.{state_of}
use Rattle.cache.proofs.step.Reads as CacheStep
use Rattle.cache.specs.Calls.{outcome}
use Rattle.contracts.proofs.Exactly.{exactly}
use Rattle.contracts.specs.Contract.{Held}
use Rattle.cores.proofs.turn.Reads as CoresTurn
use Rattle.cores.specs.Calls.{turn_is, turn_of}
use Rattle.fresh.proofs.fresh_domains.Reads as FreshDomains
use Rattle.command.specs.Refusal.{number_in}
use Rattle.fresh.proofs.fresh_tables.Reads as FreshTables
use Rattle.fresh.specs.Calls as Fresh
use Rattle.fresh.specs.Calls.{fresh_of}
use Rattle.geometry.specs.Named.{geometry_of}
use Rattle.purge.proofs.purge_trace.Reads as PurgeTrace
use Rattle.purge.specs.Calls.{purge_of, taken_of}
use Rattle.steps.specs.Fresh.{fresh_domains}
use Rattle.steps.specs.Step.{step, tables_of}
use lib.ListN.{length}
use mathlib.Core.Path.{◌≡◌}

-- ---- `cache`

cache_step : Held CacheStep.Asked CacheStep.Learnt
    (λ κs a r e.
    let g = a.0 in let tags = a.1.0 in let tags' = e.1.0 in let valid = a.1.1.0 in let valid' = e.1.1.0 in
    let dirty = a.1.1.1.0 in let dirty' = e.1.1.1.0 in let words = a.1.1.1.1.0 in let words' = e.1.1.1.1.0 in
    let domains = a.1.1.1.1.1.0 in let domain = a.1.1.1.1.1.1.0 in let kind = a.1.1.1.1.1.1.1.0 in
    let argument = a.1.1.1.1.1.1.1.1.0 in
    outcome r (tables_of tags'.now valid'.now dirty'.now words'.now)
    ≡ step g domain kind argument (record { tables = tables_of tags.now valid.now dirty.now words.now; domains = domains }))
cache_step = exactly

-- ---- `fresh`

fresh_tables_lem : Held FreshTables.Asked FreshTables.Learnt
    (λ κs a r e.
    let g = a.0 in let tags = a.1.0 in let tags' = e.1.0 in let valid = a.1.1.0 in let valid' = e.1.1.0 in
    let dirty = a.1.1.1.0 in let dirty' = e.1.1.1.0 in let words = a.1.1.1.1.0 in let words' = e.1.1.1.1.0 in
    Fresh.made_of (number_in r) (tables_of tags'.now valid'.now dirty'.now words'.now)
    ≡ fresh_of g (tables_of tags.now valid.now dirty.now words.now))
fresh_tables_lem = exactly

fresh_domains_lem : Held FreshDomains.Asked FreshDomains.Learnt (λ κs a r e. r ≡ fresh_domains)
fresh_domains_lem = exactly

-- ---- `cores`

cores_turn : Held CoresTurn.Asked CoresTurn.Learnt
    (λ κs a r e.
    let g = a.0 in let tags = a.1.0 in let tags' = e.1.0 in let valid = a.1.1.0 in let valid' = e.1.1.0 in
    let dirty = a.1.1.1.0 in let dirty' = e.1.1.1.0 in let words = a.1.1.1.1.0 in let words' = e.1.1.1.1.0 in
    let domains = a.1.1.1.1.1.0 in let count = a.1.1.1.1.1.1.0 in let core = a.1.1.1.1.1.1.1.0 in
    let named = a.1.1.1.1.1.1.1.1.0 in let kind = a.1.1.1.1.1.1.1.1.1.0 in
    let argument = a.1.1.1.1.1.1.1.1.1.1.0 in
    turn_is r (tables_of tags'.now valid'.now dirty'.now words'.now)
    ≡ turn_of g (record { domain = named; kind = kind; argument = argument }) count core (record {
      tables = tables_of tags.now valid.now
          dirty.now words.now;
      domains = domains;
    }))
cores_turn = exactly

-- ---- `purge`

purge_trace : Held PurgeTrace.Asked PurgeTrace.Learnt
    (λ κs a r e.
    let domain = a.0 in let codes = a.1.0 in let arguments = a.1.1.0 in let kept_codes = a.1.1.1.0 in
    let kept_codes' = e.1.1.1.0 in let kept_arguments = a.1.1.1.1.0 in let kept_arguments' = e.1.1.1.1.0 in
    taken_of r kept_codes'.now kept_arguments'.now ≡ purge_of domain codes.now arguments.now kept_codes.now kept_arguments.now)
purge_trace = exactly

-- ---- `block`

dipperlock_fresh : Held DipperlockFresh.Asked DipperlockFresh.Learnt
    (λ κs a r e.
    let block = a.0 in let block' = e.0 in let sets = a.1.0 in let ways = a.1.1.0 in let rule = a.1.1.1.0 in
    Block.made_of r block'.now ≡ fresh_call (record { sets = sets; ways = ways; rule = rule }) block.now)
dipperlock_fresh = exactly

dipperlock_step : Held DipperlockStep.Asked DipperlockStep.Learnt
    (λ κs a r e.
    let block = a.0 in let block' = e.0 in let domain = a.1.0 in let kind = a.1.1.0 in let argument = a.1.1.1.0 in
    let answer = a.1.1.1.1.0 in let answer' = e.1.1.1.1.0 in
    (stepped_of r block'.now answer'.now ≡ step_call block.now answer.now domain kind argument)
    × (state_of (geometry_of block'.now) block'.now ≡ state_after block.now (length answer.now) domain kind argument))
dipperlock_step = exactly
