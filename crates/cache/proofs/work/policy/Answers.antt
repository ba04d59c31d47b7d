-- `cache::work::policy` meets its contract.
use mathlib.Core.Path.{refl, ap}
use Rattle.std.proofs.lemmas.Result.{err_from_is_err_and}
use Rattle.command.proofs.RefusalLaws.{number_some}
use Rattle.steps.specs.Step.{tables_of}
use Rattle.steps.proofs.DeedLaws.{policy_down, policy_room, policy_done}
use Rattle.cache.specs.Inside.{deed_of}
use Rattle.cache.specs.declared.account.Used.{Used}
use Rattle.cache.proofs.work.policy.Goals as goal

pub returns-in_err-policy_refusal : goal.returns-in_err-policy_refusal
returns-in_err-policy_refusal c =
    let lent = tables_of c.args.tags.now c.args.valid.now c.args.dirty.now c.args.words.now in
    let p = err_from_is_err_and c.from_residual.result c.from_residual.ensures.1 in
    rw (p.1, p.2)
    (policy_down c.args.g c.args.own c.args.policies c.args.domain c.args.argument lent c.drops-drops.result c.requires
    (rw c.maps-old.ensures at c.drops-drops.ensures) c.in_err-policy_refusal.ensures (number_some c.in_err-policy_refusal.field-0.0) refl)

pub after_change-requires : goal.after_change-requires
after_change-requires c =
    let lent = tables_of c.args.tags.now c.args.valid.now c.args.dirty.now c.args.words.now in
    policy_room c.args.g c.args.own c.args.policies c.args.domain c.args.argument lent
    c.drops-drops.result c.requires (rw c.maps-old.ensures at c.drops-drops.ensures) c.in_ok-policy_refusal.ensures
    {v = tables_of c.sweep_sets-drops.new.tags c.sweep_sets-drops.new.valid c.sweep_sets-drops.new.dirty c.sweep_sets-drops.new.words}
    refl c.new_maps.ensures (rw c.maps-old.ensures at c.sweep_of-sweep.ensures) c.sweep_sets-drops.ensures

pub returns : goal.returns
returns c =
    let lent = tables_of c.args.tags.now c.args.valid.now c.args.dirty.now c.args.words.now in
    let left = tables_of c.sweep_sets-drops.new.tags c.sweep_sets-drops.new.valid c.sweep_sets-drops.new.dirty c.sweep_sets-drops.new.words in
    policy_done c.args.g c.args.own c.args.policies c.args.domain c.args.argument lent
    c.drops-drops.result c.requires (rw c.maps-old.ensures at c.drops-drops.ensures) c.in_ok-policy_refusal.ensures
    {v = left}
    refl c.new_maps.ensures (rw c.maps-old.ensures at c.sweep_of-sweep.ensures) c.sweep_sets-drops.ensures
    (ap (λ (u : Used). deed_of u left) c.after_change.ensures)
