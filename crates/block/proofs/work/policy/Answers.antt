-- `block::work::policy` meets its contract.
use Rattle.std.proofs.Common.{◌∙◌, refl}
use Rattle.command.proofs.RefusalLaws.{number_some}
use Rattle.block.proofs.HeadLaws.{passed_on}
use Rattle.block.proofs.StepLaws.{policy_refused, policy_changed}
use Rattle.block.proofs.work.policy.Goals as goal

pub put_own-requires : goal.put_own-requires
put_own-requires c =
    record {
      blocked = record { limited = c.requires.blocked.limited; long = c.sweep_sets-swept.auto.block ∙ c.requires.blocked.long };
      d_bound = c.requires.d_bound;
    }

pub returns : goal.returns
returns c =
    let a = c.args in
    policy_changed a.g a.block.now a.d c.own-own.ensures c.requires.blocked a.argument c.policies-policies.ensures
    (rw c.maps-old.ensures at c.drops-dropped.ensures) c.in_ok-policy_refusal.ensures c.put_own.new.block {done = c.sweep_sets-swept.result} refl
    c.new_maps.ensures (rw c.maps-old.ensures at c.sweep_of-sweep.ensures) c.sweep_sets-swept.ensures c.changed.ensures c.put_own.ensures

pub returns-in_err-policy_refusal : goal.returns-in_err-policy_refusal
returns-in_err-policy_refusal c =
    let a = c.args in
    let refusal = c.in_err-policy_refusal.field-0.0 in
    rw (passed_on c.from_residual.result refusal c.from_residual.ensures.1)
    (policy_refused a.g a.block.now a.d c.own-own.ensures c.requires.blocked a.argument c.policies-policies.ensures
    (rw c.maps-old.ensures at c.drops-dropped.ensures) c.in_err-policy_refusal.ensures (number_some refusal))
