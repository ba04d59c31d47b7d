-- `block::work::step` meets its contract.
use Rattle.std.proofs.Common.{refl}
use Rattle.command.proofs.RefusalLaws.{number_some}
use Rattle.block.proofs.HeadLaws.{passed_on}
use Rattle.block.proofs.TurnLaws.{turn_refused, turn_blocked, turn_domain, turn_unknown, turn_line, turn_policy}
use Rattle.block.proofs.work.step.Goals as goal

pub returns-then-d-ge16 : goal.returns-then-d-ge16
returns-then-d-ge16 c =
    let a = c.args in
    let all = turn_domain a.block.now a.answer a.d a.kind a.argument c.named-g.ensures c.in_ok-fits.ensures refl
    (λ i. (c.slice_known-1.given i).fits) c.if-d-ge16.true in
    record { block_after = all.0; block_after_2 = all.1 }

pub line-requires : goal.line-requires
line-requires c =
    let a = c.args in
    record {
      blocked = turn_blocked a.block.now a.answer a.d a.kind a.argument c.named-g.ensures c.in_ok-fits.ensures
          refl
          (λ i. (c.slice_known-1.given i).fits);
      d_bound = c.if-d-ge16.false;
    }

pub policy-requires : goal.policy-requires
policy-requires c =
    let a = c.args in
    record {
      blocked = turn_blocked a.block.now a.answer a.d a.kind a.argument c.named-g.ensures c.in_ok-fits.ensures
          refl
          (λ i. (c.slice_known-1.given i).fits);
      d_bound = c.if-d-ge16.false;
    }

pub returns-in-Line : goal.returns-in-Line
returns-in-Line c =
    let worked = c.line in
    let a = c.args in
    let all = turn_line a.block.now a.answer a.d a.kind a.argument c.named-g.ensures c.in_ok-fits.ensures refl
    (λ i. (c.slice_known-1.given i).fits) c.if-d-ge16.false c.kind_of.result c.kind_of.ensures
    worked.new.block worked.auto.block (λ i. (c.slice_known-in-Line-1.given i).fits) _ c.in-Line.is worked.ensures in
    record { block_after = all.0; block_after_2 = all.1 }

pub returns-in-Policy : goal.returns-in-Policy
returns-in-Policy c =
    let worked = c.policy in
    let a = c.args in
    let all = turn_policy a.block.now a.answer a.d a.kind a.argument c.named-g.ensures c.in_ok-fits.ensures refl
    (λ i. (c.slice_known-1.given i).fits) c.if-d-ge16.false c.kind_of.result c.kind_of.ensures
    worked.new.block worked.auto.block (λ i. (c.slice_known-in-Policy-1.given i).fits) c.in-Policy.is worked.ensures in
    record { block_after = all.0; block_after_2 = all.1 }

pub returns-in-Unknown : goal.returns-in-Unknown
returns-in-Unknown c =
    let a = c.args in
    let all = turn_unknown a.block.now a.answer a.d a.kind a.argument c.named-g.ensures c.in_ok-fits.ensures refl
    (λ i. (c.slice_known-1.given i).fits) c.if-d-ge16.false c.kind_of.result c.kind_of.ensures
    c.in-Unknown.is in
    record { block_after = all.0; block_after_2 = all.1 }

pub returns-in_err-fits : goal.returns-in_err-fits
returns-in_err-fits c =
    let a = c.args in
    let refusal = c.in_err-fits.field-0.0 in
    let all = turn_refused a.block.now a.answer a.d a.kind a.argument c.named-g.ensures c.in_err-fits.ensures (number_some refusal) in
    rw (passed_on c.from_residual.result refusal c.from_residual.ensures.1)
    (record { block_after = all.0; block_after_2 = all.1 })
