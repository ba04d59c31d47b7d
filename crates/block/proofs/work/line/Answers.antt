-- `block::work::line` meets its contract.
use Rattle.std.proofs.Common.{◌∙◌, refl}
use Rattle.command.proofs.RefusalLaws.{number_some}
use Rattle.block.proofs.HeadLaws.{passed_on}
use Rattle.block.proofs.StepLaws.{line_refused, line_used}
use Rattle.block.proofs.work.line.Goals as goal

pub put_own-requires : goal.put_own-requires
put_own-requires c =
    let used = c.use_set-answer in
    record {
      blocked = record { limited = c.requires.blocked.limited; long = used.auto.block ∙ c.requires.blocked.long };
      d_bound = c.requires.d_bound;
    }

pub returns : goal.returns
returns c =
    let a = c.args in
    line_used a.g a.block.now a.d c.own-own.ensures a.usage a.address (rw c.maps-stored.ensures at c.in_ok-line_refusal.ensures)
    c.use_set-answer.new.block c.put_own.new.block refl (rw c.maps-stored.ensures at c.use_set-answer.ensures) c.used.ensures c.put_own.ensures

pub returns-in_err-line_refusal : goal.returns-in_err-line_refusal
returns-in_err-line_refusal c =
    let a = c.args in
    let refusal = c.in_err-line_refusal.field-0.0 in
    rw (passed_on c.from_residual.result refusal c.from_residual.ensures.1)
    (line_refused a.g a.block.now a.d c.own-own.ensures a.usage a.address (rw c.maps-stored.ensures at c.in_err-line_refusal.ensures)
    (number_some refusal))
