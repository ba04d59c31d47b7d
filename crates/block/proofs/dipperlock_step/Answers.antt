-- `block::dipperlock_step` meets its contract.
use Rattle.std.proofs.Common.{ap, ◌∙◌}
use Rattle.command.specs.Answer.{answer_of}
use Rattle.command.specs.declared.Answer.{Answer}
use Rattle.block.specs.Block.{Turn, number_in, filled, stepped_of, step_call}
use Rattle.block.specs.Inside.{Replied}
use Rattle.block.proofs.dipperlock_step.Goals as goal

pub returns : goal.returns
unfolding step_call
returns c =
    record {
      answer_after = ap (λ (q : Replied). stepped_of q.result c.step-done.new.block q.answer) c.put.ensures
          ∙ ap (λ (x : Answer). stepped_of (number_in (answer_of x)) c.step-done.new.block (filled (answer_of x) c.args.answer.now)) c.told.ensures
          ∙ ap (λ (t : Turn). stepped_of (number_in t.told) t.block (filled t.told c.args.answer.now)) c.step-done.ensures.block_after;
      block_after = c.step-done.ensures.block_after_2;
    }
