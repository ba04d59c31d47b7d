-- `block::head::fits` meets its contract.
use Rattle.std.proofs.Common.{refl}
use Rattle.command.proofs.RefusalLaws.{number_some}
use Rattle.block.proofs.HeadLaws.{passed_on, by_length, by_answer, by_zeros, by_none}
use Rattle.block.proofs.head.fits.Goals as goal

pub returns-then-answer-ne32 : goal.returns-then-answer-ne32
returns-then-answer-ne32 c =
    by_answer c.args.block.now c.args.answer c.requires c.in_ok-sized.ensures refl c.if-answer-ne32.true

pub returns-then-at-ne0 : goal.returns-then-at-ne0
returns-then-at-ne0 c =
    by_zeros c.args.block.now c.args.answer c.requires c.in_ok-sized.ensures refl
    c.if-answer-ne32.false c.at.ensures c.if-at-ne0.true

pub returns : goal.returns
returns c =
    by_none c.args.block.now c.args.answer c.requires c.in_ok-sized.ensures refl
    c.if-answer-ne32.false c.at.ensures c.if-at-ne0.false

pub returns-in_err-sized : goal.returns-in_err-sized
returns-in_err-sized c =
    let refusal = c.in_err-sized.field-0.0 in
    rw (passed_on c.from_residual.result refusal c.from_residual.ensures.1)
    (by_length c.args.block.now c.args.answer c.requires c.in_err-sized.ensures (number_some refusal))
