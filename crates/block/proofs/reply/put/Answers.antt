-- `block::reply::put` meets its contract.
use Rattle.runs.proofs.RunLaws.{put_plain}
use Rattle.command.specs.Answer.{answer_of}
use Rattle.block.proofs.ReplyLaws.{reply_other, reply_written}
use Rattle.block.proofs.reply.put.Goals as goal
use Rattle.block.proofs.reply.put.Goals.{then-answer-eq32, else-answer-eq32}

pub returns : goal.returns
returns c =
    let told = answer_of c.args.told in
    let answer = c.args.answer.now in
    elim c.if-answer-eq32.branch [
      | then-answer-eq32 w ↦
          rw w.answer-is
          (reply_written told answer c.number.ensures w.fields_of.ensures w.if-answer-eq32.true
          (put_plain 0 8 answer w.fields_of.result w.put.new.bytes w.put.ensures))
      | else-answer-eq32 w ↦ rw w.answer-is (reply_other told answer c.number.ensures w.if-answer-eq32.false)
    ]
