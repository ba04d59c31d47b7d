-- `trace::lines::answer` meets its contract.
use Rattle.trace.specs.Inside.{written_of}
use Rattle.trace.proofs.LineLaws.{answer_is}
use Rattle.trace.proofs.lines.answer.Goals as goal

pub returns-clause-out_after : goal.returns-clause-out_after
returns-clause-out_after c =
    answer_is c.args.place c.args.reply (written_of c.args.at c.args.out.now) c.number-next.ensures.out_after c.replied.ensures.out_after
