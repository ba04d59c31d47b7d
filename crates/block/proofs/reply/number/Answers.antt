-- `block::reply::number` meets its contract.
use Rattle.std.proofs.Common.{◌≡◌, refl}
use Rattle.command.specs.Answer.{answer_of}
use Rattle.command.specs.declared.Answer.{Answer}
use Rattle.command.specs.declared.Answer.TheVariants.{Hit, Fill, Evict, Pass, Flush, Absent, Policy, Refused}
use Rattle.block.specs.Block.{number_in}
use Rattle.block.proofs.ReplyLaws.{no_number}
use Rattle.block.proofs.reply.number.Goals as goal

pub returns-in-Refused : goal.returns-in-Refused
unfolding number_in
returns-in-Refused c = rw c.in-Refused.is

pub returns-in_default : goal.returns-in_default
returns-in_default c = no_number c.args.told c.in_default.not-Refused
