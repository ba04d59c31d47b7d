-- `tree::walk::bit_at` meets its contract.
use Rattle.waymap.proofs.BitLaws.{digit_at}
use Rattle.tree.proofs.walk.bit_at.Goals as goal

pub returns : goal.returns
returns c = digit_at c.args.word c.args.i
