-- `trace::text::put` meets its contract.
use Rattle.trace.proofs.TextLaws.{put_is}
use Rattle.trace.proofs.text.put.Goals as goal

pub returns-clause-out_after : goal.returns-clause-out_after
returns-clause-out_after c = put_is c.args.at c.args.bytes.now c.args.out.now c.requires c.copy_from_slice.ensures.after
