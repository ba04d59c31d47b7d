-- `row::update::flushed` meets its contract.
use Rattle.row.specs.Row.{flush_at}
use Rattle.row.proofs.update.flushed.Goals as goal

pub returns : goal.returns
unfolding flush_at
returns c = λ i. record { valid = c.set_way.ensures i; dirty = c.set_way-2.ensures i; word = c.args.lines.word }
