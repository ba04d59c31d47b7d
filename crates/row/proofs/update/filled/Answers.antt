-- `row::update::filled` meets its contract.
use Rattle.row.specs.Row.{filled}
use Rattle.row.proofs.update.filled.Goals as goal

pub returns : goal.returns
unfolding filled
returns c = λ i. record { valid = c.set_way.ensures i; dirty = c.set_way-2.ensures i; word = c.touched.ensures i }
