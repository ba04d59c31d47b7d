-- `row::update::hit` meets its contract.
use Rattle.row.specs.Row.{hit_at}
use Rattle.row.proofs.update.hit.Goals as goal

pub returns-then-store : goal.returns-then-store
unfolding hit_at
returns-then-store c = rw c.if-store.true
    (λ i. record { valid = c.args.lines.valid; dirty = c.set_way-dirty.ensures i; word = c.touched-word.ensures i })

pub returns-else-store : goal.returns-else-store
unfolding hit_at
returns-else-store c = rw c.if-store.false
    (λ i. record { valid = c.args.lines.valid; dirty = c.args.lines.dirty; word = c.touched-word.ensures i })
