-- `row::use_line` meets its contract.
use mathlib.Core.Path.{sym, ◌∙◌}
use Rattle.row.specs.Calls.{use_of}
use Rattle.row.proofs.use_line.Goals as goal

pub returns-then-flushes : goal.returns-then-flushes
unfolding use_of
returns-then-flushes c = rw (sym c.flushes.ensures ∙ c.if-flushes.true) c.flush.ensures

pub returns : goal.returns
unfolding use_of
returns c =
    rw (sym c.flushes.ensures ∙ c.if-flushes.false, ← c.stores.ensures)
    c.access.ensures
