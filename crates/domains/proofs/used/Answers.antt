-- `domains::used` meets its contract.
use mathlib.Core.Path.{sym}
use Rattle.domains.specs.Calls.{used_of}
use Rattle.domains.proofs.used.Goals as goal

pub returns-then-is_full : goal.returns-then-is_full
unfolding used_of
returns-then-is_full c = rw (sym c.if-is_full.ensures)

pub returns : goal.returns
unfolding used_of
returns c = rw (sym c.if-is_full.ensures, c.counted.ensures)
