-- `domains::changed` meets its contract.
use mathlib.Core.Path.{sym}
use Rattle.domains.specs.Domains.{new_domain}
use Rattle.domains.specs.Calls.{changed_of}
use Rattle.domains.proofs.changed.Goals as goal

pub returns-then-overflows : goal.returns-then-overflows
unfolding changed_of
returns-then-overflows c = rw (sym c.if-overflows.ensures)

pub returns : goal.returns
unfolding changed_of new_domain
returns c = rw (sym c.if-overflows.ensures, c.new_maps-new.ensures, c.kept.ensures)
