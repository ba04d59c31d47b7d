-- `domains::kept` meets its contract.
use mathlib.Core.Path.{sym}
use native.Mathlib.Omega.{arith}
use Rattle.domains.specs.Domains.{with_drops}
use Rattle.domains.proofs.CountLaws.{drops_fit}
use Rattle.domains.proofs.kept.Goals as goal

pub overflow_cast-result : goal.overflow_cast-result
overflow_cast-result c =
    let a = c.args in
    omega (arith, drops_fit a.argument a.dropped a.c c.requires (sym c.if-removes.ensures))

pub overflow_add-result : goal.overflow_add-result
overflow_add-result c =
    let a = c.args in
    omega (arith, drops_fit a.argument a.dropped a.c c.requires (sym c.if-removes.ensures))

pub returns : goal.returns
unfolding with_drops
returns c = rw (sym c.if-removes.ensures)
