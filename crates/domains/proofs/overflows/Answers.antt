-- `domains::overflows` meets its contract.
use mathlib.Core.Path.{sym}
use Prim.Native.Nat.{◌≤◌}
use native.Mathlib.Omega.{arith}
use Rattle.domains.specs.Domains.{overflows}
use Rattle.domains.proofs.CountLaws.{past_is}
use Rattle.domains.proofs.overflows.Goals as goal

pub returns-then-not-removes : goal.returns-then-not-removes
unfolding overflows
returns-then-not-removes c =
    let a = c.args in
    let small : a.c.dropped ≤ 4294967295 = omega (arith, c.well_formed) in
    rw (sym c.if-not-removes.ensures) (past_is a.c.dropped a.dropped small)

pub returns-else-not-removes : goal.returns-else-not-removes
unfolding overflows
returns-else-not-removes c = rw (c.if-not-removes.false, sym c.if-not-removes.ensures)
