-- `trace::text::end_of` meets its contract.
use Prim.Native.Nat.{◌+◌}
use native.Mathlib.Omega.{arith}
use borrow.Author.Tests.{lt-ltb, le-ltb}
use Rattle.trace.specs.Inside.{end_of}
use Rattle.trace.proofs.text.end_of.Goals as goal

pub overflow_add-i : goal.overflow_add-i
overflow_add-i c = omega (arith, c.requires)

pub returns-then-i-n : goal.returns-then-i-n
unfolding end_of
returns-then-i-n c = rw (lt-ltb (c.args.i + 1) c.args.n c.if-i-n.true)

pub returns-else-i-n : goal.returns-else-i-n
unfolding end_of
returns-else-i-n c = rw (le-ltb (c.args.i + 1) c.args.n c.if-i-n.false)
