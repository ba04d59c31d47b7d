-- `tree::path::below` meets its contract.
use borrow.Author.Tests.{lt-ltb, le-ltb}
use Rattle.tree.specs.Inside.{toward}
use Rattle.tree.proofs.path.below.Goals as goal

pub returns-then-way-middle : goal.returns-then-way-middle
unfolding toward
returns-then-way-middle c = rw (lt-ltb _ _ c.if-way-middle.true)

pub returns : goal.returns
unfolding toward
returns c = rw (le-ltb _ _ c.if-way-middle.false)
