-- `tree::path::turned` meets its contract.
use borrow.Author.Tests.{lt-ltb, le-ltb}
use Rattle.tree.specs.Inside.{other}
use Rattle.tree.proofs.PathLaws.{turns, rests}
use Rattle.tree.proofs.path.turned.Goals as goal

pub returns-then-has_some : goal.returns-then-has_some
unfolding other
returns-then-has_some c =
    turns _ _ _ _ _ (lt-ltb _ _ c.if-way-middle.true) c.has_some.ensures c.if-has_some.true c.aimed.ensures

pub returns-then-way-middle : goal.returns-then-way-middle
unfolding other
returns-then-way-middle c = rests _ _ _ _ _ (lt-ltb _ _ c.if-way-middle.true) c.has_some.ensures c.if-has_some.false

pub returns-then-has_some-2 : goal.returns-then-has_some-2
unfolding other
returns-then-has_some-2 c =
    turns _ _ _ _ _ (le-ltb _ _ c.if-way-middle.false) c.has_some-2.ensures c.if-has_some-2.true c.aimed-then-has_some-2.ensures

pub returns : goal.returns
unfolding other
returns c = rests _ _ _ _ _ (le-ltb _ _ c.if-way-middle.false) c.has_some-2.ensures c.if-has_some-2.false
