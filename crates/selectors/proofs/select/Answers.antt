-- `selectors::select` meets its contract.
use Rattle.selectors.specs.Selectors.{new_core}
use Rattle.selectors.proofs.SelectLaws.{high, high_bytes, no_bytes}
use Rattle.selectors.proofs.select.Goals as goal

pub returns-then-next-ge16 : goal.returns-then-next-ge16
returns-then-next-ge16 c = rw c.if-not-listed.false (high c.args.argument c.then-next-ge16.either)

pub returns-then-argument-ge16777216 : goal.returns-then-argument-ge16777216
returns-then-argument-ge16777216 c =
    rw c.if-not-listed.false
    (high_bytes c.args.argument c.if-next-ge16.false c.if-next-ge16-2.false c.if-next-ge16-3.false c.if-argument-ge16777216.true)

pub returns : goal.returns
unfolding new_core
returns c =
    rw c.if-not-listed.false
    (no_bytes c.args.argument c.if-next-ge16.false c.if-next-ge16-2.false c.if-next-ge16-3.false c.if-argument-ge16777216.false)
