-- `block::work::kind_of` meets its contract.
use Rattle.std.proofs.Common.{arith, le-ltb, ne_eqb}
use Rattle.command.specs.Kind.{kind_of}
use Rattle.block.proofs.work.kind_of.Goals as goal

pub returns-then-kind-gt255 : goal.returns-then-kind-gt255
unfolding kind_of
returns-then-kind-gt255 c =
    let kind = c.args.kind in
    rw (le-ltb kind 3 (omega (arith, c.if-kind-gt255.true)), ne_eqb kind 3 (λ e. omega (arith, c.if-kind-gt255.true)), ne_eqb kind 16 (λ e. omega (arith, c.if-kind-gt255.true)))
