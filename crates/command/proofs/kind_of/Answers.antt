-- `command::kind_of` meets its contract.
use native.Mathlib.Omega.{arith}
use borrow.Author.Tests.{ne_eqb, lt-ltb, le-ltb}
use Rattle.command.specs.Kind.{kind_of}
use Rattle.command.proofs.kind_of.Goals as goal

pub returns-in-2 : goal.returns-in-2
unfolding kind_of
returns-in-2 c = rw c.in-2.is

pub returns-in-3 : goal.returns-in-3
unfolding kind_of
returns-in-3 c = rw c.in-3.is

pub returns-in-16 : goal.returns-in-16
unfolding kind_of
returns-in-16 c = rw c.in-16.is

pub returns-in-0-to-1 : goal.returns-in-0-to-1
unfolding kind_of
returns-in-0-to-1 c = rw (lt-ltb c.args.kind 3 (omega arith), ne_eqb c.args.kind 2 (λ e. omega arith))

pub returns-in-4-to-15 : goal.returns-in-4-to-15
unfolding kind_of
returns-in-4-to-15 c = rw (
  le-ltb c.args.kind 3 (omega arith),
  ne_eqb c.args.kind 3 (λ e. omega arith),
  ne_eqb c.args.kind 16 (λ e. omega arith),
)
