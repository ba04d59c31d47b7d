-- `command::code_of` meets its contract.
use Rattle.command.specs.Command.{code_of}
use borrow.Author.Rules.{rules}
use Rattle.command.proofs.code_of.Goals as goal

pub returns : goal.returns
unfolding code_of
returns c = search rules
