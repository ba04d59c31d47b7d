-- `command::command_of` meets its contract.
use Rattle.command.specs.Command.{command_of}
use borrow.Author.Rules.{rules}
use Rattle.command.proofs.command_of.Goals as goal

pub returns : goal.returns
unfolding command_of
returns c = search rules
