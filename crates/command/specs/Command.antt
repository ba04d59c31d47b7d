-- A step to take, and its code. A run is a list of these.
use Rattle.std.specs.Prelude.{List, [], ◌∷◌, ℕ, ◌+◌, ◌*◌, ◌/◌, ◌%◌}
use Rattle.command.specs.declared.Command.{Command as Given}

-- The domain that a step names, its kind and its argument, of any numbers.
pub record Command : Type 0 where
  pub domain : ℕ
  pub kind : ℕ
  pub argument : ℕ

-- A step's code: its domain plus 256 times its kind.
unfoldable pub code_of : Command → ℕ
code_of c = c.domain + 256 * c.kind

abbrev pub argument_of : Command → ℕ
argument_of c = c.argument

-- The step of a code and an argument.
unfoldable pub command_of : ℕ → ℕ → Command
command_of code argument = record { domain = code % 256; kind = code / 256; argument = argument }

-- The steps of codes and arguments side by side.
unfoldable pub commands_of : List ℕ → List ℕ → List Command
commands_of [] args = []
commands_of (c ∷ cs) [] = []
commands_of (c ∷ cs) (a ∷ args) = command_of c a ∷ commands_of cs args

-- A step as the code has it.
abbrev pub command_is : Given → Command
command_is s = record { domain = s.domain; kind = s.kind; argument = s.argument }
