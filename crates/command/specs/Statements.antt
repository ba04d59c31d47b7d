-- What is claimed of codes, kinds and answers, as closed statements. The theorem of each has its name in small letters, stands in proofs/, and is of
-- exactly that type.
use Rattle.std.specs.Prelude.{◌≡◌, ℕ, ◌<◌}
use Rattle.command.specs.Command.{command_is, Command, command_of, code_of, argument_of}
use Rattle.command.specs.Kind.{kind_is}
use Rattle.command.specs.Answer.{answer_of}
use Rattle.command.specs.Refusal.{number_of}
use Rattle.command.specs.declared.Command.{Command as Given}
use Rattle.command.specs.declared.Asked.{Asked}
use Rattle.command.specs.declared.Answer.{Answer}
use Rattle.command.specs.declared.Refusal.{Refusal}

-- Every number is the code of the step that it says.
abbrev pub CodeOfCommand : Type 0
CodeOfCommand = (code argument : ℕ) → code_of (command_of code argument) ≡ code

-- A step's code and argument say that step, if its domain is a byte.
abbrev pub CommandOfCode : Type 0
CommandOfCode = (c : Command) → c.domain < 256 → command_of (code_of c) (argument_of c) ≡ c

-- What the contracts equate tells any two of the code's steps, kinds, answers and refusals apart, and so settles each whole.
abbrev pub CommandInjective : Type 0
CommandInjective = (p q : Given) → command_is p ≡ command_is q → p ≡ q

abbrev pub KindInjective : Type 0
KindInjective = (p q : Asked) → kind_is p ≡ kind_is q → p ≡ q

abbrev pub AnswerInjective : Type 0
AnswerInjective = (a b : Answer) → answer_of a ≡ answer_of b → a ≡ b

abbrev pub NumberInjective : Type 0
NumberInjective = (r s : Refusal) → number_of r ≡ number_of s → r ≡ s
