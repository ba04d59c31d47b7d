-- Why a call is turned down, and the numbers of document 01, "Refusals", with those that document 02's jobs add.
use Rattle.std.specs.Prelude.{ℕ, Result, Ok, Err}
use Rattle.command.specs.declared.Refusal.{Refusal}
use Rattle.command.specs.declared.Refusal.TheVariants.{Limits, Lengths, Domain, Kind, Argument, NoWays, FullCount, SharedWay, SharedNode, File, Core, Block}

abbrev pub number_of : Refusal → ℕ
number_of Limits = 1
number_of Lengths = 2
number_of Domain = 3
number_of Kind = 4
number_of Argument = 5
number_of NoWays = 6
number_of FullCount = 7
number_of SharedWay = 8
number_of SharedNode = 9
number_of File = 10
number_of Core = 11
number_of Block = 12

-- The number of a call that answers, if it is not turned down, with a value: 0 there.
module _ {A : Type 0} where
  abbrev pub number_in : Result A Refusal → ℕ
  number_in (Ok x) = 0
  number_in (Err r) = number_of r
