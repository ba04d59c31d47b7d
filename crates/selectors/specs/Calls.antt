-- What the code's meanings are among the definitions'.
use Rattle.std.specs.Prelude.{Result, Ok, Err}
use Rattle.command.specs.Refusal.{number_of}
use Rattle.command.specs.declared.Refusal.{Refusal}
use Rattle.selectors.specs.Selectors.{Meant, plain, select, refused}
use Rattle.selectors.specs.declared.Core.{Core}
use Rattle.selectors.specs.declared.Meaning.{Meaning}
use Rattle.selectors.specs.declared.Meaning.TheVariants.{Plain, Select}

-- Law `meaning_injective`: it tells any two of them apart.
abbrev pub meaning_is : Result Meaning Refusal → Meant
meaning_is (Ok (Plain domain kind argument)) = plain (record { domain = domain; kind = kind; argument = argument })
meaning_is (Ok (Select core)) = select core
meaning_is (Err refusal) = refused (number_of refusal)

-- The record that a step leaves of the core that it names, whatever the refusals are. Law `record_told`: of document 01's it is `record_by`.
module _ {E : Type 0} where
  abbrev pub record_left : Result Meaning E → Core → Core
  record_left (Ok (Plain domain kind argument)) old = old
  record_left (Ok (Select core)) old = core
  record_left (Err refusal) old = old
