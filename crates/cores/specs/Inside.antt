-- What the crate's inner functions go by.
use Rattle.std.specs.Prelude.{ℕ, Result, Ok, Err}
use Rattle.command.specs.Refusal.{number_of}
use Rattle.command.specs.declared.Refusal.{Refusal}
use Rattle.command.specs.declared.Answer.TheVariants.{Refused}
use Rattle.domains.specs.declared.Domains.{Domains}
use Rattle.selectors.specs.declared.Core.{Core}
use Rattle.cores.specs.declared.Reply.TheVariants.{Cache, Select}
use Rattle.cores.specs.declared.Turned.{Turned}

-- A step that is turned down, as the code has it.
abbrev pub unmoved : ℕ → Domains → Core → Turned
unmoved number domains core = record { stepped = record { reply = Cache (Refused number); domains = domains }; core = core }

-- A step that does not reach the cache: a write of selectors, or turned down, by geometry and lengths or by itself.
module _ {A : Type 0} where
  abbrev pub settled : Result A Refusal → Result Core Refusal → Domains → Core → Turned
  settled (Ok x) (Ok next) domains core = record { stepped = record { reply = Select next; domains = domains }; core = next }
  settled (Ok x) (Err refusal) domains core = unmoved (number_of refusal) domains core
  settled (Err refusal) written domains core = unmoved (number_of refusal) domains core
