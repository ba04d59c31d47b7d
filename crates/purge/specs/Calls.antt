-- What the call that purges a trace gives.
use Rattle.std.specs.Prelude.{cond, ◌&&◌, List, ◌++◌, map, ℕ, eqb, length, drop, Result, Ok, Err}
use Rattle.command.specs.Command.{Command, code_of, argument_of, commands_of}
use Rattle.command.specs.Refusal.{number_of}
use Rattle.command.specs.declared.Refusal.{Refusal}
use Rattle.selectors.specs.Selectors.{max_cores, fresh_cores}
use Rattle.purge.specs.Purge.{core_purge}

-- The refusal's number or 0, how many steps are kept, and the two tables that take them: those steps, and after them what was there.
pub record Taken : Type 0 where
  pub number : ℕ
  pub count : ℕ
  pub codes : List ℕ
  pub arguments : List ℕ

abbrev pub taken_of : Result ℕ Refusal → List ℕ → List ℕ → Taken
taken_of (Ok count) codes arguments = record { number = 0; count = count; codes = codes; arguments = arguments }
taken_of (Err refusal) codes arguments = record { number = number_of refusal; count = 0; codes = codes; arguments = arguments }

abbrev pub taking : List Command → List ℕ → List ℕ → Taken
taking cs codes arguments = record {
  number = 0;
  count = length cs;
  codes = map code_of cs ++ drop (length cs) codes;
  arguments = map argument_of cs ++ drop (length cs) arguments;
}

-- The struck-out list where 32 fresh core records are lent. Unequal lengths are refused by 2, and nothing is taken then.
unfoldable pub purge_of : ℕ → List ℕ → List ℕ → List ℕ → List ℕ → Taken
purge_of d codes arguments out_codes out_arguments =
    cond (eqb (length arguments) (length codes) && eqb (length out_codes) (length codes) && eqb (length out_arguments) (length codes))
    (taking (core_purge d (fresh_cores max_cores) (commands_of codes arguments)) out_codes out_arguments)
    (record { number = 2; count = 0; codes = out_codes; arguments = out_arguments })
