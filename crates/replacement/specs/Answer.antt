-- What the results of the public calls say, as document 01 has it: 0 and the values of a call that is not refused, else the number alone; and the word that
-- the call leaves.
use Rattle.std.specs.Prelude.{List, [], ◌∷◌, ℕ, Result, Ok, Err}
use Rattle.nru.specs.declared.Choice.{Choice}
use Rattle.replacement.specs.Calls as Calls
use Rattle.replacement.specs.Calls.{refusing}
use Rattle.replacement.specs.Refusal.{number_of}
use Rattle.replacement.specs.declared.Refusal.{Refusal}

-- Of a call that gives no value. Law `reply_injective`: it tells any two answers apart.
abbrev pub answer_of : Result (Unit {0}) Refusal → List ℕ
answer_of (Ok x) = 0 ∷ []
answer_of (Err r) = number_of r ∷ []

-- Of a call that is lent a word and gives another: "the word is then unchanged" where it is refused. Law `result_injective`.
abbrev pub outcome_of : ℕ → Result ℕ Refusal → Calls.Result
outcome_of word (Ok x) = record { answer = 0 ∷ []; word = x }
outcome_of word (Err r) = refusing word (number_of r)

-- Of one that gives a way too, before the word. Law `choice_injective`.
abbrev pub choice_of : ℕ → Result Choice Refusal → Calls.Result
choice_of word (Ok c) = record { answer = 0 ∷ c.way ∷ []; word = c.word }
choice_of word (Err r) = refusing word (number_of r)
