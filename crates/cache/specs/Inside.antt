-- What the crate's inner functions go by: they are called within the limits, on tables of their lengths.
use Rattle.std.specs.Prelude.{◌≡◌, ℕ, ◌+◌, ◌*◌, ◌≤◌, ◌<◌, List, Result, Ok, Err}
use Rattle.std.specs.Borrow.{MutBor}
use Rattle.command.specs.declared.Answer.{Answer}
use Rattle.command.specs.Refusal.{number_of}
use Rattle.command.specs.declared.Answer.TheVariants.{Refused}
use Rattle.command.specs.declared.Refusal.{Refusal}
use Rattle.domains.specs.declared.Domain.{Domain}
use Rattle.domains.specs.declared.Domains.{Domains}
use Rattle.geometry.specs.declared.Geometry.{Geometry}
use Rattle.geometry.specs.Address.{set_of, tag_of}
use Rattle.geometry.specs.declared.Place.{Place}
use Rattle.row.specs.Calls.{effect_of}
use Rattle.row.specs.Inside.{lines_of}
use Rattle.row.specs.declared.Lines.{Lines}
use Rattle.row.specs.declared.Done.{Done}
use Rattle.steps.specs.Tables.{Tables, row_at}
use Rattle.steps.specs.Step.{Outcome, answers}
use Rattle.steps.specs.Deed.{Deed, put_deed, RowWork, on_row}
use Rattle.cache.specs.declared.account.Used.{Used}

-- Where the tags of a set lie: from `start` up to `stop`.
pub record RowOf (g : Geometry) (s start stop : ℕ) : Type 0 where
  pub start_is : start ≡ s * g.ways
  pub stop_is : stop ≡ start + g.ways
  pub stop_le : stop ≤ g.sets * g.ways

-- Work by a call on the row of set s, whose tags it is lent and the rest given: what it answers and leaves is answered and put back.
pub record RowCalled (post : MutBor (List ℕ) → Lines → Done → MutBor (List ℕ) → Type 0) (W s : ℕ) (a : Answer) (before after : Tables) : Type 0 where
  pub lent : MutBor (List ℕ)
  pub left : MutBor (List ℕ)
  pub done : Done
  pub shows : lent.now ≡ (row_at W s before).tags
  pub met : post lent (lines_of (row_at W s before)) done left
  pub put : RowWork a after (on_row W s (λ _. effect_of done left.now) before)

-- Where an address's line can be.
pub record PlaceOf (g : Geometry) (address : ℕ) (p : Place) : Type 0 where
  pub set_is : p.set ≡ set_of g address
  pub set_lt : p.set < g.sets
  pub tag_is : p.tag ≡ tag_of g address

-- What a step of one domain gives, with the lent tables, as a deed.
abbrev pub deed_of : Used → Tables → Deed
deed_of u t = record { answer = u.answer; own = u.own; tables = t }

-- The same of a step that may be turned down: then the answer is its number, and the domain's record is as it was.
abbrev pub deed_in : Domain → Result Used Refusal → Tables → Deed
deed_in x (Ok u) t = deed_of u t
deed_in x (Err r) t = record { answer = Refused (number_of r); own = x; tables = t }

-- What such a step answers, and the record of its domain after it.
abbrev pub used_in : Domain → Result Used Refusal → Used
used_in x (Ok u) = u
used_in x (Err r) = record { answer = Refused (number_of r); own = x }

-- The outcome of a step by domain d: the record of that domain put back, or all domains as they were.
abbrev pub outcome_in : ℕ → Domains → Result Used Refusal → Tables → Outcome
outcome_in d ds (Ok u) t = put_deed d (deed_of u t) ds
outcome_in d ds (Err r) t = answers (Refused (number_of r)) (record { tables = t; domains = ds })
