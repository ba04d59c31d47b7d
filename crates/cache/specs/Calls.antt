-- What the call of a step gives.
use Rattle.command.specs.Answer.{answer_of}
use Rattle.steps.specs.Tables.{Tables}
use Rattle.steps.specs.Step.{Outcome}
use Rattle.cache.specs.declared.Stepped.{Stepped}

-- Its answer, the domains it gives back, and the lent tables, as an outcome of `step`.
abbrev pub outcome : Stepped → Tables → Outcome
outcome r t = record { answer = answer_of r.answer; state = record { tables = t; domains = r.domains } }
