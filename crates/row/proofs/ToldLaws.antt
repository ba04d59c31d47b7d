-- Document 01's words tell any two effects apart.
use mathlib.Core.Path.{ap}
use Rattle.command.proofs.AnswerLaws.{answer_injective}
use Rattle.row.specs.Calls.{Told}
use Rattle.row.specs.Statements.{ToldInjective}

pub told_injective : ToldInjective
told_injective e f q =
    let same = answer_injective e.answer f.answer (ap (λ (t : Told). t.answer) q) in
    λ i. record { answer = same i; row = (q i).row }
