-- Steps that name no core: where at most 32 records are lent, they are the cache's, and leave the records.
use mathlib.Core.Path.{refl, ap}
use mathlib.Core.List.{List, [], ◌∷◌}
use Prim.Native.Nat.{ℕ}
use lib.Dec.{eqb}
use lib.ListN.{length}
use borrow.Author.Tests.{eqb-false, le-ltb}
use Rattle.waymap.proofs.Booleans.{cases}
use Rattle.geometry.specs.Geometry.{sizes_of}
use Rattle.selectors.specs.Selectors.{max_cores, records_by}
use Rattle.selectors.proofs.MeantLaws.{other_meant, coreless_next}
use Rattle.steps.specs.Tables.{lengths}
use Rattle.steps.specs.Run.{step_on, answers_of, finally}
use Rattle.cores.specs.Step.{answer_by, cache_by, lent_refusal, core_step}
use Rattle.cores.specs.Run.{core_answers, core_finally}
use Rattle.cores.specs.Statements.{beside, OtherStep, OthersAnswers, OthersFinally}
use Rattle.cores.proofs.TurnLaws.{unsized_step}

-- on tables and domains of any content, and records of any content
pub other_step : OtherStep
unfolding core_step lent_refusal answer_by cache_by records_by
other_step g c x other few =
    let sizes = sizes_of g (lengths x.cache.tables) in
    cases (eqb sizes 0)
    (λ t. rw (t, le-ltb max_cores (length x.cores) few, other_meant x.cores c other))
    (λ t. rw (t, t, unsized_step g c x.cache (eqb-false sizes 0 t)))

pub others_answers : OthersAnswers
unfolding core_answers answers_of
others_answers g [] x none few = refl
others_answers g (c ∷ cs) x none few =
    let first = coreless_next c cs none in
    rw (other_step g c x first.0 few)
    (ap (λ (l : List (List ℕ)). (step_on g c x.cache).answer ∷ l) (others_answers g cs (beside x (step_on g c x.cache)).lent first.1 few))

pub others_finally : OthersFinally
unfolding core_finally finally
others_finally g [] x none few = refl
others_finally g (c ∷ cs) x none few =
    let first = coreless_next c cs none in
    rw (other_step g c x first.0 few) (others_finally g cs (beside x (step_on g c x.cache)).lent first.1 few)
