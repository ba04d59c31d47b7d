-- Run, struck-out list, answers and verdicts are those of the theorem `isolation`.
use mathlib.Core.Path.{◌≡◌, refl, sym, ap, ap₂, subst}
use mathlib.Core.Bool.{cond}
use mathlib.Core.List.{List, [], ◌∷◌, map}
use Prim.Native.Nat.{ℕ}
use lib.Dec.{eqb, ltb}
use borrow.Author.Tests.{eqb-true, ne_eqb}
use Rattle.waymap.proofs.Booleans.{cases}
use Rattle.command.specs.Command.{Command}
use Rattle.geometry.specs.declared.Geometry.{Geometry}
use Rattle.steps.specs.Step.{State, step}
use Rattle.steps.specs.Run.{step_on, answers_of, finally}
use Rattle.steps.specs.Statements.{PolicyAnswered, changed, turned_down}
use Rattle.steps.proofs.AnswerLaws.{policy_answer}
use Rattle.purge.specs.Purge.{keeps, purge}
use Rattle.isolation.specs.StruckOut as Iso
use Rattle.demand.specs.Demand.{events, end, struck_out, own_answers, Verdict, accepted, refused, verdict_of, verdicts}
use Rattle.demand.specs.Statements.{EndIs, StruckIs}

pub struck_is : StruckIs
unfolding struck_out purge keeps
struck_is d [] = refl
struck_is d (c ∷ cs) =
    let more = ap (λ (l : List Command). c ∷ l) (struck_is d cs) in
    cases (ltb c.kind 4)
    (λ t. cases (eqb c.domain d) (λ u. rw (t, u) more) (λ u. rw (t, u) (struck_is d cs)))
    (λ t. cases (eqb c.domain d) (λ u. rw (t, u) more) (λ u. rw (t, u) more))

pub end_is : EndIs
unfolding end finally
end_is g [] s = refl
end_is g (c ∷ cs) s = end_is g cs (step_on g c s).state

pub own_is : (g : Geometry) (d : ℕ) (cs : List Command) (s : State) → own_answers d (events g cs s) ≡ Iso.own_answers g d cs s
unfolding own_answers events Iso.own_answers Iso.answers_to answers_of
own_is g d [] s = refl
own_is g d (c ∷ cs) s =
    ap (λ (l : List (List ℕ)). cond (eqb c.domain d) ((step_on g c s).answer ∷ l) l) (own_is g d cs (step_on g c s).state)

-- ---- verdicts

-- What a number says: accepted where it is 0.
pub verdict_in : ℕ → Verdict
verdict_in n = cond (eqb n 0) accepted (refused n)

-- of an answer to a policy change the number tells the verdict, since no refusal has number 0
told : (a : List ℕ) → PolicyAnswered a → verdict_of a ≡ verdict_in (Iso.number_of a)
unfolding verdict_of verdict_in Iso.number_of
told _ (changed n d) = refl
told _ (turned_down n h) = rw (ne_eqb n 0 h)

pub verdicts_are : (g : Geometry) (d : ℕ) (cs : List Command) (s : State) → verdicts d (events g cs s) ≡ map verdict_in (Iso.verdicts g d cs s)
unfolding verdicts events Iso.verdicts Iso.answers_to answers_of
verdicts_are g d [] s = refl
verdicts_are g d (c ∷ cs) s =
    cases (eqb c.kind 16)
    (λ t. rw t
    (cases (eqb c.domain d)
    (λ u. rw u (verdicts_are g d cs (step_on g c s).state))
    (λ u. rw u
    (ap₂ ◌∷◌
    (told (step_on g c s).answer
    (subst (λ (k : ℕ). PolicyAnswered (step g c.domain k c.argument s).answer) (sym (eqb-true c.kind 16 t))
    (policy_answer g c.domain c.argument s)))
    (verdicts_are g d cs (step_on g c s).state)))))
    (λ t. rw t (verdicts_are g d cs (step_on g c s).state))
