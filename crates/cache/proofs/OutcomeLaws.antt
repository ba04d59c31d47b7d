-- The contract of `step` settles its whole answer.
use mathlib.Core.Path.{◌≡◌, refl, ap, ◌∙◌}
use Prim.Native.Nat.{ℕ}
use Rattle.std.specs.Prelude.{Result, Ok, Err}
use Rattle.command.specs.declared.Refusal.{Refusal}
use Rattle.command.proofs.AnswerLaws.{answer_injective}
use Rattle.domains.specs.Domains.{domain_of}
use Rattle.domains.specs.declared.Domain.{Domain}
use Rattle.domains.specs.declared.Domains.{Domains}
use Rattle.steps.specs.Tables.{Tables}
use Rattle.steps.specs.Step.{Outcome}
use Rattle.steps.specs.Deed.{Deed, put_deed}
use Rattle.cache.specs.Inside.{deed_of, deed_in, used_in, outcome_in}
use Rattle.cache.specs.Statements.{OutcomeInjective}
use Rattle.cache.specs.declared.account.Used.{Used}

pub outcome_injective : OutcomeInjective
outcome_injective r s t u e =
    let same = answer_injective r.answer s.answer (ap (λ (o : Outcome). o.answer) e) in
    ((λ i. record { answer = same i; domains = (e i).state.domains }), ap (λ (o : Outcome). o.state.tables) e)

-- What a step that the verdict may turn down answers, and its record after it, make the same deed.
pub settled_deed : (x : Domain) (r : Result Used Refusal) (t : Tables) → deed_of (used_in x r) t ≡ deed_in x r t
settled_deed x (Ok u) t = refl
settled_deed x (Err r) t = refl

-- The record that was taken out is put back, as it was where the verdict turned the step down.
pub outcome_settled : (d : ℕ) (ds : Domains) (r : Result Used Refusal) (t : Tables) {u : Used} → u ≡ used_in (domain_of ds d) r
    → outcome_in d ds (Ok u) t ≡ put_deed d (deed_in (domain_of ds d) r t) ds
outcome_settled d ds r t {u} e =
    ap (λ (v : Used). put_deed d (deed_of v t) ds) e ∙ ap (λ (x : Deed). put_deed d x ds) (settled_deed (domain_of ds d) r t)
