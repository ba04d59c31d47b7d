-- The contract of `cores::step`, which takes a slice of structs. It asks nothing, and settles answer, domains, tables and records by one equation, whatever
-- the logic's model is: clause by clause, and in the form of the others.
use mathlib.Core.Path.{◌≡◌, refl}
use seplogic.Ra.Ura.{Ura}
use base.Logic.{SProp}
use prog.Memory.{Memory}
use prog.Routine.{Routine}
use types.Logic.{Logic}
use contract.Monad.{Fun}
use contract.Notation as Notation
use denote.Triple.Clauses.{Clauses}
use Rattle.contracts.proofs.Exactly.{exactly}
use Rattle.contracts.specs.Contract.{Held}
use Rattle.steps.specs.Step.{tables_of}
use Rattle.cores.specs.Step.{core_step}
use Rattle.cores.specs.Calls.{lent_of, result_of}
use Rattle.cores.specs.contracts.step as Step
use Rattle.cores.proofs.step.Reads as CoresStep

module _ {M : Type 1} {𝓤 : Ura M} (𝓛 : Logic 𝓤) (mem : Memory → SProp 𝓤) (run : Routine → Fun 𝓤) where
  abbrev 𝓝 : Notation.Connectives 𝓤
  𝓝 = Notation.connectives 𝓤

  open 𝓝 use {⌜◌⌝, ⊤ₛ}

  pub cores_step : ◌≡◌ {A = Clauses 𝓤 Step.ended} (Step.clauses 𝓛 mem run) (λ κs a. record {
    ghost = Unit {0};
    requires = λ _. ⊤ₛ;
    ensures = λ _ r e.
        let g = a.0 in
        let tables = tables_of a.1.0.now a.1.1.0.now a.1.1.1.0.now a.1.1.1.1.0.now in
        let tables' = tables_of e.1.0.now e.1.1.0.now e.1.1.1.0.now e.1.1.1.1.0.now in
        let domains = a.1.1.1.1.1.0 in
        let cores = a.1.1.1.1.1.1.0 in
        let cores' = e.1.1.1.1.1.1.0 in
        let named = a.1.1.1.1.1.1.1.0 in
        let kind = a.1.1.1.1.1.1.1.1.0 in
        let argument = a.1.1.1.1.1.1.1.1.1.0 in
        ⌜ result_of r tables' cores'.now ≡ core_step g (record { domain = named; kind = kind; argument = argument }) (lent_of tables domains cores.now) ⌝;
  })
  cores_step = refl

pub cores_step_held : Held CoresStep.Asked CoresStep.Learnt
    (λ κs a r e.
    let g = a.0 in let tags = a.1.0 in let tags' = e.1.0 in let valid = a.1.1.0 in let valid' = e.1.1.0 in
    let dirty = a.1.1.1.0 in let dirty' = e.1.1.1.0 in let words = a.1.1.1.1.0 in let words' = e.1.1.1.1.0 in
    let domains = a.1.1.1.1.1.0 in let cores = a.1.1.1.1.1.1.0 in let cores' = e.1.1.1.1.1.1.0 in
    let named = a.1.1.1.1.1.1.1.0 in let kind = a.1.1.1.1.1.1.1.1.0 in let argument = a.1.1.1.1.1.1.1.1.1.0 in
    result_of r (tables_of tags'.now valid'.now dirty'.now words'.now) cores'.now
    ≡ core_step g (record { domain = named; kind = kind; argument = argument })
    (lent_of (tables_of tags.now valid.now dirty.now words.now) domains cores.now))
cores_step_held = exactly
