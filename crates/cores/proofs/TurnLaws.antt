-- A step of one core's record, by the way that the code takes.
use mathlib.Core.Path.{◌≡◌, refl, sym, ap, ◌∙◌}
use mathlib.Core.Bool.{Bool, true, false, cond, true≢false}
use Prim.Native.Nat.{ℕ}
use lib.Dec.{eqb, ltb}
use borrow.Author.Tests.{eq-eqb, ne_eqb, eqb-false}
use Rattle.waymap.proofs.Booleans.{cases}
use Rattle.command.specs.Command.{Command}
use Rattle.std.specs.Prelude.{Result, Ok, Err}
use Rattle.command.specs.Refusal.{number_in}
use Rattle.command.proofs.RefusalLaws.{number_some}
use Rattle.command.specs.declared.Refusal.{Refusal}
use Rattle.command.specs.Answer.{answer_of}
use Rattle.command.specs.declared.Answer.TheVariants.{Refused}
use Rattle.geometry.specs.Geometry.{sizes_of}
use Rattle.geometry.specs.declared.Geometry.{Geometry}
use Rattle.verdict.proofs.RefusalLaws.{by_sizes}
use Rattle.domains.specs.Domains.{domain_of, policies}
use Rattle.selectors.specs.Selectors.{max_cores, Meant, plain, select, refused, meant_by, record_by}
use Rattle.selectors.specs.Calls.{meaning_is}
use Rattle.selectors.specs.declared.Meaning.TheVariants.{Plain, Select}
use Rattle.selectors.specs.declared.Meaning.{Meaning}
use Rattle.selectors.specs.declared.Core.{Core}
use Rattle.steps.specs.Tables.{lengths}
use Rattle.steps.specs.Step.{State, Outcome, answers, drops_of, decided, step}
use Rattle.steps.specs.Run.{step_on}
use Rattle.cores.specs.Step.{answer_by, cache_by, lent_refusal}
use Rattle.cores.specs.Calls.{Turn, turn_of, turn_is}
use Rattle.cores.specs.Inside.{settled}
use Rattle.cores.specs.declared.Turned.{Turned}

-- A step on a geometry outside the limits, or on tables of other lengths, is turned down by 1 or 2, whatever it asks for.
pub unsized_step : (g : Geometry) (c : Command) (s : State) → (sizes_of g (lengths s.tables) ≡ 0 → ⊥)
    → step_on g c s ≡ answers (Refused (sizes_of g (lengths s.tables))) s
unfolding decided step
unsized_step g c s h =
    let number = sizes_of g (lengths s.tables) in
    rw (
      ← (by_sizes g (lengths s.tables) (policies g.ways s.domains) (domain_of s.domains c.domain).counts
          (drops_of g c.domain c.argument s) c.domain c.kind c.argument refl h),
      ne_eqb number 0 h,
    )

-- a refusal, and its number
is_refused : Meant → Bool
is_refused (plain c) = false
is_refused (select core) = false
is_refused (refused n) = true

number_told : Meant → ℕ
number_told (plain c) = 0
number_told (select core) = 0
number_told (refused n) = n

module _ (g : Geometry) (c : Command) (count : ℕ) (core : Core) (s : State) where
  abbrev sizes : ℕ
  sizes = sizes_of g (lengths s.tables)

  abbrev unmoved : ℕ → Turn
  unmoved n = record { answer = answer_of (Refused n); cache = s; core = core }

  abbrev same : Outcome → Turn
  same y = record { answer = y.answer; cache = y.state; core = core }

  -- more than 32 records: 1 or 2, else 11
  lent_many : ltb max_cores count ≡ true → lent_refusal g (lengths s.tables) count ≡ cond (eqb sizes 0) 11 sizes
  unfolding lent_refusal
  lent_many many = rw many

  -- no more than 32: 1 or 2
  lent_few : ltb max_cores count ≡ false → lent_refusal g (lengths s.tables) count ≡ cond (eqb sizes 0) 0 sizes
  unfolding lent_refusal
  lent_few few = rw few

  -- 1 or 2, whatever it is
  unsized : (sizes ≡ 0 → ⊥) → unmoved sizes ≡ turn_of g c count core s
  unfolding turn_of
  unsized h =
      let some : eqb sizes 0 ≡ false = ne_eqb sizes 0 h in
      cases (ltb max_cores count)
      (λ t. rw (lent_many t, some, some))
      (λ t. rw (lent_few t, some, some))

  -- ---- by what the step means

  abbrev asked : Meant
  asked = meant_by (ltb c.domain count) core c

  module _ (r : Result Meaning Refusal) (means : meaning_is r ≡ cond (ltb max_cores count) (refused 11) asked) where
    -- what is not refused: there are no more than 32
    few : is_refused (meaning_is r) ≡ false → ltb max_cores count ≡ false
    unfolding is_refused
    few other = cases (ltb max_cores count)
        (λ t. let eleven = rw t at means in absurd (true≢false (sym (ap is_refused eleven) ∙ other)))
        (λ t. t)

    asked_is : ltb max_cores count ≡ false → meaning_is r ≡ asked
    asked_is t = rw t at means

    pub refuses : {A : Type 0} {q : Refusal} {t : Turned} (sized : Result A Refusal) → r ≡ Err q → number_in sized ≡ sizes
        → t ≡ settled sized (Err q) s.domains core → turn_is t s.tables ≡ turn_of g c count core s
    unfolding turn_of answer_by cache_by record_by number_told
    refuses {q = q} (Ok x) known is e =
        let z : eqb sizes 0 ≡ true = eq-eqb sizes 0 (sym is) in
        rw e (cases (ltb max_cores count)
        (λ t. let eleven = rw (t, known) at means in rw (lent_many t, z) (ap unmoved (ap number_told eleven)))
        (λ t. rw (lent_few t, z, ← (asked_is t), known)))
    refuses (Err p) known is e = rw (e, is) (unsized (λ n. number_some p (is ∙ n)))

    pub selects : {A : Type 0} {k : Core} {t : Turned} (sized : Result A Refusal) → r ≡ Ok (Select k) → number_in sized ≡ sizes
        → t ≡ settled sized (Ok k) s.domains core → turn_is t s.tables ≡ turn_of g c count core s
    unfolding turn_of answer_by cache_by record_by is_refused
    selects (Ok x) known is e =
        let low = few (rw known) in
        let z : eqb sizes 0 ≡ true = eq-eqb sizes 0 (sym is) in
        rw (e, lent_few low, z, ← (asked_is low), known)
    selects (Err p) known is e = rw (e, is) (unsized (λ n. number_some p (is ∙ n)))

    -- a step of the cache, which itself tells 1 and 2
    pub steps : {d k a : ℕ} {x : Outcome} → r ≡ Ok (Plain d k a) → x ≡ step_on g (record { domain = d; kind = k; argument = a }) s
        → same x ≡ turn_of g c count core s
    unfolding turn_of answer_by cache_by record_by is_refused
    steps {d} {k} {a} {x} known e =
        let low = few (rw known) in
        cases (eqb sizes 0)
        (λ z. rw (lent_few low, z, ← (asked_is low), known) (ap same e))
        (λ z. ap same (e ∙ unsized_step g (record { domain = d; kind = k; argument = a }) s (eqb-false sizes 0 z)) ∙ unsized (eqb-false sizes 0 z))
