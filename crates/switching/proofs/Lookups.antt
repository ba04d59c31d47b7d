-- Lookups in the run and in the struck-out run, where core records are lent: from those of the steps meant.
use mathlib.Core.Path.{◌≡◌, refl, sym, ap, ◌∙◌}
use mathlib.Core.Bool.{Bool, true}
use mathlib.Core.List.{List, [], ◌∷◌}
use Prim.Native.Nat.{ℕ, ◌≤◌, ◌<◌}
use Rattle.command.specs.Command.{Command}
use Rattle.geometry.specs.Geometry.{within}
use Rattle.geometry.specs.declared.Geometry.{Geometry}
use Rattle.selectors.specs.Selectors.{max_cores, fresh_cores, Meant, plain, select, refused, meant, records_after, plain_by, plain_steps}
use Rattle.steps.specs.Step.{State}
use Rattle.steps.specs.Fresh.{fresh}
use Rattle.purge.specs.Purge.{belongs, purge, core_purge}
use Rattle.isolation.specs.Lookups.{visits_of, along, own_visits, SameLookups}
use Rattle.isolation.proofs.Lookups.{lookups}
use Rattle.cores.specs.Step.{Lent, cache_by, core_step}
use Rattle.cores.specs.Run.{fresh_lent}
use Rattle.cores.specs.Statements.{Standing}
use Rattle.cores.proofs.RunLaws.{step_means, step_standing, run_plain}
use Rattle.switching.specs.Lookups.{along_by, core_along, own_core_visits, CoreLookups}
use Rattle.switching.proofs.Switching.{stands, meant_purged}

module _ (g : Geometry) (limits : within g ≡ true) {A : Type 0} (p : Command → Bool) (f : Command → State → A) where
  -- from one step on, by what it means
  along_by_lem : (m : Meant) (cs : List Command) (s : State) → along g p f (plain_by m cs) s ≡ along_by p f m s (along g p f cs (cache_by m g s))
  unfolding along along_by cache_by plain_by
  along_by_lem (plain c) cs s = refl
  along_by_lem (select core) cs s = refl
  along_by_lem (refused n) cs s = refl

  -- What is said along a run is what is said along the run of the steps meant.
  along_plain : (cs : List Command) (x : Lent) → Standing g limits x → core_along g p f cs x ≡ along g p f (plain_steps x.cores cs) x.cache
  unfolding core_along plain_steps records_after along
  along_plain [] x s = refl
  along_plain (c ∷ cs) x s =
      let m = meant x.cores c in
      let later = along_plain cs (core_step g c x).lent (step_standing g limits x s c) in
      let next = rw (step_means g limits x s c) at later in
      rw (step_means g limits x s c) (ap (along_by p f m x.cache) next ∙ sym (along_by_lem m (plain_steps (records_after x.cores c) cs) x.cache))

-- Where core records are lent too, the chosen domain's steps visit as many ways in both runs, and its lookups after both are the same.
pub core_lookups : CoreLookups
unfolding own_core_visits own_visits fresh_lent
core_lookups g limits d low n few cs = record {
  visits_same = visited cs ∙ same.visits_same ∙ sym (visited purged ∙ ap visits gone);
  answer_same = λ address. rw (run_plain g limits cs lent standing, run_plain g limits purged lent standing, gone) (same.answer_same address);
  visited_same = λ address. rw (run_plain g limits cs lent standing, run_plain g limits purged lent standing, gone) (same.visited_same address);
}
  where
    lent : Lent
    lent = fresh_lent g n

    standing : Standing g limits lent
    standing = stands g limits d low n few cs

    purged : List Command
    purged = core_purge d (fresh_cores n) cs

    gone : plain_steps (fresh_cores n) purged ≡ purge d (plain_steps (fresh_cores n) cs)
    gone = meant_purged g limits d low n few cs

    same : SameLookups g d (plain_steps (fresh_cores n) cs)
    same = lookups g limits d low (plain_steps (fresh_cores n) cs)

    visits : List Command → List ℕ
    visits bs = along g (belongs d) (visits_of g) bs (fresh g)

    visited : (bs : List Command) → core_along g (belongs d) (visits_of g) bs lent ≡ along g (belongs d) (visits_of g) (plain_steps (fresh_cores n) bs) (fresh g)
    visited bs = along_plain g limits (belongs d) (visits_of g) bs lent standing
