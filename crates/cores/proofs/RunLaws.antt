-- A run where core records are lent is a run of the cache: that of the steps which its steps mean.
use mathlib.Core.Path.{◌≡◌, refl, ap, ◌∙◌}
use mathlib.Core.Bool.{true}
use mathlib.Core.List.{List, [], ◌∷◌}
use Prim.Native.Nat.{ℕ}
use lib.ListN.{length, length-set, length-replicate}
use borrow.Author.Tests.{le-ltb}
use Rattle.command.specs.Command.{Command}
use Rattle.geometry.specs.Geometry.{within, sizes_of}
use Rattle.geometry.specs.declared.Geometry.{Geometry}
use Rattle.selectors.specs.Selectors.{
  max_cores,
  no_core,
  Meant,
  plain,
  select,
  refused,
  meant,
  records_by,
  records_after,
  records_finally,
  plain_by,
  plain_steps,
}
use Rattle.selectors.specs.declared.Core.{Core}
use Rattle.steps.specs.Tables.{lengths}
use Rattle.steps.specs.Step.{State}
use Rattle.steps.specs.Run.{finally}
use Rattle.steps.proofs.StateLaws.{whole_sized}
use Rattle.steps.specs.Statements.{Kept}
use Rattle.steps.proofs.RunLaws.{fresh_kept, kept_lasts}
use Rattle.cores.specs.Step.{Lent, Result, answer_by, cache_by, lent_refusal, core_step}
use Rattle.cores.specs.Run.{core_finally, fresh_lent}
use Rattle.cores.specs.Statements.{Standing, FreshStanding, StepStanding, RunPlain}

-- fresh, lent n fresh records
pub fresh_standing : FreshStanding
unfolding fresh_lent
fresh_standing g limits n h = record { kept = fresh_kept g limits; few = rw (length-replicate n no_core) h }

-- ---- one step

module _ (g : Geometry) (limits : within g ≡ true) where
  -- what a step gives by its meaning
  abbrev by_meaning : Meant → Command → Lent → Result
  by_meaning m c x = record {
    answer = answer_by m g x.cache;
    lent = record { cache = cache_by m g x.cache; cores = records_by m c.domain x.cores };
  }

  module _ (x : Lent) (s : Standing g limits x) (c : Command) where
    no_refusal : lent_refusal g (lengths x.cache.tables) (length x.cores) ≡ 0
    unfolding lent_refusal sizes_of
    no_refusal = rw (limits, whole_sized g x.cache s.kept.whole, le-ltb max_cores (length x.cores) s.few)

    -- neither geometry, lengths nor number of records turn it down
    pub step_means : core_step g c x ≡ by_meaning (meant x.cores c) c x
    unfolding core_step
    step_means = rw no_refusal

  -- what it leaves stands
  cache_kept : (m : Meant) (s : State) → Kept g limits s → Kept g limits (cache_by m g s)
  unfolding cache_by finally
  cache_kept (plain o) s k = kept_lasts g limits (o ∷ []) s k
  cache_kept (select core) s k = k
  cache_kept (refused n) s k = k

  records_long : (m : Meant) (i : ℕ) (cores : List Core) → length (records_by m i cores) ≡ length cores
  unfolding records_by
  records_long (plain o) i cores = refl
  records_long (select core) i cores = length-set cores i core
  records_long (refused n) i cores = refl

  -- the steps that follow, from what a step leaves
  finally_by : (m : Meant) (cs : List Command) (s : State) → finally g cs (cache_by m g s) ≡ finally g (plain_by m cs) s
  unfolding cache_by plain_by finally
  finally_by (plain o) cs s = refl
  finally_by (select core) cs s = refl
  finally_by (refused n) cs s = refl

pub step_standing : StepStanding
step_standing g limits x s c =
    let m = meant x.cores c in
    rw (step_means g limits x s c)
    (record { kept = cache_kept g limits m x.cache s.kept; few = rw (records_long g limits m c.domain x.cores) s.few })

-- ---- a run

-- The cache at the end is that of the run of the steps meant, and the records are those of the steps alone: no table and no domain has a hand in them.
pub run_plain : RunPlain
unfolding core_finally finally plain_steps records_finally records_after
run_plain g limits [] x s = refl
run_plain g limits (c ∷ cs) x s =
    let m = meant x.cores c in
    let next = records_by m c.domain x.cores in
    run_plain g limits cs (core_step g c x).lent (step_standing g limits x s c)
    ∙ ap (λ (r : Result). record { cache = finally g (plain_steps r.lent.cores cs) r.lent.cache; cores = records_finally r.lent.cores cs })
    (step_means g limits x s c)
    ∙ ap (λ (t : State). record { cache = t; cores = records_finally next cs }) (finally_by g limits m (plain_steps next cs) x.cache)
