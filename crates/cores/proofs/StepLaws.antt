-- A step of one core's record, put back where the records are lent, is the step.
use mathlib.Core.Path.{◌≡◌, ap, ◌∙◌}
use Prim.Native.Nat.{ℕ, ◌%◌}
use lib.Dec.{eqb}
use lib.ListN.{length, get_or, set}
use lib.Seq.{set-get_or}
use Rattle.waymap.proofs.Booleans.{cases}
use Rattle.command.specs.Command.{Command}
use Rattle.geometry.specs.declared.Geometry.{Geometry}
use Rattle.selectors.specs.Selectors.{max_cores, no_core, meant, records_after}
use Rattle.selectors.proofs.PlaceLaws.{put_record, place_meant, place_records}
use Rattle.steps.specs.Tables.{lengths}
use Rattle.cores.specs.Step.{Lent, Result, lent_refusal, core_step}
use Rattle.cores.specs.Calls.{Turn, turn_of}
use Rattle.cores.specs.Statements.{TurnedStep, PlacedStep}

module _ (g : Geometry) (c : Command) (x : Lent) where
  -- what a step of the named core's record gives, with the record put back: where the core is not in the list, no record changes
  abbrev put : Turn → Result
  put t = record { answer = t.answer; lent = record { cache = t.cache; cores = set x.cores c.domain t.core } }

  pub put_step : put (turn_of g c (length x.cores) (get_or x.cores c.domain no_core) x.cache) ≡ core_step g c x
  unfolding turn_of core_step meant
  put_step =
      cases (eqb (lent_refusal g (lengths x.cache.tables) (length x.cores)) 0)
      (λ t. rw (t, put_record (meant x.cores c) c.domain x.cores))
      (λ t. rw (t, set-get_or x.cores c.domain no_core))

  -- The same of a list of 32 records, at the core's number modulo 32: a core that is not in the list leaves what stands there.
  module _ (long : length x.cores ≡ max_cores) where
    abbrev place : ℕ
    place = c.domain % max_cores

    abbrev put_at : Turn → Result
    put_at t = record { answer = t.answer; lent = record { cache = t.cache; cores = set x.cores place t.core } }

    put_placed : put_at (turn_of g c max_cores (get_or x.cores place no_core) x.cache) ≡ core_step g c x
    unfolding turn_of core_step records_after
    put_placed =
        rw long
        (cases (eqb (lent_refusal g (lengths x.cache.tables) max_cores) 0)
        (λ t. rw (t, place_records x.cores long c, place_meant x.cores long c))
        (λ t. rw (t, set-get_or x.cores place no_core)))

pub turned_step : TurnedStep
turned_step g c x r t e = ap (put g c x) e ∙ put_step g c x

pub placed_step : PlacedStep
placed_step g c x long p r t here e =
    rw here
    (ap (put_at g c x long) (e ∙ ap (λ (q : ℕ). turn_of g c max_cores (get_or x.cores q no_core) x.cache) here) ∙ put_placed g c x long)
