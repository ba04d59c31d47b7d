-- What locking is for, as one theorem.
use mathlib.Core.Path.{◌≡◌, refl}
use mathlib.Core.Bool.{true}
use mathlib.Core.List.{List}
use Prim.Native.Nat.{ℕ, ◌-◌, ◌<◌}
use native.Mathlib.Nat.{zero-add}
use native.Mathlib.Omega.{arith}
use lib.ListN.{length}
use Rattle.command.specs.Command.{Command}
use Rattle.row.proofs.LineLaws.{same_line, line_match}
use Rattle.geometry.specs.Geometry.{within}
use Rattle.geometry.specs.declared.Geometry.{Geometry}
use Rattle.steps.specs.Tables.{row_at}
use Rattle.steps.specs.Step.{State}
use Rattle.steps.specs.Run.{finally}
use Rattle.steps.specs.Fresh.{fresh}
use Rattle.locking.specs.Locked.{is_locked}
use Rattle.locking.specs.Locking.{Stands, Unspent, rest, Unsteered, LockedLines}
use Rattle.reached.specs.Reached.{Reached}
use Rattle.reached.proofs.Reached.{run_reached, reached_whole}
use Rattle.locking.proofs.HoldLaws.{stays_over, hits_over}
use Rattle.locking.proofs.NearLaws.{Near}
use Rattle.locking.proofs.SteerLaws.{along}

module _ (g : Geometry) (limits : within g ≡ true) (d : ℕ) (low : d < 16) where
  -- a state is near itself
  near_itself : (s : State) → Reached g s → Near g limits d low 0 s s
  near_itself s r = record {
    whole_a = reached_whole g limits s r;
    whole_b = reached_whole g limits s r;
    policy_same = λ e. refl;
    maps_same = refl;
    counts_same = record { hits = omega arith; misses = refl; evicted = refl; written = refl; flushed = refl; fills = refl; dropped = refl };
    rows = λ i h. record {
      matches = λ w t. line_match (same_line (row_at g.ways i s.tables) w);
      marks = λ w t u. refl;
      own = λ x t. refl;
    };
  }

  unsteered_from : (cs : List Command) (s : State) → Reached g s → Stands g d (is_locked g d s) cs s → Unspent g d cs s → Unsteered g d cs s
  unsteered_from cs s r stands unspent =
      let runs = along g limits d low s cs s s 0 r r (near_itself s r) (λ address. refl) stands unspent in
      record {
        answers_same = runs.answers_same;
        maps_same = runs.ends_near.maps_same;
        counts_same = rw (zero-add (length cs - length (rest g d s cs))) at runs.ends_near.counts_same;
        sets_same = runs.ends_near.rows;
      }

-- Locking. For every geometry within the limits, every domain, every state that a run from a fresh cache reaches, and every further list of steps, by
-- anybody: a locked line stays while the domain lets it stand, the domain's accesses to it hit, and they steer nothing.
pub locking : LockedLines
locking g limits d low past cs = record {
  stays = λ address w here stands. stays_over g limits d low address w cs (finally g past (fresh g)) (run_reached g past) here stands;
  hits = λ address w here stands unspent.
      hits_over g limits d low address w cs (finally g past (fresh g)) (run_reached g past) here stands unspent;
  unsteered = unsteered_from g limits d low cs (finally g past (fresh g)) (run_reached g past);
}
