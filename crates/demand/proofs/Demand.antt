-- Demand 3, in document 01's own terms.
use mathlib.Core.Path.{◌≡◌, sym, ap, ◌∙◌}
use mathlib.Core.Bool.{true}
use mathlib.Core.List.{List, map}
use Prim.Native.Nat.{ℕ, ◌<◌}
use Rattle.command.specs.Command.{Command}
use Rattle.geometry.specs.Geometry.{within}
use Rattle.geometry.specs.declared.Geometry.{Geometry}
use Rattle.steps.specs.Step.{State}
use Rattle.steps.specs.Run.{finally}
use Rattle.steps.specs.Fresh as Fresh
use Rattle.steps.proofs.RunLaws.{run_kept}
use Rattle.purge.specs.Purge.{purge}
use Rattle.isolation.specs.StruckOut.{StruckOut}
use Rattle.isolation.proofs.Isolation.{isolation}
use Rattle.demand.specs.Demand.{Limits, fresh, events, end, struck_out, seen, seen_in, WellFormed, Demand3}
use Rattle.demand.proofs.OrderLaws.{orders_last}
use Rattle.demand.proofs.LimitLaws.{ways_sized, within_limits, fresh_is}
use Rattle.demand.proofs.RunLaws.{struck_is, end_is, own_is, verdict_in, verdicts_are}
use Rattle.demand.proofs.SeenLaws.{domain_same, lines_same, bits_same, pairs_same, is_well_formed}

module _ (g : Geometry) (l : Limits g) (d : ℕ) where
  limits : within g ≡ true
  limits = within_limits g l

  abbrev start : State
  start = Fresh.fresh g

  -- what is seen in a run, by the run that the theorem speaks of
  seen_is : (cs : List Command) → seen_in g d cs ≡ seen g d (events g cs start) (finally g cs start)
  unfolding seen_in
  seen_is cs =
      ap (λ (s : State). seen g d (events g cs s) (end g cs s)) (fresh_is g l) ∙ ap (seen g d (events g cs start)) (end_is g cs start)

  formed : (cs : List Command) → WellFormed g d (end g cs (fresh g))
  formed cs = rw (fresh_is g l, end_is g cs start) (is_well_formed g limits d (finally g cs start) (run_kept g limits cs) (orders_last g limits cs))

  module _ (low : d < 16) (cs : List Command) where
    claim : StruckOut g d cs
    claim = isolation g limits d low cs

    ends_same : seen g d (events g cs start) (finally g cs start) ≡ seen g d (events g (purge d cs) start) (finally g (purge d cs) start)
    unfolding seen
    ends_same =
        let a = finally g cs start in
        let b = finally g (purge d cs) start in
        λ i. record {
          answers = (own_is g d cs start ∙ claim.answers_same ∙ sym (own_is g d (purge d cs) start)) i;
          verdicts = (verdicts_are g d cs start ∙ ap (map verdict_in) claim.verdicts_same ∙ sym (verdicts_are g d (purge d cs) start)) i;
          domain = domain_same g limits d a b (run_kept g limits cs) claim.finally_same i;
          lines = lines_same g limits d a b (run_kept g limits cs) claim.finally_same i;
          bits = bits_same g limits d a b (run_kept g limits cs) claim.finally_same (ways_sized g l) l.rule_known i;
          pairs = pairs_same g limits d a b (run_kept g limits cs) claim.finally_same i;
        }

    seen_same : seen_in g d cs ≡ seen_in g d (struck_out d cs)
    seen_same = seen_is cs ∙ ends_same ∙ sym (seen_is (purge d cs)) ∙ ap (seen_in g d) (sym (struck_is d cs))

-- Demand 3. For every geometry within the limits, every domain and every list of steps whatever they name and ask for: what the domain is told
-- and sees is the same in the run of the list and in the run of the struck-out list.
pub demand : Demand3
demand g l d low cs = record { same = cc (seen_same g l d low cs); well_formed = formed g l d cs; well_formed_too = formed g l d (struck_out d cs) }
