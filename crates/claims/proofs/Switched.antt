-- The struck-out run where cores switch, point by point, and back.
use mathlib.Core.List.{List}
use Prim.Native.Nat.{ℕ}
use Rattle.command.specs.Command.{Command}
use Rattle.geometry.specs.declared.Geometry.{Geometry}
use Rattle.selectors.specs.Selectors.{fresh_cores}
use Rattle.purge.specs.Purge.{core_purge}
use Rattle.switching.specs.StruckOut.{own_core_answers, core_verdicts, CoreStruckOut, Switching}
use Rattle.switching.specs.Lookups.{own_core_visits, CoreSameLookups, CoreLookups}
use Rattle.switching.proofs.Switching.{switching}
use Rattle.switching.proofs.Lookups.{core_lookups}
use Rattle.cores.specs.Run.{fresh_lent}
use Rattle.claims.specs.Switched.{Switched, Struck}

pub struck : Switching → CoreLookups → Struck
unfolding own_core_answers core_verdicts own_core_visits fresh_lent
struck claim seen g limits d low n few cs =
    let one = claim g limits d low n few cs in
    let two = seen g limits d low n few cs in
    let ends = one.finally_same in
    record {
      steps = cc one.steps_same;
      answers = cc one.answers_same;
      numbers = cc one.verdicts_same;
      domain = cc ends.domain;
      valid = λ i w h t. cc ((ends.sets i h).lines w t).valid;
      dirty = λ i w h t. cc ((ends.sets i h).lines w t).dirty;
      tags = λ i w h t. cc ((ends.sets i h).lines w t).tag;
      cells = λ i h c t. cc ((ends.sets i h).own c t);
      records = cc one.records_same;
      visits = cc two.visits_same;
      lookups = λ address. cc (two.answer_same address);
      visited = λ address. cc (two.visited_same address);
    }

pub struck_back : Struck → Switching
unfolding own_core_answers core_verdicts fresh_lent
struck_back said g limits d low n few cs =
    let one = said g limits d low n few cs in
    record {
      steps_same = one.steps;
      answers_same = one.answers;
      verdicts_same = one.numbers;
      finally_same = record {
        domain = one.domain;
        sets = λ i h. record {
          lines = λ w t. record { valid = one.valid i w h t; dirty = one.dirty i w h t; tag = one.tags i w h t };
          own = one.cells i h;
        };
      };
      records_same = one.records;
    }

pub lookups_back : Struck → CoreLookups
unfolding own_core_visits
lookups_back said g limits d low n few cs =
    let one = said g limits d low n few cs in
    record { visits_same = one.visits; answer_same = one.lookups; visited_same = one.visited }

pub switching_holds : Struck
switching_holds = struck switching core_lookups
