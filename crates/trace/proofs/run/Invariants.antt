-- `trace::run` meets its contract. The invariant: the steps to come make the whole.
use Rattle.steps.specs.Step.{tables_of}
use Rattle.cores.specs.Calls.{lent_of}
use Rattle.trace.proofs.RunLaws.{Running}
use Rattle.trace.proofs.run.Given as goal

abbrev pub invariant-loop-i : goal.invariant-loop-i
invariant-loop-i l =
    Running l.g l.file l.steps (lent_of (tables_of l.initial.tags l.initial.valid l.initial.dirty l.initial.words) l.initial.domains l.initial.cores) l.initial.out l.at
    (lent_of (tables_of l.tags l.valid l.dirty l.words) l.domains l.cores) l.out l.next l.i
