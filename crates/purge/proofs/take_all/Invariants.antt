-- `purge::take_all` meets its contract. The invariant: the steps taken so far, the records, and what the steps to come will add.
use lib.ListN.{length}
use Rattle.purge.proofs.TakeLaws.{Taking}
use Rattle.purge.proofs.take_all.Given as goal

abbrev pub invariant-loop-code : goal.invariant-loop-code
invariant-loop-code l =
    Taking l.domain l.codes l.arguments l.initial.kept_codes l.initial.kept_arguments l.kept_codes l.kept_arguments l.cores l.count (length l.yielded)
