-- `trace::text::numbers` meets its contract. The invariant: the numbers to come make the whole.
use Rattle.trace.proofs.TextLaws.{Lining}
use Rattle.trace.proofs.text.numbers.Given as goal

abbrev pub invariant-loop-i : goal.invariant-loop-i
invariant-loop-i l = Lining l.values l.initial.out l.at l.out l.next l.i
