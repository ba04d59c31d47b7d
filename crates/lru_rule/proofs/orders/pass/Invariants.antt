-- `lru_rule::orders::pass` meets its contract. The invariant: so many places, from the oldest down, have been looked at.
use Prim.Native.Nat.{◌-◌}
use Rattle.waymap.specs.Bits.{bit}
use Rattle.lru_rule.proofs.PassLaws.{Passing}
use Rattle.lru_rule.proofs.orders.pass.Given as goal

abbrev pub invariant-loop : goal.invariant-loop
invariant-loop l = Passing l.ways l.word (bit l.map) l.tail l.seen l.rest l.out (l.ways - l.counter)
