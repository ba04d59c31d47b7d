-- `trace::lines::part` meets its contract.
use native.Mathlib.Omega.{arith}
use Rattle.trace.specs.Inside.{written_of}
use Rattle.trace.proofs.LineLaws.{part_none, part_some}
use Rattle.trace.proofs.lines.part.Goals as goal

pub returns-then-read-eq0 : goal.returns-then-read-eq0
returns-then-read-eq0 c =
    let given = c.args in
    record {
      out_after = part_none given.ways given.number given.own (written_of given.at given.out.now)
          (rw c.maps.ensures at c.as_read-read.ensures) c.if-read-eq0.true;
      upper_bound = omega arith;
    }

pub returns : goal.returns
returns c =
    let given = c.args in
    let named = c.domain in
    record {
      out_after = part_some given.ways given.number given.own (written_of given.at given.out.now)
          (rw c.maps.ensures at c.as_read-read.ensures) c.if-read-eq0.false named.ensures.out_after;
      upper_bound = named.ensures.upper_bound;
    }
