-- `row::flush` meets its contract.
use mathlib.Core.Path.{sym, ap, ◌∙◌}
use Rattle.row.specs.Calls.{told, flush_of}
use Rattle.row.proofs.WorkLaws.{flush_hit, flush_absent}
use Rattle.row.proofs.flush.Goals as goal

pub returns-then-not-is_ways : goal.returns-then-not-is_ways
unfolding flush_of
returns-then-not-is_ways c = rw (sym c.is_ways.ensures ∙ c.if-not-is_ways.true)

pub returns-in-Some : goal.returns-in-Some
unfolding flush_of
returns-in-Some c =
    let a = c.args in
    let found = c.find-found.ensures in
    rw ((sym c.is_ways.ensures ∙ c.if-not-is_ways.false), ← c.as_read-read.ensures)
    (ap told
    (flush_hit c.as_read-read.result a.tag a.tags.now a.lines (rw c.in-Some.is at found.way_value) (rw c.in-Some.is at found.way_bound)
    c.has.ensures c.flushed.ensures))

pub returns-in-None : goal.returns-in-None
unfolding flush_of
returns-in-None c =
    let a = c.args in
    rw ((sym c.is_ways.ensures ∙ c.if-not-is_ways.false), ← c.as_read-read.ensures)
    (ap told (flush_absent c.as_read-read.result a.tag a.tags.now a.lines (rw c.in-None.is at c.find-found.ensures.way_value)))
