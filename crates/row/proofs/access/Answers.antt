-- `row::access` meets its contract.
use mathlib.Core.Path.{◌≡◌, sym, ap, ◌∙◌}
use mathlib.Core.Bool.{true}
use lib.ListN.{length}
use Rattle.replacement.specs.Calls.{in_limits}
use Rattle.row.specs.Calls.{told, access_of}
use Rattle.row.specs.Inside.{Usable}
use Rattle.row.proofs.RuleLaws.{fill_usable}
use Rattle.row.proofs.WorkLaws.{serve_hit, serve_pass, serve_miss, some_fill, no_fill}
use Rattle.row.proofs.access.Goals as goal
use Rattle.row.proofs.access.Goals.{After-as_read-read}

-- within the limits
limits : (r : After-as_read-read) → in_limits (length r.args.tags.now) r.args.rule ≡ true
limits r = sym r.in_limits.ensures ∙ r.if-not-in_limits.false

-- the fill map as read
usable : (r : After-as_read-read) → Usable (length r.args.tags.now) r.args.rule r.as_read-read.result.fill
usable r = fill_usable (length r.args.tags.now) r.args.rule r.args.maps r.as_read-read.ensures (limits r)

pub returns-then-not-in_limits : goal.returns-then-not-in_limits
unfolding access_of
returns-then-not-in_limits c = rw (sym c.in_limits.ensures ∙ c.if-not-in_limits.true)

pub hit-requires : goal.hit-requires
hit-requires c =
    record {
      usable = usable (goal.at.hit-requires c).After-as_read-read;
      way_lt_ways = rw c.in-Some.is at c.find-found.ensures.way_bound;
    }

pub returns-in-Some : goal.returns-in-Some
unfolding access_of
returns-in-Some c =
    let a = c.args in
    let found = c.find-found.ensures in
    rw (limits (goal.at.returns-in-Some c).After-as_read-read, ← c.as_read-read.ensures)
    (ap told
    (serve_hit a.rule a.tag a.store a.tags.now a.lines c.as_read-read.result (rw c.in-Some.is at found.way_value)
    (rw c.in-Some.is at found.way_bound) c.hit.ensures))

pub returns-in-None : goal.returns-in-None
unfolding access_of
returns-in-None c =
    let a = c.args in
    rw (limits (goal.at.returns-in-None c).After-as_read-read, ← c.as_read-read.ensures)
    (ap told
    (serve_pass a.rule a.tag a.store a.tags.now a.lines c.as_read-read.result (rw c.in-None.is at c.find-found.ensures.way_value)
    (no_fill (length a.tags.now) c.as_read-read.result.fill c.if-fill-eq0.true)))

pub bring-requires : goal.bring-requires
bring-requires c =
    let a = c.args in
    let read = usable (goal.at.bring-requires c).After-as_read-read in
    record {
      usable = read;
      fill_value = some_fill (length a.tags.now) a.rule c.as_read-read.result.fill read c.if-fill-eq0.false;
    }

pub returns-in-None-2 : goal.returns-in-None-2
unfolding access_of
returns-in-None-2 c =
    let a = c.args in
    let past = (goal.at.returns-in-None-2 c).After-as_read-read in
    rw (limits past, ← c.as_read-read.ensures)
    (ap told
    (serve_miss a.rule a.tag a.store a.tags.now a.lines c.as_read-read.result (rw c.in-None.is at c.find-found.ensures.way_value)
    (some_fill (length a.tags.now) a.rule c.as_read-read.result.fill (usable past) c.if-fill-eq0.false)
    c.bring.ensures))
