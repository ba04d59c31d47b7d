-- `row::lookup` meets its contract.
use mathlib.Core.Path.{◌≡◌, sym, ap, ◌∙◌}
use mathlib.Core.Bool.{true}
use lib.ListN.{length}
use Rattle.waymap.specs.Ways.{is_ways}
use Rattle.command.specs.Answer.{answer_of}
use Rattle.row.specs.Calls.{lookup_of, visited_of}
use Rattle.row.proofs.LookLaws.{look_hit, look_absent, look_visited}
use Rattle.row.proofs.lookup.Goals as goal
use Rattle.row.proofs.lookup.Goals.{After-find-found}

pub returns-then-not-is_ways : goal.returns-then-not-is_ways
unfolding lookup_of visited_of
returns-then-not-is_ways c =
    let none = sym c.is_ways.ensures ∙ c.if-not-is_ways.true in
    record {
      answer_value = rw none;
      visited_value = rw none;
    }

-- a number of ways, where the lookup is made
ways : (f : After-find-found) → is_ways (length f.args.tags.now) ≡ true
ways f = sym f.is_ways.ensures ∙ f.if-not-is_ways.false

pub returns-in-Some : goal.returns-in-Some
returns-in-Some c =
    let a = c.args in
    let past = (goal.at.returns-in-Some c).After-find-found in
    let read = c.as_read-read.ensures in
    let found = c.find-found.ensures in
    record {
      answer_value =
          ap answer_of
          (look_hit a.maps a.tag a.tags.now a.lines (ways past) read (rw c.in-Some.is at found.way_value) (rw c.in-Some.is at found.way_bound));
      visited_value = look_visited a.maps a.tag a.tags.now a.lines (ways past) read found.visited_value;
    }

pub returns-in-None : goal.returns-in-None
returns-in-None c =
    let a = c.args in
    let past = (goal.at.returns-in-None c).After-find-found in
    let read = c.as_read-read.ensures in
    let found = c.find-found.ensures in
    record {
      answer_value = ap answer_of (look_absent a.maps a.tag a.tags.now a.lines (ways past) read (rw c.in-None.is at found.way_value));
      visited_value = look_visited a.maps a.tag a.tags.now a.lines (ways past) read found.visited_value;
    }
