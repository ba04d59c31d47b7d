-- `tree::shares` meets its contract.
use mathlib.Core.Path.{sym, ◌∙◌}
use mathlib.Core.Bool.{and-false}
use native.Mathlib.Nat.{le_trans}
use lib.Dec.{lit≤}
use Rattle.waymap.specs.Bits.{bit}
use Rattle.tree.specs.Calls.{shares_of}
use Rattle.tree.proofs.TreeWordLaws.{shares_word}
use Rattle.tree.proofs.CallLaws.{Both, both_taken}
use Rattle.tree.proofs.shares.Goals as goal
use Rattle.tree.proofs.shares.Goals.{Else-not-takes-2, then-not-takes-via-then-not-takes, then-not-takes-via-else-not-takes+then-not-takes-2}

both : (c : Else-not-takes-2) → Both c.args.ways c.args.map c.args.other
both c =
    both_taken c.takes.ensures c.if-not-takes.false c.ranges.map.fits
    c.takes-else-not-takes.ensures c.if-not-takes-2.false c.ranges.other.fits

pub returns-then-not-takes : goal.returns-then-not-takes
unfolding shares_of
returns-then-not-takes c =
    elim c.then-not-takes.branch [
      | then-not-takes-via-then-not-takes w ↦ rw (sym c.takes.ensures ∙ w.if-not-takes.true)
      | then-not-takes-via-else-not-takes+then-not-takes-2 w ↦ rw (sym w.takes-else-not-takes.ensures ∙ w.if-not-takes-2.true, and-false)
    ]

pub nodes_of-mine-requires : goal.nodes_of-mine-requires
nodes_of-mine-requires c =
    let all = (both (goal.at.nodes_of-mine-requires c).Else-not-takes-2).first in
    record { sized = all.0; map_bound = all.1 }

pub nodes_of-theirs-requires : goal.nodes_of-theirs-requires
nodes_of-theirs-requires c =
    let all = (both (goal.at.nodes_of-theirs-requires c).Else-not-takes-2).second in
    record { sized = all.0; map_bound = all.1 }

pub returns : goal.returns
unfolding shares_of
returns c =
    let a = c.args in
    let tested = both (goal.at.returns c).Else-not-takes-2 in
    rw tested.tests
    (shares_word a.ways (bit a.map) (bit a.other) (le_trans tested.first.0.most (lit≤ tt)) c.nodes_of-mine.ensures.free_is
    c.nodes_of-theirs.ensures.free_is)
