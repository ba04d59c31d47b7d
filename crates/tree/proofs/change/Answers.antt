-- `tree::change` meets its contract.
use mathlib.Core.Path.{sym, ◌∙◌}
use mathlib.Core.Bool.{and-false}
use Rattle.waymap.specs.Bits.{bit}
use Rattle.tree.specs.Calls.{change_of}
use Rattle.tree.proofs.TreeWordLaws.{change_word}
use Rattle.tree.proofs.CallLaws.{Both, both_taken}
use Rattle.tree.proofs.change.Goals as goal
use Rattle.tree.proofs.change.Goals.{Else-not-takes-2, then-not-takes-via-then-not-takes, then-not-takes-via-else-not-takes+then-not-takes-2}

pub returns-then-not-takes : goal.returns-then-not-takes
unfolding change_of
returns-then-not-takes c =
    elim c.then-not-takes.branch [
      | then-not-takes-via-then-not-takes w ↦ rw (sym c.takes.ensures ∙ w.if-not-takes.true)
      | then-not-takes-via-else-not-takes+then-not-takes-2 w ↦ rw (sym w.takes-else-not-takes.ensures ∙ w.if-not-takes-2.true, and-false)
    ]

both : (c : Else-not-takes-2) → Both c.args.ways c.args.old c.args.new
both c =
    both_taken c.takes.ensures c.if-not-takes.false c.ranges.old.fits
    c.takes-else-not-takes.ensures c.if-not-takes-2.false c.ranges.new.fits

pub nodes_of-before-requires : goal.nodes_of-before-requires
nodes_of-before-requires c =
    let all = (both (goal.at.nodes_of-before-requires c).Else-not-takes-2).first in
    record { sized = all.0; map_bound = all.1 }

pub nodes_of-after-requires : goal.nodes_of-after-requires
nodes_of-after-requires c =
    let all = (both (goal.at.nodes_of-after-requires c).Else-not-takes-2).second in
    record { sized = all.0; map_bound = all.1 }

pub returns : goal.returns
unfolding change_of
returns c =
    let a = c.args in
    let tested = both (goal.at.returns c).Else-not-takes-2 in
    rw tested.tests
    (change_word a.ways (bit a.old) (bit a.new) c.nodes_of-before.ensures.free_is
    c.nodes_of-after.ensures.free_is)
