-- `tree::victim` meets its contract.
use mathlib.Core.Path.{sym, ◌∙◌}
use native.Mathlib.Omega.{arith}
use Rattle.waymap.specs.Bits.{bit}
use Rattle.waymap.proofs.NumberLaws.{takes_sized}
use Rattle.tree.specs.Calls.{victim_of}
use Rattle.tree.proofs.TreeWordLaws.{victim_word}
use Rattle.tree.proofs.CallLaws.{taken}
use Rattle.tree.proofs.victim.Goals as goal

pub returns-then-not-takes : goal.returns-then-not-takes
unfolding victim_of
returns-then-not-takes c = rw (sym c.takes.ensures ∙ c.if-not-takes.true)

pub nodes_of-nodes-requires : goal.nodes_of-nodes-requires
nodes_of-nodes-requires c =
    let all = taken _ _ c.takes.ensures c.if-not-takes.false c.ranges.map.fits in
    record { sized = all.0; map_bound = all.1 }

pub overflow_sub-ways : goal.overflow_sub-ways
overflow_sub-ways c =
    omega (arith, (takes_sized c.args.ways c.args.map (sym c.takes.ensures ∙ c.if-not-takes.false)).least)

pub walked-requires : goal.walked-requires
walked-requires c =
    takes_sized c.args.ways c.args.map (sym c.takes.ensures
    ∙ c.if-not-takes.false)

pub returns : goal.returns
unfolding victim_of
returns c =
    let within = sym c.takes.ensures ∙ c.if-not-takes.false in
    let nodes = c.nodes_of-nodes.ensures in
    rw within
    (c.walked.ensures
    ∙ victim_word c.args.ways (bit c.args.map) c.args.word (takes_sized c.args.ways c.args.map within).most
    c.all.ensures nodes.free_is nodes.right_is)
