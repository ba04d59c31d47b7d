-- `tree::own` meets its contract.
use mathlib.Core.Path.{sym, ◌∙◌}
use Rattle.waymap.specs.Bits.{bit}
use Rattle.tree.specs.Calls.{own_of}
use Rattle.tree.proofs.TreeWordLaws.{own_word}
use Rattle.tree.proofs.CallLaws.{taken}
use Rattle.tree.proofs.own.Goals as goal

pub returns-then-not-takes : goal.returns-then-not-takes
unfolding own_of
returns-then-not-takes c = rw (sym c.takes.ensures ∙ c.if-not-takes.true)

pub nodes_of-nodes-requires : goal.nodes_of-nodes-requires
nodes_of-nodes-requires c =
    let all = taken _ _ c.takes.ensures c.if-not-takes.false c.ranges.map.fits in
    record { sized = all.0; map_bound = all.1 }

pub returns : goal.returns
unfolding own_of
returns c =
    rw (sym c.takes.ensures ∙ c.if-not-takes.false)
    (own_word c.args.ways (bit c.args.map) c.args.word c.ranges.word.fits c.nodes_of-nodes.ensures.free_is)
