-- `verdict::reasons::shares_node` meets its contract.
use mathlib.Core.Path.{sym}
use Rattle.waymap.proofs.WayLaws.{passed_found, passed_all}
use Rattle.verdict.specs.Refusal.{shares_node}
use Rattle.verdict.proofs.reasons.shares_node.Goals as goal

pub returns-then-has_node : goal.returns-then-has_node
unfolding shares_node
returns-then-has_node c = sym (passed_found c.loop-e.invariant c.loop-e-test.true (sym c.if-has_node.ensures))

pub returns : goal.returns
unfolding shares_node
returns c = sym (passed_all c.loop-e.invariant c.loop-e-test.false)
