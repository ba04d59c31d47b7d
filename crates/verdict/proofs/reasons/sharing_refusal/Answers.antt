-- `verdict::reasons::sharing_refusal` meets its contract.
use mathlib.Core.Path.{sym}
use Rattle.verdict.specs.Refusal.{sharing_refusal}
use Rattle.policy.proofs.ArgumentLaws.{good_fill}
use Rattle.verdict.proofs.reasons.sharing_refusal.Goals as goal

pub returns-then-shares_way : goal.returns-then-shares_way
unfolding sharing_refusal
returns-then-shares_way c = rw (← c.new_maps-new.ensures, sym c.if-shares_way.ensures)

pub shares_node-requires-clause-fill_value : goal.shares_node-requires-clause-fill_value
shares_node-requires-clause-fill_value c = rw c.new_maps-new.ensures (good_fill c.args.g.ways c.args.argument c.requires.argument_value)

pub returns-then-shares_node : goal.returns-then-shares_node
unfolding sharing_refusal
returns-then-shares_node c = rw (
  ← c.new_maps-new.ensures,
  sym c.if-shares_way.ensures,
  sym c.if-shares_node.ensures,
)

pub returns : goal.returns
unfolding sharing_refusal
returns c = rw (
  ← c.new_maps-new.ensures,
  sym c.if-shares_way.ensures,
  sym c.if-shares_node.ensures,
)
