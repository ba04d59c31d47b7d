-- `verdict::reasons::has_node` meets its contract.
use mathlib.Core.Path.{◌∙◌}
use borrow.Author.Tests.{eq-eqb, ne_eqb}
use Rattle.verdict.proofs.RefusalLaws.{shared_is, policy_within}
use Rattle.verdict.proofs.reasons.has_node.Goals as goal

pub returns-then-d-e : goal.returns-then-d-e
returns-then-d-e c = rw (eq-eqb c.args.d c.args.e c.if-d-e.true)

pub returns : goal.returns
returns c =
    let a = c.args in
    rw (ne_eqb a.d a.e c.if-d-e.false, ← c.read_by-other.ensures)
    (c.is_err.ensures.value
    ∙ shared_is a.g.ways a.g.rule a.fill c.read_by-other.result.fill c.requires.rule_value c.requires.fill_value
    (policy_within a.g.ways a.policies a.e c.read_by-other.ensures) c.conflict.result c.conflict.ensures)
