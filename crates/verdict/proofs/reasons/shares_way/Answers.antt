-- `verdict::reasons::shares_way` meets its contract.
use Rattle.domains.specs.Calls.{read_by}
use Rattle.verdict.specs.Refusal.{held_elsewhere, shares_way}
use Rattle.verdict.proofs.RefusalLaws.{common_is}
use Rattle.verdict.proofs.reasons.shares_way.Goals as goal

pub returns : goal.returns
unfolding shares_way
returns c =
    let called = c.held_elsewhere in
    let a = c.args in
    common_is a.new.hit called.result (held_elsewhere (read_by a.ways a.policies) a.d) c.requires called.ensures
