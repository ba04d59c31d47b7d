-- `verdict::reasons::held_elsewhere` meets its contract.
use Rattle.verdict.proofs.RefusalLaws.{none_held, more_held, all_held}
use Rattle.verdict.proofs.reasons.held_elsewhere.Goals as goal

pub loop-e-init : goal.loop-e-init
loop-e-init c = none_held _ _ _

pub loop-e-preserved : goal.loop-e-preserved
loop-e-preserved c = more_held c.loop-e.invariant c.loop-e-test.true c.ways_of-held.ensures

pub returns : goal.returns
returns c = all_held c.loop-e.invariant c.loop-e-test.false
