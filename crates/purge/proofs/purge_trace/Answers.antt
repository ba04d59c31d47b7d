-- `purge::purge_trace` meets its contract.
use Rattle.purge.proofs.TakeLaws.{refused}
use Rattle.purge.proofs.purge_trace.Goals as goal

pub returns-then-arguments-steps : goal.returns-then-arguments-steps
returns-then-arguments-steps c =
    let x = c.args in
    refused x.domain x.codes.now x.arguments.now x.kept_codes.now x.kept_arguments.now c.then-arguments-steps.either
