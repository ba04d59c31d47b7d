-- `script::line_after` meets its contract.
use Rattle.script.proofs.ScriptLaws.{line_is}
use Rattle.script.proofs.line_after.Goals as goal

pub returns : goal.returns
returns c =
    let all = line_is _ _ c.behind.ensures in
    record { value = all.0; upper_bound = all.1 }
