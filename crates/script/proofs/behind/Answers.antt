-- `script::behind` meets its contract.
use Rattle.std.proofs.Common.{sym, ◌∙◌}
use Rattle.script.proofs.ScriptLaws.{found_behind, none_behind}
use Rattle.script.proofs.behind.Goals as goal

pub returns-in-Some : goal.returns-in-Some
returns-in-Some c =
    found_behind c.args.stop c.args.bytes.now c.args.place (rw c.rest.ensures at (sym c.first.ensures ∙ c.in-Some.is))

pub returns-in-None : goal.returns-in-None
returns-in-None c =
    none_behind c.args.stop c.args.bytes.now c.args.place (rw c.rest.ensures at (sym c.first.ensures ∙ c.in-None.is))
