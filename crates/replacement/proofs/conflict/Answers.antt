-- `replacement::conflict` meets its contract.
use Rattle.std.proofs.lemmas.Result.{err_from_is_err_and}
use Rattle.replacement.proofs.conflict.Goals as goal
use Rattle.replacement.proofs.AdmitLaws.{admitted_gives, is_zero, not_zero}
use Rattle.replacement.proofs.CallLaws.{shares_refused, no_nodes, shares_given, shares_by_tree}

pub returns-in_err-admitted : goal.returns-in_err-admitted
returns-in_err-admitted c =
    let p = err_from_is_err_and c.from_residual.result c.from_residual.ensures.1 in
    rw (p.1, p.2) (shares_refused _ _ _ _ c.in_err-admitted.ensures)

pub returns-in-Tree : goal.returns-in-Tree
returns-in-Tree c =
    let past = admitted_gives _ _ _ c.in_ok-admitted.ensures in
    shares_by_tree _ _ _ _ past.name.limits past.reach (is_zero past.name c.in-Tree.is) c.shares.ensures c.if-shares.true

pub returns-in-Tree-2 : goal.returns-in-Tree-2
returns-in-Tree-2 c =
    let past = admitted_gives _ _ _ c.in_ok-admitted.ensures in
    shares_by_tree _ _ _ _ past.name.limits past.reach (is_zero past.name c.in-Tree.is) c.shares.ensures c.if-shares.false

pub returns-in-Nru : goal.returns-in-Nru
returns-in-Nru c =
    let past = admitted_gives _ _ _ c.in_ok-admitted.ensures in
    shares_given _ _ _ _ past.name.limits past.reach (no_nodes _ _ _ _ (not_zero past.name c.in-Nru.is))
