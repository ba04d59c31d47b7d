-- `replacement::own` meets its contract.
use mathlib.Core.Path.{◌∙◌}
use Rattle.std.proofs.lemmas.Result.{err_from_is_err_and}
use Rattle.nru.specs.Calls as Nru
use Rattle.replacement.proofs.AdmitLaws.{admitted_gives, is_zero, is_one, is_two}
use Rattle.replacement.proofs.CallLaws.{ways, is_tree, is_nru, is_lru, tree_own, lru_own, own_given, own_refused}
use Rattle.replacement.proofs.own.Goals as goal

pub returns-in_err-admitted : goal.returns-in_err-admitted
returns-in_err-admitted c =
    let p = err_from_is_err_and c.from_residual.result c.from_residual.ensures.1 in
    rw (p.1, p.2) (own_refused _ _ _ _ c.in_err-admitted.ensures)

pub returns-in-Tree : goal.returns-in-Tree
returns-in-Tree c =
    let past = admitted_gives _ _ _ c.in_ok-admitted.ensures in
    own_given _ _ past.name.limits (is_tree _ _ (is_zero past.name c.in-Tree.is)) _ _ past.reach
    (c.own.ensures ∙ tree_own _ (ways _ _ past.name.limits) _ _ past.reach)

pub returns-in-Nru : goal.returns-in-Nru
unfolding Nru.own_of
returns-in-Nru c =
    let past = admitted_gives _ _ _ c.in_ok-admitted.ensures in
    own_given _ _ past.name.limits (is_nru _ _ (is_one past.name c.in-Nru.is)) _ _ past.reach c.own-in-Nru.ensures

pub returns-in-Lru : goal.returns-in-Lru
returns-in-Lru c =
    let past = admitted_gives _ _ _ c.in_ok-admitted.ensures in
    own_given _ _ past.name.limits (is_lru _ _ (is_two past.name c.in-Lru.is)) _ _ past.reach
    (c.own-in-Lru.ensures ∙ lru_own _ (ways _ _ past.name.limits) _ _ past.reach)
