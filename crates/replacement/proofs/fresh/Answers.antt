-- `replacement::fresh` meets its contract.
use mathlib.Core.Path.{refl, ◌∙◌}
use Rattle.std.proofs.lemmas.Result.{err_from_is_err_and}
use Rattle.replacement.proofs.AdmitLaws.{known_gives, is_zero, is_one, is_two}
use Rattle.replacement.proofs.CallLaws.{ways, is_tree, is_nru, is_lru, nru_fresh, lru_fresh, fresh_given, fresh_refused}
use Rattle.replacement.proofs.fresh.Goals as goal

pub returns-in_err-known : goal.returns-in_err-known
returns-in_err-known c =
    let p = err_from_is_err_and c.from_residual.result c.from_residual.ensures.1 in
    rw (p.1, p.2) (fresh_refused _ _ c.in_err-known.ensures)

pub returns-in-Tree : goal.returns-in-Tree
returns-in-Tree c =
    let name = known_gives _ _ c.in_ok-known.ensures in
    fresh_given _ _ name.limits (is_tree _ _ (is_zero name c.in-Tree.is)) refl

pub returns-in-Nru : goal.returns-in-Nru
returns-in-Nru c =
    let name = known_gives _ _ c.in_ok-known.ensures in
    fresh_given _ _ name.limits (is_nru _ _ (is_one name c.in-Nru.is)) (c.fresh.ensures ∙ nru_fresh _ (ways _ _ name.limits))

pub returns-in-Lru : goal.returns-in-Lru
returns-in-Lru c =
    let name = known_gives _ _ c.in_ok-known.ensures in
    fresh_given _ _ name.limits (is_lru _ _ (is_two name c.in-Lru.is)) (c.fresh-in-Lru.ensures ∙ lru_fresh _ (ways _ _ name.limits))
