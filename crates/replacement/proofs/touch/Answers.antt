-- `replacement::touch` meets its contract.
use mathlib.Core.Path.{◌∙◌}
use borrow.Author.Tests.{le-ltb}
use Rattle.std.proofs.lemmas.Result.{err_from_is_err_and}
use Rattle.nru.specs.Calls as Nru
use Rattle.replacement.specs.Calls.{touch_of}
use Rattle.replacement.proofs.AdmitLaws.{admitted_gives, is_zero, is_one, is_two}
use Rattle.replacement.proofs.CallLaws.{ways, is_tree, is_nru, is_lru, tree_touch, lru_touch, touch_given, touch_refused}
use Rattle.replacement.proofs.touch.Goals as goal

pub returns-in_err-rule : goal.returns-in_err-rule
returns-in_err-rule c =
    let p = err_from_is_err_and c.from_residual.result c.from_residual.ensures.1 in
    rw (p.1, p.2) (touch_refused _ _ _ _ _ c.in_err-rule.ensures)

pub returns-then-ways-way : goal.returns-then-ways-way
unfolding touch_of
returns-then-ways-way c =
    let past = admitted_gives _ _ _ c.in_ok-rule.ensures in
    rw (past.name.limits, past.reach, le-ltb c.args.way c.args.ways c.if-ways-way.true)

pub returns-in-Tree : goal.returns-in-Tree
returns-in-Tree c =
    let past = admitted_gives _ _ _ c.in_ok-rule.ensures in
    touch_given _ _ past.name.limits (is_tree _ _ (is_zero past.name c.in-Tree.is)) _ _ _ past.reach c.if-ways-way.false
    (c.touch.ensures ∙ tree_touch _ (ways _ _ past.name.limits) _ _ _ past.reach)

pub returns-in-Nru : goal.returns-in-Nru
unfolding Nru.touch_of
returns-in-Nru c =
    let past = admitted_gives _ _ _ c.in_ok-rule.ensures in
    touch_given _ _ past.name.limits (is_nru _ _ (is_one past.name c.in-Nru.is)) _ _ _ past.reach c.if-ways-way.false c.touch-in-Nru.ensures

pub returns-in-Lru : goal.returns-in-Lru
returns-in-Lru c =
    let past = admitted_gives _ _ _ c.in_ok-rule.ensures in
    touch_given _ _ past.name.limits (is_lru _ _ (is_two past.name c.in-Lru.is)) _ _ _ past.reach c.if-ways-way.false
    (c.touch-in-Lru.ensures ∙ lru_touch _ (ways _ _ past.name.limits) _ _ _ past.reach)
