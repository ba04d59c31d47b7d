-- `replacement::victim` meets its contract.
use mathlib.Core.Bool.{and-false}
use Rattle.std.proofs.lemmas.Result.{err_from_is_err_and}
use Rattle.waymap.proofs.MapLaws.{none_empty}
use Rattle.replacement.specs.Calls.{victim_of}
use Rattle.replacement.proofs.AdmitLaws.{admitted_gives, is_zero, is_one, is_two}
use Rattle.replacement.proofs.CallLaws.{some_way, victim_refused, victim_by_tree, victim_by_nru, victim_by_lru}
use Rattle.replacement.proofs.victim.Goals as goal

pub returns-in_err-rule : goal.returns-in_err-rule
returns-in_err-rule c =
    let p = err_from_is_err_and c.from_residual.result c.from_residual.ensures.1 in
    rw (p.1, p.2) (victim_refused _ _ _ _ c.in_err-rule.ensures)

pub returns-then-map-eq0 : goal.returns-then-map-eq0
unfolding victim_of
returns-then-map-eq0 c =
    let past = admitted_gives _ _ _ c.in_ok-rule.ensures in
    rw (past.name.limits, c.if-map-eq0.true, none_empty, and-false)

pub returns-in-Tree : goal.returns-in-Tree
returns-in-Tree c =
    let past = admitted_gives _ _ _ c.in_ok-rule.ensures in
    let some = some_way c.args.map c.ranges.map.fits c.if-map-eq0.false in
    victim_by_tree _ _ _ _ past.name.limits past.reach some (is_zero past.name c.in-Tree.is) c.victim.ensures

pub returns-in-Nru : goal.returns-in-Nru
returns-in-Nru c =
    let past = admitted_gives _ _ _ c.in_ok-rule.ensures in
    let some = some_way c.args.map c.ranges.map.fits c.if-map-eq0.false in
    victim_by_nru _ _ _ _ past.name.limits past.reach some c.ranges.map.fits (is_one past.name c.in-Nru.is) c.victim-in-Nru.ensures

pub returns-in-Lru : goal.returns-in-Lru
returns-in-Lru c =
    let past = admitted_gives _ _ _ c.in_ok-rule.ensures in
    let some = some_way c.args.map c.ranges.map.fits c.if-map-eq0.false in
    victim_by_lru _ _ _ _ past.name.limits past.reach some (is_two past.name c.in-Lru.is) c.victim-in-Lru.ensures
