-- `replacement::change_of` meets its contract.
use mathlib.Core.Path.{ap}
use borrow.Author.Tests.{eq-eqb, ne_eqb}
use Rattle.replacement.specs.Change.{change_of}
use Rattle.replacement.specs.declared.Change.TheVariants.{Clear, Raise, Age}
use Rattle.replacement.proofs.AdmitLaws.{admitted_gives, is_zero, is_one, is_two}
use Rattle.replacement.proofs.CallLaws.{either_reach, change_refused}
use Rattle.replacement.proofs.change_of.Goals as goal

pub returns-in_default : goal.returns-in_default
returns-in_default c = change_refused _ _ _ _ c.in_default.ensures

pub returns-in-Tree : goal.returns-in-Tree
unfolding change_of
returns-in-Tree c =
    let a = c.args in
    let past = admitted_gives _ _ _ c.in-Ok.ensures in
    rw (past.name.limits, either_reach a.ways a.old a.new, past.reach, is_zero past.name c.in-Tree.is) (ap Clear c.change.ensures)

pub returns-in-Nru : goal.returns-in-Nru
unfolding change_of
returns-in-Nru c =
    let a = c.args in
    let past = admitted_gives _ _ _ c.in-Ok.ensures in
    rw (past.name.limits, either_reach a.ways a.old a.new, past.reach, is_one past.name c.in-Nru.is) (ap Raise c.change-in-Nru.ensures)

pub returns-in-Lru : goal.returns-in-Lru
unfolding change_of
returns-in-Lru c =
    let a = c.args in
    let past = admitted_gives _ _ _ c.in-Ok.ensures in
    rw (past.name.limits, either_reach a.ways a.old a.new, past.reach, is_two past.name c.in-Lru.is, eq-eqb a.old a.new c.if-old-new.true)

pub returns-in-Lru-2 : goal.returns-in-Lru-2
unfolding change_of
returns-in-Lru-2 c =
    let a = c.args in
    let past = admitted_gives _ _ _ c.in-Ok.ensures in
    rw (past.name.limits, either_reach a.ways a.old a.new, past.reach, is_two past.name c.in-Lru.is, ne_eqb a.old a.new c.if-old-new.false)
    (ap (Age a.ways) c.change-in-Lru-2.ensures)
