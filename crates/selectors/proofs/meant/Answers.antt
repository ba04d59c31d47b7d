-- `selectors::meant` meets its contract.
use native.Mathlib.Omega.{arith}
use Rattle.selectors.specs.Selectors.{selected, meant_by}
use Rattle.selectors.proofs.MeantLaws.{stays_plain}
use Rattle.selectors.proofs.meant.Goals as goal

pub returns-in-32 : goal.returns-in-32
unfolding meant_by selected
returns-in-32 c = rw c.in-32.is c.through.ensures

pub returns-in-33 : goal.returns-in-33
unfolding meant_by selected
returns-in-33 c = rw c.in-33.is c.through-in-33.ensures

pub returns-in-34 : goal.returns-in-34
unfolding meant_by selected
returns-in-34 c = rw c.in-34.is c.through-in-34.ensures

pub returns-in-35 : goal.returns-in-35
unfolding meant_by selected
returns-in-35 c = rw c.in-35.is c.through-in-35.ensures

pub returns-in-40 : goal.returns-in-40
unfolding meant_by
returns-in-40 c = rw c.in-40.is c.select.ensures

pub returns-in-0-to-31 : goal.returns-in-0-to-31
returns-in-0-to-31 c =
    let x = c.args in
    stays_plain x.listed x.core _ (λ e. omega arith) (λ e. omega arith) (λ e. omega arith) (λ e. omega arith) (λ e. omega arith)
