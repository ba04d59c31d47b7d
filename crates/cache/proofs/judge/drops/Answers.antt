-- `cache::judge::drops` meets its contract.
use mathlib.Core.Path.{ap}
use Prim.Native.Nat.{ℕ}
use native.Mathlib.Omega.{arith}
use Rattle.domains.specs.Domains.{overflows}
use Rattle.steps.proofs.JudgeLaws.{judged_far, judged_near}
use Rattle.cache.proofs.judge.drops.Goals as goal

pub returns-then-most : goal.returns-then-most
returns-then-most c =
    let a = c.args in
    judged_far a.ways a.old a.policies a.domain a.argument a.valid.now c.requires a.counts (omega (arith, c.if-most.true))

pub returns : goal.returns
returns c =
    let a = c.args in
    let map = c.drop_ways-map.ensures in
    ap (λ (n : ℕ). overflows a.argument n a.counts)
    (judged_near a.ways a.old a.policies a.domain a.argument a.valid.now c.requires c.held_elsewhere-held.ensures
    (rw c.new_maps.ensures at map) c.lines_among.ensures)
