-- `runs::store` meets its contract.
use mathlib.Core.Path.{ap}
use Prim.Native.Nat.{ℕ, ◌+◌, ◌*◌, ◌≤◌}
use lib.ListN.{length}
use native.Mathlib.Nat.{le_refl, mul-le-mul}
use native.Mathlib.Omega.{arith}
use Rattle.std.proofs.lemmas.List.{length-map, get_or-map}
use Rattle.runs.proofs.RunLaws.{store_end, stored_next}
use Rattle.runs.proofs.store.Goals as goal

pub loop-i-preserved : goal.loop-i-preserved
loop-i-preserved g c =
    let number = g.N.Number.number in
    let xs = c.args.numbers.now in
    let one = c.index-numbers-i.result in
    let value = get_or-map number xs c.loop-i.i one 0 c.loop-i-test.true in
    let n = g.N.Number.WIDTH in
    let all : n * (c.loop-i.i + 1) ≤ n * length xs = mul-le-mul (le_refl n) (omega (arith, c.loop-i-test.true)) in
    stored_next _ _ c.write.new.bytes c.loop-i.invariant (omega (arith, length-map xs number, c.loop-i-test.true))
    (ap (λ (w : ℕ). w * c.loop-i.i) c.WIDTH.ensures)
    (rw c.WIDTH-in-loop-i.ensures (le_refl _)) (rw c.WIDTH-in-loop-i.ensures (omega (arith, all, c.requires, c.loop-i.invariant.long)))
    (rw (value, ← c.index-numbers-i.is) c.write.ensures)

pub returns : goal.returns
returns g c =
    store_end c.loop-i.invariant (omega (arith, length-map c.args.numbers.now g.N.Number.number, c.loop-i-test.false))
