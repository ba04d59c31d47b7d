-- `runs::load` meets its contract.
use mathlib.Core.Path.{◌≡◌, ap, ◌∙◌}
use Prim.Native.Nat.{ℕ, ◌+◌, ◌-◌, ◌*◌, ◌≤◌}
use native.Mathlib.Nat.{mul-suc}
use native.Mathlib.Numerals.{add-one}
use native.Mathlib.Omega.{arith}
use Rattle.std.proofs.lemmas.List.{map-set, length-map}
use Rattle.endian.specs.Bytes.{field}
use Rattle.endian.proofs.FieldLaws.{field_within}
use Rattle.runs.proofs.RunLaws.{load_turned, load_end}
use Rattle.runs.proofs.load.Goals as goal

pub loop-i-preserved : goal.loop-i-preserved
loop-i-preserved g c =
    let number = g.N.Number.number in
    let n = g.N.Number.WIDTH in
    let i = c.loop-i.i in
    let long = length-map c.loop-i.numbers number in
    let next : n * (i + 1) ≡ n * i + n = rw (add-one i, mul-suc n i) in
    let bytes = c.args.bytes.now in
    let start : c.WIDTH.result * i ≡ n * i = ap (λ (w : ℕ). w * i) c.WIDTH.ensures in
    let room : n ≤ c.WIDTH-in-loop-i.result * (i + 1) - c.WIDTH.result * i = rw (c.WIDTH.ensures, c.WIDTH-in-loop-i.ensures) (omega (arith, next)) in
    rw (map-set number c.loop-i.numbers i c.read.result)
    (load_turned c.loop-i.invariant (omega (arith, long, c.loop-i-test.true))
    (c.read.ensures ∙ field_within n (c.WIDTH.result * i) _ bytes room ∙ ap (λ (p : ℕ). field p n bytes) start))

pub returns : goal.returns
returns g c =
    load_end c.loop-i.invariant (omega (arith, length-map c.loop-i.numbers g.N.Number.number, c.loop-i-test.false))
