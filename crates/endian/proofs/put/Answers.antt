-- `endian::put` meets its contract.
use mathlib.Core.List.{List}
use mathlib.Core.Path.{ap, sym, ◌∙◌}
use Prim.Native.Nat.{ℕ, ◌-◌}
use lib.ListN.{length, drop, length-drop}
use lib.Seq.{take_all}
use native.Mathlib.Omega.{arith}
use Rattle.endian.specs.Bytes.{put_field}
use Rattle.endian.proofs.DigitLaws.{put_none}
use Rattle.endian.proofs.NumberLaws.{put_rest}
use Rattle.endian.proofs.put.Goals as goal

pub returns-then-place-bytes : goal.returns-then-place-bytes
returns-then-place-bytes g c =
    let a = c.args in
    let width : ℕ = g.N.Number.WIDTH in
    let value : ℕ = g.N.Number.number a.value in
    let rest = take_all (length a.bytes.now - a.place) (drop a.place a.bytes.now) (omega (arith, length-drop a.place a.bytes.now)) in
    put_rest a.place width value a.bytes.now c.write.new.bytes c.if-place-bytes.true
    (c.write.ensures ∙ ap (λ (xs : List ℕ). put_field 0 width value xs) rest)

pub returns-else-place-bytes : goal.returns-else-place-bytes
returns-else-place-bytes g c =
    sym (put_none c.args.place g.N.Number.WIDTH (g.N.Number.number c.args.value) c.args.bytes.now (omega (arith, c.if-place-bytes.false)))
