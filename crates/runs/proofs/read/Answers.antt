-- `runs::read` meets its contract.
use mathlib.Core.List.{map}
use mathlib.Core.Path.{◌≡◌, ap, sym, ◌∙◌}
use Prim.Native.Nat.{ℕ, ◌+◌, ◌-◌, ◌*◌, ◌≤◌}
use lib.ListN.{length, take, drop}
use Rattle.runs.specs.Runs.{numbers}
use native.Mathlib.Omega.{arith}
use Rattle.std.proofs.lemmas.List.{length-map}
use Rattle.runs.proofs.RunLaws.{run_loaded, room, no_room, read_behind, run_unread}
use Rattle.runs.proofs.read.Goals as goal
use Rattle.runs.proofs.read.Goals.{else-at-bytes-via-then-at-bytes+else-numbers-bytes, else-at-bytes-via-else-at-bytes}

pub returns-then-numbers-bytes : goal.returns-then-numbers-bytes
returns-then-numbers-bytes g c =
    let a = c.args in
    let n = g.N.Number.WIDTH in
    let xs = map g.N.Number.number a.numbers.now in
    let long = length-map a.numbers.now g.N.Number.number in
    let e : ℕ = a.at + c.WIDTH-then-numbers-bytes.result * length a.numbers.now in
    let part = take (e - a.at) (drop a.at a.bytes.now) in
    let fit = room n _ _ g.met.N.Number.some (rw c.WIDTH.ensures at c.if-numbers-bytes.true) in
    let end : e ≡ a.at + n * length xs = rw (c.WIDTH-then-numbers-bytes.ensures, long) in
    let within : n * length xs ≤ length a.bytes.now - a.at = rw long fit in
    c.load.ensures
    ∙ ap (λ (k : ℕ). numbers n k part) (sym long)
    ∙ run_loaded a.at n a.bytes.now xs end (omega (arith, end, within, c.if-at-bytes.true))

pub returns-else-at-bytes : goal.returns-else-at-bytes
returns-else-at-bytes g c =
    let a = c.args in
    let n = g.N.Number.WIDTH in
    let xs = map g.N.Number.number a.numbers.now in
    let long = length-map a.numbers.now g.N.Number.number in
    elim c.else-at-bytes.branch [
      | else-at-bytes-via-then-at-bytes+else-numbers-bytes w ↦
          sym (run_unread a.at n a.bytes.now xs (rw long (no_room n _ _ g.met.N.Number.some (rw w.WIDTH.ensures at w.if-numbers-bytes.false))))
      | else-at-bytes-via-else-at-bytes w ↦ read_behind a.at n a.bytes.now xs g.met.N.Number.some (omega (arith, w.if-at-bytes.false))
    ]
