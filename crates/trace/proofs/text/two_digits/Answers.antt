-- `trace::text::two_digits` meets its contract.
use Prim.Native.Nat.{◌+◌, ◌/◌, ◌%◌}
use native.Mathlib.Omega.{arith}
use Rattle.trace.proofs.TextLaws.{second_inside, third_inside, two_put}
use Rattle.trace.proofs.text.two_digits.Goals as goal

pub bounds-out-at-2 : goal.bounds-out-at-2
bounds-out-at-2 c =
    let given = c.args in
    second_inside given.at (48 + given.n / 10) given.out.now c.requires.at_in_bounds

pub bounds-out-at-3 : goal.bounds-out-at-3
bounds-out-at-3 c =
    let given = c.args in
    third_inside given.at (48 + given.n / 10) (48 + given.n % 10) given.out.now c.requires.at_in_bounds

pub returns : goal.returns
returns c =
    let given = c.args in
    record {
      out_after = two_put given.at given.n given.end given.out.now c.requires.le_n c.requires.n_bound;
      upper_bound = omega arith;
    }
