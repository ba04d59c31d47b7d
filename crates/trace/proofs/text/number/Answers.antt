-- `trace::text::number` meets its contract.
use Prim.Native.Nat.{◌+◌}
use native.Mathlib.Omega.{arith}
use Rattle.trace.specs.Inside.{written_of}
use Rattle.trace.proofs.TextLaws.{few_digits, second_inside, digit_put, digits_fit, end_inside, number_short, number_is}
use Rattle.trace.proofs.text.number.Goals as goal

pub bounds-out-at-then-n-lt10 : goal.bounds-out-at-then-n-lt10
bounds-out-at-then-n-lt10 c =
    let given = c.args in
    second_inside given.at (48 + given.n) given.out.now c.requires

pub returns-then-n-lt10 : goal.returns-then-n-lt10
returns-then-n-lt10 c =
    let given = c.args in
    record {
      out_after = digit_put given.at given.n given.end given.out.now c.if-n-lt10.true;
      upper_bound = omega arith;
    }

pub put-next-requires : goal.put-next-requires
put-next-requires c =
    let spelled = c.decimal-count in
    let few = few_digits c.args.n spelled.result c.ranges.n spelled.ensures.len in
    digits_fit c.args.at few spelled.ensures.in_bounds.1 c.requires

pub bounds-out-next : goal.bounds-out-next
bounds-out-next c =
    let spelled = c.decimal-count in
    let few = few_digits c.args.n spelled.result c.ranges.n spelled.ensures.len in
    let put = c.put-next in
    end_inside c.args.at few spelled.ensures.in_bounds.1 c.requires put.ensures.value put.auto.out

pub overflow_add-result-2 : goal.overflow_add-result-2
overflow_add-result-2 c =
    let spelled = c.decimal-count in
    let few = few_digits c.args.n spelled.result c.ranges.n spelled.ensures.len in
    let put = c.put-next in
    let inside = end_inside c.args.at few spelled.ensures.in_bounds.1 c.requires put.ensures.value put.auto.out in
    omega (arith, inside)

pub returns : goal.returns
returns c =
    let spelled = c.decimal-count in
    let few = few_digits c.args.n spelled.result c.ranges.n spelled.ensures.len in
    let put = c.put-next in
    record {
      out_after = number_is (written_of c.args.at c.args.out.now) c.args.end few spelled.ensures.len
          spelled.ensures.digits put.ensures.out_after;
      upper_bound = number_short c.args.at few spelled.ensures.in_bounds.1 c.requires put.ensures.value;
    }
