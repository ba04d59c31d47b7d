-- `trace::text::told` meets its contract.
use mathlib.Core.Path.{◌∙◌}
use native.Mathlib.Omega.{arith}
use lib.ListN.{length, length-set}
use Rattle.trace.specs.Inside.{written_of}
use Rattle.trace.proofs.TextLaws.{told_is, word_inside, numbers_room, told_short}
use Rattle.trace.proofs.text.told.Goals as goal

pub bounds-out-next : goal.bounds-out-next
bounds-out-next c =
    let put = c.put-next in
    let word = length c.args.word.now in
    let count = length c.args.values.now in
    word_inside c.args.at word count put.ensures.value put.auto.out c.requires

pub overflow_add-next : goal.overflow_add-next
overflow_add-next c =
    let put = c.put-next in
    let word = length c.args.word.now in
    let count = length c.args.values.now in
    let inside = word_inside c.args.at word count put.ensures.value put.auto.out c.requires in
    omega (arith, inside)

pub numbers-requires : goal.numbers-requires
numbers-requires c =
    let put = c.put-next in
    let word = length c.args.word.now in
    let count = length c.args.values.now in
    numbers_room c.args.at word count put.ensures.value put.auto.out c.requires
    (length-set put.new.out put.result c.end_of.result)

pub shape_of-out : goal.shape_of-out
shape_of-out c =
    let put = c.put-next in
    c.numbers.auto.out ∙ length-set put.new.out put.result c.end_of.result ∙ put.auto.out

pub returns : goal.returns
returns c =
    let put = c.put-next in
    let word = length c.args.word.now in
    let count = length c.args.values.now in
    let numbers = c.numbers in
    record {
      out_after = told_is c.args.word.now c.args.values.now (written_of c.args.at c.args.out.now)
          put.ensures.out_after c.end_of.ensures numbers.ensures.out_after;
      upper_bound = told_short c.args.at word count put.ensures.value put.auto.out c.requires numbers.ensures.upper_bound;
    }
