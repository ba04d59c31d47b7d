-- `block::make::name` meets its contract.
use Rattle.std.proofs.Common.{◌<◌, ltb, ◌∙◌, arith}
use borrow.Author.Tests.{ltb-true}
use Rattle.waymap.specs.Ways.{is_ways}
use Rattle.waymap.proofs.Booleans.{and_right}
use Rattle.endian.specs.Bytes.{digits}
use Rattle.endian.proofs.DigitLaws.{put_whole}
use Rattle.replacement.specs.Calls.{in_limits}
use Rattle.block.specs.Layout.{sizes}
use Rattle.block.proofs.make.name.Goals as goal

pub overflow_cast-g-3 : goal.overflow_cast-g-3
unfolding in_limits
overflow_cast-g-3 c =
    let few : c.args.g.rule < 3 = ltb-true c.args.g.rule 3 (and_right (is_ways c.args.g.ways) (ltb c.args.g.rule 3) c.requires.limited.limits) in
    record { fits = omega (arith, few) }

pub returns : goal.returns
unfolding digits sizes
returns c =
    let g = c.args.g in
    let block = c.args.block.now in
    let first = c.put.ensures ∙ put_whole 0 2 g.sets block (omega (arith, c.requires.long)) in
    let second = c.put-2.ensures ∙ put_whole 2 1 g.ways c.put.new.bytes (omega (arith, c.requires.long, c.put.auto.bytes)) in
    let third = c.put-3.ensures ∙ put_whole 3 1 g.rule c.put-2.new.bytes (omega (arith, c.requires.long, c.put.auto.bytes, c.put-2.auto.bytes)) in
    third ∙ rw (second, first)
