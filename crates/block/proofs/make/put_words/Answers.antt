-- `block::make::put_words` meets its contract. The invariant: what was put and what is left to put make the whole.
use Rattle.std.proofs.Common.{◌+◌, ◌-◌, ◌*◌, ◌∙◌, arith}
use lib.ListN.{length-replicate, get_or-replicate}
use Rattle.endian.proofs.DigitLaws.{put_whole}
use Rattle.runs.proofs.RunLaws.{store_begin, store_turned, store_end}
use Rattle.block.proofs.make.put_words.Goals as goal

pub loop-set-init : goal.loop-set-init
loop-set-init c = store_begin 8 _ _ _

pub loop-set-preserved : goal.loop-set-preserved
loop-set-preserved c =
    let a = c.args in
    let set = c.loop-set.set in
    let word = get_or-replicate a.sets set a.word 0 c.loop-set-test.true in
    let put = c.put.ensures ∙ put_whole (a.at + 8 * set) 8 a.word c.loop-set.block
    (omega (arith, c.loop-set.invariant.long, c.requires, c.loop-set-test.true)) in
    store_turned c.loop-set.invariant (rw (length-replicate a.sets a.word) c.loop-set-test.true) (rw word put)

pub shape_of-block : goal.shape_of-block
shape_of-block c = c.loop-set.invariant.long

pub returns : goal.returns
returns c =
    let a = c.args in
    store_end c.loop-set.invariant (rw (length-replicate a.sets a.word) c.loop-set-test.false)
