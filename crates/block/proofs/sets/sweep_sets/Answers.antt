-- `block::sets::sweep_sets` meets its contract. The invariant: the sets before are swept, and nothing but the tables changed.
use Rattle.std.proofs.Common.{◌-◌, arith}
use Rattle.block.proofs.WorkLaws.{clean_begin, clean_blocked, clean_turned, clean_end}
use Rattle.block.proofs.sets.sweep_sets.Goals as goal

pub loop-set-init : goal.loop-set-init
loop-set-init c = clean_begin c.args.g c.args.sweep c.args.block.now c.requires

pub sweep_set-answer-requires : goal.sweep_set-answer-requires
sweep_set-answer-requires c =
    record {
      blocked = clean_blocked c.loop-set.invariant c.requires;
      set_lt_sets = c.loop-set-test.true;
    }

pub loop-set-preserved : goal.loop-set-preserved
loop-set-preserved c =
    let called = c.sweep_set-answer in
    clean_turned c.loop-set.invariant c.requires c.loop-set-test.true called.auto.block called.ensures
    c.added-drops.ensures

pub shape_of-block : goal.shape_of-block
shape_of-block c = c.loop-set.invariant.long

pub returns : goal.returns
returns c = clean_end c.loop-set.invariant c.loop-set-test.false
