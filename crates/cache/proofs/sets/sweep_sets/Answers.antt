-- `cache::sets::sweep_sets` meets its contract.
use mathlib.Core.Path.{sym, ◌∙◌}
use Rattle.steps.specs.Step.{tables_of}
use Rattle.steps.proofs.SweepLaws.{begin, turned, end}
use Rattle.cache.proofs.sets.sweep_sets.Goals as goal

pub loop-set-init : goal.loop-set-init
loop-set-init c =
    let lent = tables_of c.args.tags.now c.args.valid.now c.args.dirty.now c.args.words.now in
    rw (c.default-drops.ensures.0, c.default-drops.ensures.1) (begin c.args.g c.args.sweep lent c.requires)

pub sweep_set-answer-requires : goal.sweep_set-answer-requires
sweep_set-answer-requires c =
    record {
      shaped = c.loop-set.invariant.shaped;
      set_lt_sets = c.loop-set-test.true;
    }

pub loop-set-preserved : goal.loop-set-preserved
loop-set-preserved c =
    let lent = tables_of c.args.tags.now c.args.valid.now c.args.dirty.now c.args.words.now in
    let l = c.loop-set in
    turned c.args.g c.args.sweep lent (tables_of l.tags l.valid l.dirty l.words) c.requires l.invariant
    c.loop-set-test.true {u = tables_of c.sweep_set-answer.new.tags c.sweep_set-answer.new.valid c.sweep_set-answer.new.dirty c.sweep_set-answer.new.words} c.sweep_set-answer.ensures c.added-drops.ensures

pub shape_of-tags : goal.shape_of-tags
shape_of-tags c = c.loop-set.invariant.shaped.tags_long ∙ sym c.requires.tags_long

pub shape_of-valid : goal.shape_of-valid
shape_of-valid c = c.loop-set.invariant.shaped.valid_long ∙ sym c.requires.valid_long

pub shape_of-dirty : goal.shape_of-dirty
shape_of-dirty c = c.loop-set.invariant.shaped.dirty_long ∙ sym c.requires.dirty_long

pub shape_of-words : goal.shape_of-words
shape_of-words c = c.loop-set.invariant.shaped.words_long ∙ sym c.requires.words_long

pub returns : goal.returns
returns c =
    let lent = tables_of c.args.tags.now c.args.valid.now c.args.dirty.now c.args.words.now in
    let l = c.loop-set in
    end c.args.g c.args.sweep lent (tables_of l.tags l.valid l.dirty l.words) l.invariant c.loop-set-test.false
