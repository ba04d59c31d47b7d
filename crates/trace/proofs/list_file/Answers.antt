-- `trace::list_file` meets its contract.
use Prim.Native.Nat.{zero-le}
use mir.Facts.{Fits-below}
use Rattle.steps.specs.Step.{tables_of}
use Rattle.trace.proofs.ListLaws.{fitting, lent_sized, listed_is}
use Rattle.trace.proofs.list_file.Goals as goal

pub overflow_mul-cells : goal.overflow_mul-cells
overflow_mul-cells c =
    Fits-below tt (fitting c.args.file.now c.named-g.ensures c.steps-steps.ensures c.requires.file_value c.requires.roomy).cells

pub slice_bounds-listing-count : goal.slice_bounds-listing-count
slice_bounds-listing-count c = zero-le

pub slice_bounds-listing-start : goal.slice_bounds-listing-start
slice_bounds-listing-start c = zero-le

pub slice_bounds-listing-end : goal.slice_bounds-listing-end
slice_bounds-listing-end c =
    (fitting c.args.file.now c.named-g.ensures c.steps-steps.ensures c.requires.file_value c.requires.roomy).tags_room

pub slice_bounds-listing-count-2 : goal.slice_bounds-listing-count-2
slice_bounds-listing-count-2 c = zero-le

pub slice_bounds-listing-start-2 : goal.slice_bounds-listing-start-2
slice_bounds-listing-start-2 c = zero-le

pub slice_bounds-listing-end-2 : goal.slice_bounds-listing-end-2
slice_bounds-listing-end-2 c =
    (fitting c.args.file.now c.named-g.ensures c.steps-steps.ensures c.requires.file_value c.requires.roomy).valid_room

pub slice_bounds-listing-count-3 : goal.slice_bounds-listing-count-3
slice_bounds-listing-count-3 c = zero-le

pub slice_bounds-listing-start-3 : goal.slice_bounds-listing-start-3
slice_bounds-listing-start-3 c = zero-le

pub slice_bounds-listing-end-3 : goal.slice_bounds-listing-end-3
slice_bounds-listing-end-3 c =
    (fitting c.args.file.now c.named-g.ensures c.steps-steps.ensures c.requires.file_value c.requires.roomy).dirty_room

pub slice_bounds-listing-count-4 : goal.slice_bounds-listing-count-4
slice_bounds-listing-count-4 c = zero-le

pub slice_bounds-listing-start-4 : goal.slice_bounds-listing-start-4
slice_bounds-listing-start-4 c = zero-le

pub slice_bounds-listing-end-4 : goal.slice_bounds-listing-end-4
slice_bounds-listing-end-4 c =
    (fitting c.args.file.now c.named-g.ensures c.steps-steps.ensures c.requires.file_value c.requires.roomy).words_room

pub listing-requires : goal.listing-requires
listing-requires c =
    let room = fitting c.args.file.now c.named-g.ensures c.steps-steps.ensures c.requires.file_value c.requires.roomy in
    record {
      g_value = room.stands;
      words_value = lent_sized room;
      steps_le_max_steps = room.few_steps;
      in_bounds = room.out_room;
    }

pub shape_of-tags : goal.shape_of-tags
shape_of-tags c = c.tags-1.given.1

pub shape_of-valid : goal.shape_of-valid
shape_of-valid c = c.valid-1.given.1

pub shape_of-dirty : goal.shape_of-dirty
shape_of-dirty c = c.dirty-1.given.1

pub shape_of-words : goal.shape_of-words
shape_of-words c = c.words-1.given.1

pub shape_of-out : goal.shape_of-out
shape_of-out c = c.listing.auto.out

pub returns : goal.returns
returns c =
    let listed = c.listing in
    listed_is c.args.file.now (tables_of listed.new.tags listed.new.valid listed.new.dirty listed.new.words)
    c.named-g.ensures c.steps-steps.ensures c.requires.file_value c.requires.roomy
    (λ j. record { tags = listed.auto.tags j; valid = listed.auto.valid j; dirty = listed.auto.dirty j; words = listed.auto.words j })
    listed.ensures.out_after listed.ensures.upper_bound
