-- `trace::listing` meets its contract.
use mathlib.Core.Path.{◌∙◌}
use Rattle.steps.specs.Step.{tables_of}
use Rattle.trace.specs.Inside.{written_of, listed_by}
use Rattle.trace.proofs.RunLaws.{listing_is, room_for_head, room_for_lines, listing_short}
use Rattle.trace.proofs.listing.Goals as goal

pub head-head-requires : goal.head-head-requires
head-head-requires c =
    room_for_head c.requires.in_bounds

pub run-requires : goal.run-requires
run-requires c =
    room_for_lines c.head-head.ensures.upper_bound c.head-head.auto.out c.requires.steps_le_max_steps c.requires.in_bounds

pub shape_of-tags : goal.shape_of-tags
shape_of-tags c =
    c.run.auto.tags ∙ c.fresh_tables.auto.tags

pub shape_of-valid : goal.shape_of-valid
shape_of-valid c =
    c.run.auto.valid ∙ c.fresh_tables.auto.valid

pub shape_of-dirty : goal.shape_of-dirty
shape_of-dirty c =
    c.run.auto.dirty ∙ c.fresh_tables.auto.dirty

pub shape_of-words : goal.shape_of-words
shape_of-words c =
    c.run.auto.words ∙ c.fresh_tables.auto.words

pub shape_of-out : goal.shape_of-out
shape_of-out c =
    c.run.auto.out ∙ c.head-head.auto.out

pub returns : goal.returns
returns c =
    let given = c.args in
    record {
      out_after = listing_is given.g given.file.now given.steps given.out.now
          (tables_of given.tags.now given.valid.now given.dirty.now given.words.now)
          (tables_of c.fresh_tables.new.tags c.fresh_tables.new.valid c.fresh_tables.new.dirty c.fresh_tables.new.words)
          (written_of c.head-head.result c.head-head.new.out)
          (listed_by (tables_of c.run.new.tags c.run.new.valid c.run.new.dirty c.run.new.words) (written_of c.run.result c.run.new.out))
          c.requires.g_value c.requires.words_value c.fresh_tables.ensures c.head-head.ensures.out_after c.run.ensures.out_after;
      upper_bound = listing_short c.run.ensures.upper_bound c.head-head.ensures.upper_bound c.requires.steps_le_max_steps;
    }
