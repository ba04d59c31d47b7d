-- `tree::touch` meets its contract.
use mathlib.Core.Path.{sym, ◌∙◌}
use Rattle.waymap.proofs.NumberLaws.{takes_sized, takes_way}
use Rattle.tree.specs.Calls.{touch_of}
use Rattle.tree.proofs.TreeLaws.{word_outside}
use Rattle.tree.proofs.touch.Goals as goal

pub returns-then-not-takes : goal.returns-then-not-takes
unfolding touch_of
returns-then-not-takes c = rw (sym c.takes.ensures ∙ c.if-not-takes.true)

pub returns-then-not-has : goal.returns-then-not-has
unfolding touch_of
returns-then-not-has c =
    rw (sym c.takes.ensures ∙ c.if-not-takes.false)
    (sym (word_outside c.args.ways c.args.map c.args.way c.args.word c.ranges.word.fits
    (sym c.has.ensures ∙ c.if-not-has.true)))

pub touched-requires : goal.touched-requires
touched-requires c =
    let taken = sym c.takes.ensures ∙ c.if-not-takes.false in
    let member = sym c.has.ensures ∙ c.if-not-has.false in
    record {
      sized = takes_sized c.args.ways c.args.map taken;
      way_lt_ways = takes_way c.args.ways c.args.map taken c.ranges.map.fits c.args.way member;
      way_value = member;
    }

pub returns : goal.returns
unfolding touch_of
returns c = rw (sym c.takes.ensures ∙ c.if-not-takes.false) c.touched.ensures
