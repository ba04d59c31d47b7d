-- `sweep::tags::wipe` meets its contract. The invariant: what is left of the map is still to be done.
use Rattle.std.proofs.Common.{◌-◌, arith}
use lib.Bits.{and_le_r}
use Rattle.sweep.proofs.TagLaws.{begin, way_lt, turned, end}
use Rattle.sweep.proofs.tags.wipe.Goals as goal

pub loop-rest-init : goal.loop-rest-init
loop-rest-init c = begin c.args.map c.args.tags.now c.ranges.map.fits c.requires

pub offset_bounds-tags-way : goal.offset_bounds-tags-way
offset_bounds-tags-way c = omega (arith, way_lt c.loop-rest.invariant c.loop-rest-test.true c.lowest_way-way.ensures)

pub bounds-tags-way : goal.bounds-tags-way
bounds-tags-way c = way_lt c.loop-rest.invariant c.loop-rest-test.true c.lowest_way-way.ensures

pub overflow_sub-rest : goal.overflow_sub-rest
overflow_sub-rest c = omega (arith, c.loop-rest-test.true)

pub loop-rest-smaller : goal.loop-rest-smaller
loop-rest-smaller c =
    let rest = c.loop-rest.rest in
    omega (arith, and_le_r rest (rest - 1), c.loop-rest-test.true)

pub loop-rest-preserved : goal.loop-rest-preserved
loop-rest-preserved c = turned c.loop-rest.invariant c.loop-rest-test.true c.lowest_way-way.ensures

pub shape_of-tags : goal.shape_of-tags
shape_of-tags c = c.loop-rest.invariant.long

pub returns : goal.returns
returns c = end c.loop-rest.invariant c.loop-rest-test.false
