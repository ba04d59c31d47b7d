-- `lookup::find` meets its contract. The invariant: what is left of the hit map, none of whose other ways is hit. The measure: how many remain.
use mathlib.Core.Path.{ap₂, ◌∙◌}
use Prim.Native.Nat.{ℕ, ◌-◌}
use native.Mathlib.Omega.{arith}
use Rattle.lookup.proofs.VisitLaws.{left_begin, left_few, left_less, left_turned, end_way, end_visited}
use Rattle.lookup.proofs.VisitLaws.{next_lt, next_matches, next_way, next_visited}
use Rattle.lookup.proofs.find.Goals as goal

pub loop-left-init : goal.loop-left-init
loop-left-init c =
    left_begin c.args.tags.now c.args.valid c.args.hit c.args.tag c.ranges.hit.fits c.all.ensures

pub overflow_sub-left : goal.overflow_sub-left
overflow_sub-left c = omega (arith, c.loop-left-test.true)

pub is_at-requires : goal.is_at-requires
is_at-requires c = next_lt c.loop-left.invariant c.loop-left-test.true c.lowest_way-way.ensures

pub overflow_sub-visited : goal.overflow_sub-visited
overflow_sub-visited c =
    let less = left_less c.loop-left.invariant c.loop-left-test.true c.lowest_way-way.ensures in
    omega (arith, less, left_few c.loop-left.invariant, c.count_ways.ensures, c.count_ways-all.ensures)

pub returns-then-is_at : goal.returns-then-is_at
returns-then-is_at c =
    let inv = c.loop-left.invariant in
    let some = c.loop-left-test.true in
    let low = c.lowest_way-way.ensures in
    let here = next_matches inv some low c.is_at.ensures c.if-is_at.true in
    record {
      way_value = next_way inv some low here;
      way_bound = next_lt inv some low;
      visited_value = ap₂ (λ (a r : ℕ). a - r) c.count_ways-all.ensures c.count_ways.ensures ∙ next_visited inv some low here;
    }

pub loop-left-smaller : goal.loop-left-smaller
loop-left-smaller c =
    left_less c.loop-left.invariant c.loop-left-test.true c.lowest_way-way.ensures

pub loop-left-preserved : goal.loop-left-preserved
loop-left-preserved c =
    let inv = c.loop-left.invariant in
    let some = c.loop-left-test.true in
    let low = c.lowest_way-way.ensures in
    left_turned inv some low (next_matches inv some low c.is_at.ensures c.if-is_at.false)

pub returns : goal.returns
returns c =
    let inv = c.loop-left.invariant in
    record {
      way_value = end_way inv c.loop-left-test.false;
      way_bound = tt;
      visited_value = c.count_ways-all.ensures ∙ end_visited inv c.loop-left-test.false;
    }
