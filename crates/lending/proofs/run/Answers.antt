-- `lending::run` meets its contract.
use Prim.Native.Nat.{◌<◌}
use native.Mathlib.Omega.{arith}
use Rattle.script.proofs.ScriptLaws.{line_grows}
use Rattle.lending.proofs.run.Goals as goal
use Rattle.lending.proofs.run.Goals.{After-line_after-next}

-- The next line begins further on.
further : (c : After-line_after-next) → c.loop-from.from < c.line_after-next.result
further c =
    let grows = line_grows c.args.text.now c.loop-from.from c.loop-from-test.true in
    omega (arith, grows, c.line_after-next.ensures.value)

pub slice_bounds-do_line-count : goal.slice_bounds-do_line-count
slice_bounds-do_line-count c = omega (arith, further (goal.at.slice_bounds-do_line-count c).After-line_after-next)

pub slice_bounds-do_line-start : goal.slice_bounds-do_line-start
slice_bounds-do_line-start c = omega (arith, further (goal.at.slice_bounds-do_line-start c).After-line_after-next)

pub loop-from-smaller : goal.loop-from-smaller
loop-from-smaller c = omega (arith, further (goal.at.loop-from-smaller c).After-line_after-next)
