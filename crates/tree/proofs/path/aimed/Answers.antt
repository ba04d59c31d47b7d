-- `tree::path::aimed` meets its contract.
use native.Mathlib.Omega.{arith}
use Rattle.tree.proofs.PathLaws.{aim_right, aim_left}
use Rattle.tree.proofs.path.aimed.Goals as goal

pub returns-then-right : goal.returns-then-right
returns-then-right c =
    rw c.if-right.true
    (aim_right c.args.word c.args.node c.ranges.word.fits (omega (arith, c.requires))
    c.raised-one.ensures)

pub returns : goal.returns
returns c =
    rw c.if-right.false
    (aim_left c.args.word c.args.node c.ranges.word.fits (omega (arith, c.requires))
    c.raised-one.ensures)
