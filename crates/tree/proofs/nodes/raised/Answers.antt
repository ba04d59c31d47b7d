-- `tree::nodes::raised` meets its contract.
use native.Mathlib.Omega.{arith}
use lib.Pow.{shl_exact}
use Rattle.tree.proofs.nodes.raised.Goals as goal

pub returns : goal.returns
returns c = shl_exact 8 c.args.at 64 c.requires.x_bound (omega arith)
