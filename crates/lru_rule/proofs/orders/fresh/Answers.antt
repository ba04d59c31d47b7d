-- `lru_rule::orders::fresh` meets its contract.
use native.Mathlib.Omega.{arith}
use Rattle.lru_rule.proofs.LoopLaws.{fresh_shift}
use Rattle.lru_rule.proofs.orders.fresh.Goals as goal

pub returns : goal.returns
returns c = fresh_shift c.args.ways (omega arith)
