-- `lru_rule::orders::at` meets its contract.
use mathlib.Core.Path.{ap}
use Prim.Native.Nat.{ℕ, ◌/◌, ◌%◌}
use Rattle.lru_rule.proofs.LoopLaws.{four_bits}
use Rattle.lru_rule.proofs.orders.at.Goals as goal

pub returns : goal.returns
returns c = ap (λ (n : ℕ). c.args.word / n % 16) (four_bits c.args.k)
