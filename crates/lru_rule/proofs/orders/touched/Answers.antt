-- `lru_rule::orders::touched` meets its contract.
use mathlib.Core.Path.{ap, ◌∙◌}
use native.Mathlib.Omega.{arith}
use Prim.Native.Nat.{ℕ}
use Rattle.lru_rule.specs.Inside.{lifted}
use Rattle.lru_rule.proofs.orders.touched.Goals as goal

pub place_of-requires : goal.place_of-requires
place_of-requires c =
    record {
      sized = c.requires.sized;
      order_bound = c.requires.order_bound;
    }

pub lift-requires : goal.lift-requires
lift-requires c =
    record {
      k_bound = omega (arith, c.place_of.ensures, c.requires.order_bound, c.requires.sized.most);
      way_bound = c.requires.way_bound;
    }

pub returns : goal.returns
returns c =
    c.lift.ensures ∙ ap (λ (k : ℕ). lifted c.args.way k c.args.order) c.place_of.ensures
