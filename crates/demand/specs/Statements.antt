-- That the flat statement speaks of the product: what it writes out anew is what the product has. Each is a closed statement; the theorem of each has its
-- name in small letters, stands in proofs/, and is of exactly that type.
use Rattle.std.specs.Prelude.{◌≡◌, true, List, ℕ, ◌<◌, ltb, get_or}
use Rattle.waymap.specs.Bits.{bit}
use Rattle.waymap.specs.Ways.{Sized}
use Rattle.tree.specs.Tree.{free}
use Rattle.lru_rule.specs.Lru.{order, before}
use Rattle.command.specs.Command.{Command}
use Rattle.geometry.specs.Geometry.{within}
use Rattle.geometry.specs.declared.Geometry.{Geometry}
use Rattle.purge.specs.Purge.{purge}
use Rattle.steps.specs.Step.{State}
use Rattle.steps.specs.Run.{finally}
use Rattle.steps.specs.Fresh as Fresh
use Rattle.demand.specs.Free.{is_free}
use Rattle.demand.specs.Order.{is_order, place_of}
use Rattle.demand.specs.Demand.{Limits, fresh, end, struck_out}

-- Its limits are the product's, both ways.
abbrev pub WithinLimits : Type 0
WithinLimits = (g : Geometry) → Limits g → within g ≡ true

abbrev pub LimitsWithin : Type 0
LimitsWithin = (g : Geometry) → within g ≡ true → Limits g

-- Its fresh cache, run and struck-out list are the product's.
abbrev pub FreshIs : Type 0
FreshIs = (g : Geometry) → Limits g → fresh g ≡ Fresh.fresh g

abbrev pub EndIs : Type 0
EndIs = (g : Geometry) (cs : List Command) (s : State) → end g cs s ≡ finally g cs s

abbrev pub StruckIs : Type 0
StruckIs = (d : ℕ) (cs : List Command) → struck_out d cs ≡ purge d cs

-- For 2, 4, 8 and 16 ways, its free nodes are the tree's.
abbrev pub FreeIs : Type 0
FreeIs = (W : ℕ) → Sized W → (map i : ℕ) → is_free W map i ≡ free W (bit map) i

-- By its places one way stands before another just where it does in the order that true LRU goes by.
abbrev pub BeforeIs : Type 0
BeforeIs = (W x v w : ℕ) → v < W → w < W → ltb (place_of W x v) (place_of W x w) ≡ before (order W x) v w

-- In every state of a run from a fresh cache under true LRU, every word holds an order.
abbrev pub OrdersLast : Type 0
OrdersLast =
    (g : Geometry) → within g ≡ true → (cs : List Command) → g.rule ≡ 2 → (i : ℕ) → i < g.sets
    → is_order g.ways (get_or (finally g cs (Fresh.fresh g)).tables.words i 0) ≡ true
