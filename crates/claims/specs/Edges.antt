-- The theorems at the edges of what they are claimed for: the largest cache, true LRU, the highest domain, more steps than a file may have, arguments of 64
-- bits, 32 records and none.
use Rattle.std.specs.Prelude.{◌≡◌, List, [], ◌∷◌, ◌++◌, ℕ, ◌-◌, ◌^◌, replicate}
use Rattle.command.specs.Command.{Command}
use Rattle.geometry.specs.declared.Geometry.{Geometry}
use Rattle.steps.specs.Step.{State, step}
use Rattle.steps.specs.Run.{finally}
use Rattle.steps.specs.Fresh.{fresh}
use Rattle.isolation.specs.StruckOut.{StruckOut}
use Rattle.isolation.specs.Lookups.{SameLookups}
use Rattle.demand.specs.Demand.{Demand}
use Rattle.switching.specs.StruckOut.{CoreStruckOut}
use Rattle.switching.specs.Lookups.{CoreSameLookups}
use Rattle.locking.specs.Locking.{Locking}
use Rattle.locking.specs.Once.{Once}
use Rattle.balance.specs.Balance.{Balance, CoreBalance}

-- 4,096 sets of 16 ways under true LRU; and the smallest cache.
abbrev pub largest : Geometry
largest = record { sets = 4096; ways = 16; rule = 2 }

abbrev pub smallest : Geometry
smallest = record { sets = 1; ways = 2; rule = 0 }

-- The highest domain, and the largest argument.
abbrev pub highest : ℕ
highest = 15

abbrev pub most : ℕ
most = 2 ^ 64 - 1

-- 5,000 stores of domain 15, and steps that nobody has a use for.
abbrev pub long : List Command
long =
    replicate 5000 (record { domain = highest; kind = 2; argument = most })
    ++ (record { domain = 300; kind = 1000; argument = 2 ^ 70 } ∷ record { domain = 31; kind = 40; argument = most } ∷ [])

pub record AtTheEdge : Type 0 where
  pub demand : Demand largest highest long
  pub demand_small : Demand smallest 0 long
  pub isolation : StruckOut largest highest long
  pub lookups : SameLookups largest highest long
  pub switching : CoreStruckOut largest highest 32 long
  pub switching_none : CoreStruckOut largest highest 0 long
  pub core_lookups : CoreSameLookups largest highest 32 long
  pub locking : Locking largest highest long (finally largest long (fresh largest))
  pub once : Once largest (finally largest long (fresh largest))
  pub balance : Balance largest highest long
  pub core_balance : CoreBalance largest highest 32 long
  pub unspent : (step largest highest 16 most (finally largest long (fresh largest))).answer ≡ 7 ∷ 7 ∷ [] → ⊥
