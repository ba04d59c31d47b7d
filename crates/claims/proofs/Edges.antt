-- The theorems at the edges of what they are claimed for.
use mathlib.Core.Path.{◌≡◌, refl}
use mathlib.Core.Bool.{true}
use native.Mathlib.Omega.{arith}
use Rattle.waymap.specs.Bits.{any}
use Rattle.waymap.specs.Ways.{is_ways}
use Rattle.replacement.specs.Calls.{in_limits}
use Rattle.geometry.specs.Geometry.{is_power, within}
use Rattle.isolation.proofs.Isolation.{isolation}
use Rattle.isolation.proofs.Lookups.{lookups}
use Rattle.demand.proofs.LimitLaws.{limits_within}
use Rattle.demand.proofs.Demand.{demand}
use Rattle.switching.proofs.Switching.{switching}
use Rattle.switching.proofs.Lookups.{core_lookups}
use Rattle.locking.proofs.Locking.{locking}
use Rattle.locking.proofs.OnceLaws.{once}
use Rattle.balance.proofs.Balance.{balance, core_balance}
use Rattle.claims.specs.Edges.{largest, smallest, highest, most, long, AtTheEdge}

-- Both caches are within the limits.
large : within largest ≡ true
unfolding within is_power any in_limits is_ways
large = refl

small : within smallest ≡ true
unfolding within is_power any in_limits is_ways
small = refl

pub at_the_edge : AtTheEdge
at_the_edge = record {
  demand = demand largest (limits_within largest large) highest (omega arith) long;
  demand_small = demand smallest (limits_within smallest small) 0 (omega arith) long;
  isolation = isolation largest large highest (omega arith) long;
  lookups = lookups largest large highest (omega arith) long;
  switching = switching largest large highest (omega arith) 32 (omega arith) long;
  switching_none = switching largest large highest (omega arith) 0 (omega arith) long;
  core_lookups = core_lookups largest large highest (omega arith) 32 (omega arith) long;
  locking = locking largest large highest (omega arith) long long;
  once = once largest large long;
  balance = balance largest large highest (omega arith) long;
  core_balance = core_balance largest large highest (omega arith) 32 (omega arith) long;
  unspent = (balance largest large highest (omega arith) long).in_balance.unspent most;
}
