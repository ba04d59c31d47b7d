-- The limits and the fresh cache are the product's own.
use mathlib.Core.Path.{◌≡◌, refl}
use mathlib.Core.Bool.{true, cond, ◌&&◌}
use Prim.Native.Nat.{ℕ, zero, suc, ◌-◌, ◌^◌, ◌≤◌, ◌<◌}
use native.Mathlib.Nat.{pow-le-pow_right}
use native.Mathlib.Omega.{arith}
use lib.Dec.{eqb, leb, ltb}
use lib.Pow.{pow-lt}
use borrow.Author.Tests.{eqb-true, eq-eqb, le-leb, lt-ltb, ltb-true, ltb-false}
use Rattle.waymap.specs.Bits.{any}
use Rattle.waymap.specs.Ways.{is_ways, Sized}
use Rattle.waymap.proofs.Booleans.{cases, and_left, and_right}
use Rattle.waymap.proofs.BitLaws.{bit_ones}
use Rattle.waymap.proofs.WordLaws.{from_bits}
use Rattle.waymap.proofs.WayLaws.{any_at, any_found}
use Rattle.waymap.proofs.NumberLaws as NumberLaws
use Rattle.nru.specs.Nru as Nru
use Rattle.replacement.specs.Rule.{rule_of}
use Rattle.replacement.specs.Calls.{in_limits}
use Rattle.geometry.specs.Geometry.{max_sets, is_power, within}
use Rattle.geometry.specs.declared.Geometry.{Geometry}
use Rattle.geometry.proofs.GeometryLaws.{limited}
use Rattle.steps.specs.Fresh as Fresh
use Rattle.demand.specs.Order.{fresh_word}
use Rattle.demand.specs.Demand.{Limits, fresh}
use Rattle.demand.specs.Statements.{WithinLimits, LimitsWithin, FreshIs}
use Rattle.demand.proofs.OrderLaws.{fresh_word_lem}

-- ---- the limits, both ways

-- an exponent is small where its power is
small_log : (k n : ℕ) → 2 ^ k < 2 ^ n → k < n
small_log k n h =
    cases (ltb k n)
    (λ t. ltb-true k n t)
    (λ t. let more : 2 ^ n ≤ 2 ^ k = pow-le-pow_right {n = 2} (omega arith) (ltb-false k n t) in absurd (omega arith))

ways_known : (W k : ℕ) → W ≡ 2 ^ k → 2 ≤ W → W ≤ 16 → is_ways W ≡ true
unfolding is_ways
ways_known W zero e h m = absurd (omega arith)
ways_known W (suc k) e h m =
    let few : suc k < 5 = small_log (suc k) 5 (omega (arith, e)) in
    any_at 4 (λ (j : ℕ). eqb W (2 ^ suc j)) k (omega arith) (eq-eqb W (2 ^ suc k) e)

ways_are : (g : Geometry) → Limits g → is_ways g.ways ≡ true
ways_are g l = ways_known g.ways l.ways_log l.ways_power (omega (arith, l.ways_least)) (omega (arith, l.ways_most))

pub ways_sized : (g : Geometry) → Limits g → Sized g.ways
ways_sized g l = NumberLaws.sized g.ways (ways_are g l)

pub within_limits : WithinLimits
unfolding within is_power in_limits
within_limits g l =
    rw (
      power,
      le-leb g.sets max_sets (omega (arith, l.sets_most)),
      ways_are g l,
      lt-ltb g.rule 3 (omega (arith, l.rule_known)),
    )
  where
    power : any 64 (λ (k : ℕ). eqb g.sets (2 ^ k)) ≡ true
    power =
        any_at 64 (λ (k : ℕ). eqb g.sets (2 ^ k)) l.sets_log (small_log l.sets_log 64 (omega (arith, l.sets_power, l.sets_most)))
        (eq-eqb g.sets (2 ^ l.sets_log) l.sets_power)

-- so nothing within the product's limits is left out
pub limits_within : LimitsWithin
unfolding within is_power in_limits
limits_within g e =
    let power = any_found 64 (λ (k : ℕ). eqb g.sets (2 ^ k)) (and_left (is_power g.sets) (leb g.sets max_sets) front) in
    let ways = NumberLaws.sized g.ways (and_left (is_ways g.ways) (ltb g.rule 3) rest) in
    record {
      sets_log = power.0;
      sets_power = eqb-true g.sets (2 ^ power.0) power.2;
      sets_most = (limited g e).most_sets;
      ways_log = suc ways.depth;
      ways_power = ways.power;
      ways_least = ways.least;
      ways_most = ways.most;
      rule_known = ltb-true g.rule 3 (and_right (is_ways g.ways) (ltb g.rule 3) rest);
    }
  where
    front : (is_power g.sets && leb g.sets max_sets) ≡ true
    front = and_left (is_power g.sets && leb g.sets max_sets) (in_limits g.ways g.rule) e

    rest : in_limits g.ways g.rule ≡ true
    rest = and_right (is_power g.sets && leb g.sets max_sets) (in_limits g.ways g.rule) e

-- ---- a fresh cache

word_is : (rule W : ℕ) → rule < 3 → W ≤ 16 → cond (eqb rule 1) (2 ^ W - 1) (cond (eqb rule 2) (fresh_word W) 0) ≡ (rule_of rule W).fresh
unfolding Nru.fresh
word_is zero W h k = refl
word_is (suc zero) W h k =
    let low : W < 64 = omega arith in
    let room : 2 ^ W < 2 ^ 64 = pow-lt low in
    from_bits 64 (omega (arith, room)) (λ i j. bit_ones W i)
word_is (suc (suc zero)) W h k = fresh_word_lem W
word_is (suc (suc (suc r))) W h k = absurd (omega arith)

pub fresh_is : FreshIs
unfolding fresh Fresh.fresh Fresh.fresh_tables Fresh.fresh_domains
fresh_is g l = rw (word_is g.rule g.ways (omega (arith, l.rule_known)) (omega (arith, l.ways_most)))
