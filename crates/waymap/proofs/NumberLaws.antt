-- The numbers of ways: what the test finds, and what such a number is.
use mathlib.Core.Path.{◌≡◌, sym, ◌∙◌}
use mathlib.Core.Logic.{◌⊎◌, inl, inr}
use mathlib.Core.Bool.{true, false, not, true≢false}
use Prim.Native.Nat.{ℕ, suc, ◌^◌, ◌<◌}
use native.Mathlib.Omega.{arith}
use lib.Dec.{eqb, ltb}
use lib.Pow.{pow_mono}
use borrow.Author.Tests.{eqb-true, ne_eqb, ltb-true, ltb-false, not-true}
use Rattle.waymap.specs.Bits.{bit, any, reaches}
use Rattle.waymap.specs.Ways.{is_ways, takes, Sized}
use Rattle.waymap.proofs.Booleans.{cases, and_left, and_right}
use Rattle.waymap.proofs.WordLaws.{bit_high}
use Rattle.waymap.proofs.WayLaws.{any_found}
use Rattle.waymap.proofs.MapLaws.{below_reach}

pub is_ways_lem : (W : ℕ) → (W ≡ 2) ⊎ ((W ≡ 4) ⊎ ((W ≡ 8) ⊎ (W ≡ 16))) → is_ways W ≡ true
unfolding is_ways any
is_ways_lem W (inl e) = rw e
is_ways_lem W (inr (inl e)) = rw e
is_ways_lem W (inr (inr (inl e))) = rw e
is_ways_lem W (inr (inr (inr e))) = rw e

pub not_ways : (W : ℕ) → ((W ≡ 2) ⊎ ((W ≡ 4) ⊎ ((W ≡ 8) ⊎ (W ≡ 16))) → ⊥) → is_ways W ≡ false
unfolding is_ways any
not_ways W no_one =
    rw (
      ne_eqb W 2 (λ e. no_one (inl e)),
      ne_eqb W 4 (λ e. no_one (inr (inl e))),
      ne_eqb W 8 (λ e. no_one (inr (inr (inl e)))),
      ne_eqb W 16 (λ e. no_one (inr (inr (inr e)))),
    )

-- such a number is a power of two from 2 to 16
pub sized : (W : ℕ) → is_ways W ≡ true → Sized W
unfolding is_ways
sized W e = of_power (any_found 4 (λ (k : ℕ). eqb W (2 ^ suc k)) e)
  where
    of_power : (k : ℕ) × (k < 4) × (eqb W (2 ^ suc k) ≡ true) → Sized W
    of_power r =
        let power : W ≡ 2 ^ suc r.0 = eqb-true W (2 ^ suc r.0) r.2 in
        record {
          depth = r.0;
          power = power;
          least = rw power (pow_mono {i = 1} {j = suc r.0} (omega arith));
          most = rw power (pow_mono {i = suc r.0} {j = 4} r.1);
        }

-- ---- a map that a number of ways takes

module _ (W map : ℕ) (t : takes W map ≡ true) where
  pub takes_sized : Sized W
  unfolding takes
  takes_sized = sized W (and_left (is_ways W) (not (reaches W map)) t)

  pub takes_reach : reaches W map ≡ false
  unfolding takes
  takes_reach = not-true (reaches W map) (and_right (is_ways W) (not (reaches W map)) t)

  pub takes_below : map < 2 ^ 16 → map < 2 ^ W
  takes_below h = below_reach W map h takes_reach

  -- a way of the map is a way of the cache
  pub takes_way : map < 2 ^ 16 → (w : ℕ) → bit map w ≡ true → w < W
  takes_way h w e =
      cases (ltb w W) (λ k. ltb-true w W k) (λ k. absurd (true≢false (sym e ∙ bit_high W map w (takes_below h) (ltb-false w W k))))

pub takes_both : (W map : ℕ) → is_ways W ≡ true → reaches W map ≡ false → takes W map ≡ true
unfolding takes
takes_both W map w r = rw (w, r)
