-- A domain's policy: document 01, "Geometry and tables" and "Steps". A policy is a hit map and a fill map.
use Rattle.std.specs.Prelude.{◌≡◌, Bool, true, not, ◌&&◌, ◌||◌, ℕ, ◌/◌, ◌%◌, ◌<◌, eqb, ltb}
use Rattle.waymap.specs.Bits.{bit, word, any, reaches}
use Rattle.policy.specs.declared.Maps.{Maps}

-- "A stored policy may hold anything. It is read with ways of W or more left out of both maps and the fill map cut to its hit map".
unfoldable pub as_read : ℕ → Maps → Maps
as_read W p = record {
  hit = word 16 (λ w. bit p.hit w && ltb w W);
  fill = word 16 (λ w. bit p.fill w && (bit p.hit w && ltb w W));
}

-- What maps as read have: the fill map is part of the hit map, and both are within the ways.
pub record Cut (W : ℕ) (p : Maps) : Type 0 where
  pub part : (w : ℕ) → bit p.fill w ≡ true → bit p.hit w ≡ true
  pub within : (w : ℕ) → bit p.hit w ≡ true → w < W

-- "The argument holds the hit map (low 16 bits), the fill map (next 16) and zeros".
unfoldable pub new_maps : ℕ → Maps
new_maps arg = record { hit = arg % 65536; fill = arg / 65536 % 65536 }

-- "5: policy argument with a way W or higher, a fill map that is not part of the hit map, or a high bit set."
unfoldable pub bad_argument : ℕ → ℕ → Bool
bad_argument W arg =
    reaches W (new_maps arg).hit || any 16 (λ w. bit (new_maps arg).fill w && not (bit (new_maps arg).hit w))
    || not (eqb (arg / 4294967296) 0)
