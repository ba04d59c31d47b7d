-- Where a set's row lies, and where an address's line can be.
use mathlib.Core.Path.{◌≡◌, refl, ap}
use Prim.Native.Nat.{ℕ, ◌+◌, ◌*◌, ◌<◌}
use Rattle.geometry.specs.Inside.{Limited}
use Rattle.geometry.specs.declared.Geometry.{Geometry}
use Rattle.geometry.specs.Address.{place_of}
use Rattle.geometry.proofs.AddressLaws.{set_below}
use Rattle.steps.proofs.SetLaws.{row_within}
use Rattle.cache.specs.Inside.{RowOf, PlaceOf}
use Rattle.geometry.specs.declared.Place.{Place}

pub span_is : (g : Geometry) (s : ℕ) → s < g.sets → RowOf g s (s * g.ways) (s * g.ways + g.ways)
span_is g s h = record { start_is = refl; stop_is = refl; stop_le = row_within s g.sets g.ways h }

pub place_is : (g : Geometry) (address : ℕ) {p : Place} → Limited g → p ≡ place_of g address → PlaceOf g address p
unfolding place_of
place_is g address l e = record { set_is = ap (λ (q : Place). q.set) e; set_lt = rw e (set_below g address l); tag_is = ap (λ (q : Place). q.tag) e }
