-- What the laws of the balance go by.
use Rattle.std.specs.Prelude.{◌≡◌, false, ℕ, ◌≤◌, ◌<◌}
use Rattle.waymap.specs.Bits.{bit}
use Rattle.policy.specs.declared.Maps.{Maps}
use Rattle.domains.specs.Domains.{largest, domain_of, policies}
use Rattle.geometry.specs.declared.Geometry.{Geometry}
use Rattle.steps.specs.Tables.{row_at}
use Rattle.steps.specs.Step.{State}

-- A way that no domain holds; that such ways have no line; and that a domain's fills fit their count.
abbrev pub Unowned : (ℕ → Maps) → ℕ → Type 0
Unowned policy w = (f : ℕ) → f < 16 → bit (policy f).hit w ≡ false

abbrev pub Empty : Geometry → State → Type 0
Empty g s = (w i : ℕ) → w < g.ways → i < g.sets → Unowned (policies g.ways s.domains) w → bit (row_at g.ways i s.tables).valid w ≡ false

abbrev pub FillsFit : ℕ → State → Type 0
FillsFit d s = (domain_of s.domains d).counts.fills ≤ largest
