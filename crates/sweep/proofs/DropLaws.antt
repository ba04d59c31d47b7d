-- The drops that answers tell of.
use Rattle.std.proofs.Common.{◌≡◌, ℕ, refl, mod-eq_of_lt}
use Rattle.command.specs.declared.Answer.{Answer}
use Rattle.command.specs.declared.Answer.TheVariants.{Hit, Fill, Evict, Pass, Flush, Absent, Policy, Refused}
use Rattle.sweep.specs.Drops.{drops_in, added_to}
use Rattle.sweep.specs.Statements.{AddedFits}

-- only a change of policy drops lines
pub no_drops : (a : Answer) → ((n d : ℕ) → a ≡ Policy n d → ⊥) → record { dropped = 0; dirty = 0 } ≡ drops_in a
no_drops (Hit w) h = refl
no_drops (Fill w) h = refl
no_drops (Evict w tag dirty) h = refl
no_drops Pass h = refl
no_drops (Flush w dirty) h = refl
no_drops Absent h = refl
no_drops (Policy n d) h = absurd (h n d refl)
no_drops (Refused n) h = refl

-- sums that fit are plain sums
pub added_fits : AddedFits
unfolding added_to
added_fits d a h k = λ i. record { dropped = mod-eq_of_lt h i; dirty = mod-eq_of_lt k i }
