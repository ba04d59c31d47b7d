-- That what an input has was shown.
use Rattle.std.specs.Prelude.{◌≡◌, ℕ, List, take, Option, IfSome, Result}
use denote.Ref.{Bor, MutBor}

-- By a call of a value whose calls `post` tells of: it was lent an output that held `out` and the file, which is what the input has, up to 40,969 bytes, if that is
-- known; it answered r and left `out'`.
abbrev pub Shown : {W E : Type 0} → (MutBor W → Bor (List ℕ) → Result (Unit {0}) E → MutBor W → Type 0) → W → W → Option (List ℕ) → Result (Unit {0}) E → Type 0
Shown {W} post out out' known r =
    (lent : MutBor W) × (file : Bor (List ℕ)) × (left : MutBor W)
    × post lent file r left × (lent.now ≡ out) × (left.now ≡ out') × IfSome known (λ bytes. file.now ≡ take 40969 bytes)
