-- That what an input has was shown.
use Rattle.std.specs.Prelude.{◌≡◌, ℕ, List, take, Option, IfSome, Result}

-- By a call of which `shows` tells: it was lent an output that held `out` and a file, which is what the input has, up to 40,969 bytes, if that is known; it
-- answered r and left `out'`.
abbrev pub ShownBy : {W E : Type 0} → (W → List ℕ → Result (Unit {0}) E → W → Type 0) → W → W → Option (List ℕ) → Result (Unit {0}) E → Type 0
ShownBy shows out out' known r = (file : List ℕ) × shows out file r out' × IfSome known (λ bytes. file ≡ take 40969 bytes)
