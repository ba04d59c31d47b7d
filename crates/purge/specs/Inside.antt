-- What the crate's inner functions go by.
use Rattle.std.specs.Prelude.{Bool, cond, List, ℕ, ◌+◌, set}
use Rattle.purge.specs.Calls.{Taken}

-- One step taken into place n, if it is kept.
unfoldable pub take_one : Bool → ℕ → ℕ → ℕ → List ℕ → List ℕ → Taken
take_one kept code argument n codes arguments =
    cond kept
    (record { number = 0; count = n + 1; codes = set codes n code; arguments = set arguments n argument })
    (record { number = 0; count = n; codes = codes; arguments = arguments })
