-- What the call that makes tables fresh gives.
use Rattle.std.specs.Prelude.{cond, not, ℕ}
use Rattle.geometry.specs.Geometry.{within, sized}
use Rattle.geometry.specs.declared.Geometry.{Geometry}
use Rattle.steps.specs.Tables.{Tables, lengths}
use Rattle.steps.specs.Fresh.{fresh_tables}

-- 0 and fresh tables; or "1: geometry outside the limits", "2: a table whose length is not exactly the one above", and the tables as they
-- were.
pub record Made : Type 0 where
  pub number : ℕ
  pub tables : Tables

abbrev pub made_of : ℕ → Tables → Made
made_of n t = record { number = n; tables = t }

unfoldable pub fresh_of : Geometry → Tables → Made
fresh_of g t =
    cond (not (within g)) (made_of 1 t) (cond (not (sized g (lengths t))) (made_of 2 t) (made_of 0 (fresh_tables g)))
