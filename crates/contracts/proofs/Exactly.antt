-- A contract without `requires` that says just what is said.
use Rattle.contracts.specs.Contract.{Held}

module _ {L : Type 0} {A R E : L → Type 0} {said : (κs : L) → A κs → R κs → E κs → Type 0} where
  pub exactly : Held (λ κs a. Unit {0}) said said
  exactly = record { asks_nothing = λ κs a. tt; settles = λ κs a r e h. h }
