-- What a step's kind asks for.
use Rattle.std.specs.Prelude.{Bool, true, false, cond, ℕ, eqb, ltb}
use Rattle.command.specs.declared.Asked.{Asked}
use Rattle.command.specs.declared.Asked.TheVariants.{Line, Policy, Unknown}
use Rattle.command.specs.declared.LineUse.{LineUse}
use Rattle.command.specs.declared.LineUse.TheVariants.{Load, Store, Flush}

-- "Kinds: 0 instruction fetch, 1 load, 2 store, 3 flush, 16 policy. Kinds 4 to 15 and 17 to 255 are unknown." An access is told to store
-- or not.
pub data Kind : Type 0 where
  access : Bool → Kind
  flush : Kind
  policy : Kind
  unknown : Kind

-- The kind of a number.
unfoldable pub kind_of : ℕ → Kind
kind_of k = cond (ltb k 3) (access (eqb k 2)) (cond (eqb k 3) flush (cond (eqb k 16) policy unknown))

-- What the code's kinds are among document 01's. Law `kind_injective`: it tells any two of them apart.
abbrev pub use_is : LineUse → Kind
use_is Load = access false
use_is Store = access true
use_is Flush = flush

abbrev pub kind_is : Asked → Kind
kind_is (Line w) = use_is w
kind_is Policy = policy
kind_is Unknown = unknown
