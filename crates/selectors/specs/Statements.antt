-- What is claimed of the contract of `meant`, as a closed statement. The theorem has its name in small letters, stands in proofs/, and is of exactly that
-- type.
use Rattle.std.specs.Prelude.{◌≡◌, Result}
use Rattle.command.specs.declared.Refusal.{Refusal}
use Rattle.selectors.specs.Calls.{meaning_is}
use Rattle.selectors.specs.declared.Meaning.{Meaning}

-- What the contract equates tells any two of the code's meanings and refusals apart, and so settles each whole.
abbrev pub MeaningInjective : Type 0
MeaningInjective = (p q : Result Meaning Refusal) → meaning_is p ≡ meaning_is q → p ≡ q
