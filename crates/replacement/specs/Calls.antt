-- What the public calls answer.
use Rattle.std.specs.Prelude.{Bool, true, false, cond, not, ◌&&◌, List, [], ◌∷◌, ℕ, ltb}
use Rattle.waymap.specs.Bits.{bit, any, reaches}
use Rattle.waymap.specs.Ways.{is_ways}
use Rattle.replacement.specs.Rule.{rule_of}

-- An answer, document 01's number and values, with the word that the call leaves.
pub record Result : Type 0 where
  pub answer : List ℕ
  pub word : ℕ

-- "Rule: 0 Tree-PLRU, 1 NRU", and "1 now admits rule 2".
unfoldable pub in_limits : ℕ → ℕ → Bool
in_limits W rule = is_ways W && ltb rule 3

-- "they answer 1 for a W or rule outside the limits, then 5 for a map or touched way reaching W or higher": what a call gives, by whether
-- W and rule are within the limits, whether its maps and way are within W, and what a refusal and the call itself give.
module _ {A : Type 0} where
  abbrev pub checked : Bool → Bool → (ℕ → A) → A → A
  checked false reach refuse given = refuse 1
  checked true false refuse given = refuse 5
  checked true true refuse given = given

-- "the word is then unchanged"
abbrev pub refusing : ℕ → ℕ → Result
refusing word n = record { answer = n ∷ []; word = word }

-- The victim of a word and a fill map, and the word before its touch.
unfoldable pub victim_of : ℕ → ℕ → ℕ → ℕ → Result
victim_of W rule word map =
    checked (in_limits W rule) (not (reaches W map) && any 16 (bit map)) (refusing word)
    (record { answer = 0 ∷ (rule_of rule W).victim map word ∷ []; word = (rule_of rule W).before map word })

-- The word after a touch of a way.
unfoldable pub touch_of : ℕ → ℕ → ℕ → ℕ → ℕ → Result
touch_of W rule word map way =
    checked (in_limits W rule) (not (reaches W map) && ltb way W) (refusing word)
    (record { answer = 0 ∷ []; word = (rule_of rule W).touch map way word })

-- The word of a fresh cache; 0 where the call is refused.
unfoldable pub fresh_of : ℕ → ℕ → Result
fresh_of W rule = checked (in_limits W rule) true (refusing 0) (record { answer = 0 ∷ []; word = (rule_of rule W).fresh })

-- The own part of a word for a fill map.
unfoldable pub own_of : ℕ → ℕ → ℕ → ℕ → Result
own_of W rule word map =
    checked (in_limits W rule) (not (reaches W map)) (refusing word) (record { answer = 0 ∷ []; word = (rule_of rule W).part map word })

-- Whether two domains may have these fill maps: 9 where the rule has them share a node.
unfoldable pub shares_of : ℕ → ℕ → ℕ → ℕ → List ℕ
shares_of W rule map other =
    checked (in_limits W rule) (not (reaches W map) && not (reaches W other)) (λ n. n ∷ [])
    (cond ((rule_of rule W).shares map other) 9 0 ∷ [])
