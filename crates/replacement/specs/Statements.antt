-- What is claimed of the replacement rules and their calls, as closed statements. The theorem of each has its name in small letters, stands in proofs/,
-- and is of exactly that type; those of `RuleLaws` and `RuleIsolates` are `laws` and `isolates`.
use Rattle.std.specs.Prelude.{◌≡◌, true, false, ℕ, ◌^◌, ◌≤◌, ◌<◌, Result}
use Rattle.waymap.specs.Bits.{reaches}
use Rattle.replacement.specs.Rule.{tree, nru, lru, rule_of}
use Rattle.replacement.specs.Isolates.{Isolates}
use Rattle.replacement.specs.Laws.{Laws}
use Rattle.nru.specs.declared.Choice.{Choice}
use Rattle.replacement.specs.Calls.{in_limits}
use Rattle.replacement.specs.Refusal.{number_of}
use Rattle.replacement.specs.Answer.{answer_of, outcome_of, choice_of}
use Rattle.replacement.specs.Change.{change_of, change_by}
use Rattle.replacement.specs.declared.Refusal.{Refusal}

-- Every rule that a cache may have meets the laws of `Laws`, for every W up to 16. All that stands above takes its laws from here.
abbrev pub RuleLaws : Type 0
RuleLaws = (rule W : ℕ) → W ≤ 16 → Laws W (rule_of rule W)

abbrev pub TreeLaws : Type 0
TreeLaws = (W : ℕ) → W ≤ 16 → Laws W (tree W)

abbrev pub NruLaws : Type 0
NruLaws = (W : ℕ) → W ≤ 16 → Laws W (nru W)

abbrev pub LruLaws : Type 0
LruLaws = (W : ℕ) → W ≤ 16 → Laws W (lru W)

-- It keeps domains apart. Tree-PLRU and NRU do so for every W up to 64, true LRU for every W up to 16.
abbrev pub RuleIsolates : Type 0
RuleIsolates = (rule W : ℕ) → W ≤ 16 → Isolates W (rule_of rule W)

abbrev pub TreeIsolates : Type 0
TreeIsolates = (W : ℕ) → W ≤ 64 → Isolates W (tree W)

abbrev pub NruIsolates : Type 0
NruIsolates = (W : ℕ) → W ≤ 64 → Isolates W (nru W)

abbrev pub LruIsolates : Type 0
LruIsolates = (W : ℕ) → W ≤ 16 → Isolates W (lru W)

-- Within the limits `change_of` and then `changed` are the rule's change of fill map.
abbrev pub ChangeResets : Type 0
ChangeResets =
    (W rule x old new : ℕ) → old < 2 ^ 16 → new < 2 ^ 16 → in_limits W rule ≡ true → reaches W old ≡ false → reaches W new ≡ false
    → change_by (change_of W rule old new) x ≡ (rule_of rule W).reset old new x

-- What the contracts equate tells any two of the code's refusals and answers apart, and so settles each whole; an answer that is given, whatever word
-- each call was lent.
abbrev pub NumberInjective : Type 0
NumberInjective = (r s : Refusal) → number_of r ≡ number_of s → r ≡ s

abbrev pub ReplyInjective : Type 0
ReplyInjective = (p q : Result (Unit {0}) Refusal) → answer_of p ≡ answer_of q → p ≡ q

abbrev pub ResultInjective : Type 0
ResultInjective = (v w : ℕ) (p q : Result ℕ Refusal) → outcome_of v p ≡ outcome_of w q → p ≡ q

abbrev pub ChoiceInjective : Type 0
ChoiceInjective = (v w : ℕ) (p q : Result Choice Refusal) → choice_of v p ≡ choice_of w q → p ≡ q
