-- What is claimed of steps and runs, as closed statements. The theorem of each has its name in small letters, stands in proofs/, and is of exactly that
-- type.
use Rattle.std.specs.Prelude.{◌≡◌, true, false, List, [], ◌∷◌, ℕ, ◌*◌, ◌≤◌, ◌<◌, get_or}
use Rattle.waymap.specs.Bits.{Bits}
use Rattle.replacement.specs.Rule.{Rule, rule_of}
use Rattle.policy.specs.Policy.{as_read, new_maps}
use Rattle.command.specs.Command.{Command}
use Rattle.row.specs.Row.{lines_in}
use Rattle.sweep.specs.Number.{lines_among}
use Rattle.domains.specs.Domains.{domain_of, maps_of, policies}
use Rattle.verdict.specs.Refusal.{shares_way}
use Rattle.geometry.specs.Geometry.{max_sets, within}
use Rattle.geometry.specs.Inside.{Limited}
use Rattle.geometry.specs.declared.Geometry.{Geometry}
use Rattle.steps.specs.Tables.{Tables, row_at, total}
use Rattle.steps.specs.Step.{State, dropped_by, drops_of, step}
use Rattle.steps.specs.Run.{step_on, finally}
use Rattle.steps.specs.Fresh.{fresh}
use Rattle.steps.specs.Inside.{Shaped, Whole}

-- ---- What a step can answer, whatever its numbers and whatever the state holds

-- A step that answers word 7, `refused`, leaves the state as it was.
abbrev pub RefusedStays : Type 0
RefusedStays = (g : Geometry) (d kind arg : ℕ) (s : State) → get_or (step g d kind arg s).answer 0 0 ≡ 7 → (step g d kind arg s).state ≡ s

-- No refusal has number 0.
abbrev pub NoRefusalZero : Type 0
NoRefusalZero = (g : Geometry) (c : Command) (s : State) → (step_on g c s).answer ≡ 7 ∷ 0 ∷ [] → ⊥

-- Only a policy change, kind 16, answers word 6, `policy`.
abbrev pub PolicyWord : Type 0
PolicyWord = (g : Geometry) (d kind arg : ℕ) (s : State) → get_or (step g d kind arg s).answer 0 0 ≡ 6 → kind ≡ 16

-- The answer to a policy change is `policy` with two numbers, or `refused` with one that is not 0.
pub data PolicyAnswered : List ℕ → Type 0 where
  changed : (dropped dirty : ℕ) → PolicyAnswered (6 ∷ dropped ∷ dirty ∷ [])
  turned_down : (n : ℕ) → (n ≡ 0 → ⊥) → PolicyAnswered (7 ∷ n ∷ [])

abbrev pub PolicyAnswer : Type 0
PolicyAnswer = (g : Geometry) (d arg : ℕ) (s : State) → PolicyAnswered (step g d 16 arg s).answer

-- Within the limits neither of the two is above 65,536, sixteen lines for each of 4,096 sets.
abbrev pub DropsMost : Type 0
DropsMost =
    (g : Geometry) (d arg : ℕ) (s : State) → Limited g → (n m : ℕ) → (step g d 16 arg s).answer ≡ 6 ∷ n ∷ m ∷ []
    → (n ≤ max_sets * 16) × (m ≤ max_sets * 16)

-- The lines that number 7 looks at are, of a change that number 8 lets pass, all that it drops.
abbrev pub DropsAll : Type 0
DropsAll =
    (g : Geometry) (e arg : ℕ) (s : State) → shares_way (policies g.ways s.domains) e (new_maps arg) ≡ false
    → drops_of g e arg s ≡ dropped_by g e arg s

-- ---- Lines counted

-- In tables of their lengths `lines_among` is `lines_in`, the lines of one set, added up over the sets: for every map of ways of the cache.
abbrev pub AmongTotal : Type 0
AmongTotal =
    (g : Geometry) (t : Tables) → Shaped g t → (map : Bits) → ((w : ℕ) → g.ways ≤ w → map w ≡ false)
    → lines_among map t.valid ≡ total g.ways g.sets (lines_in map) t

-- ---- What every state of a run from a fresh cache is like

-- The tables have their lengths, there are sixteen domains, and every stored policy is as it is read.
pub record Kept (g : Geometry) (limits : within g ≡ true) (s : State) : Type 0 where
  pub whole : Whole g s
  pub as_stored : (e : ℕ) → as_read g.ways (maps_of (domain_of s.domains e)) ≡ maps_of (domain_of s.domains e)

abbrev pub RunKept : Type 0
RunKept = (g : Geometry) (limits : within g ≡ true) (cs : List Command) → Kept g limits (finally g cs (fresh g))

-- What a fresh word has, and every word that the rule makes of one that has it.
pub record Lasting (R : Rule) (P : ℕ → Type 0) : Type 0 where
  pub begins : P R.fresh
  pub before : (map x : ℕ) → P x → P (R.before map x)
  pub touch : (map w x : ℕ) → P x → P (R.touch map w x)
  pub reset : (old new x : ℕ) → P x → P (R.reset old new x)

-- Every word in every such state has it.
abbrev pub WordsLast : Type 1
WordsLast =
    (g : Geometry) → within g ≡ true → (P : ℕ → Type 0) → Lasting (rule_of g.rule g.ways) P
    → (cs : List Command) (i : ℕ) → i < g.sets → P (row_at g.ways i (finally g cs (fresh g)).tables).word
