-- What is equal in the run and in the struck-out run.
use Rattle.std.specs.Prelude.{◌≡◌, Bool, true, cond, not, ◌&&◌, List, [], ◌∷◌, map, ℕ, ◌<◌, eqb}
use Rattle.replacement.specs.Rule.{rule_of}
use Rattle.row.specs.View.{SameView}
use Rattle.domains.specs.Domains.{domain_of, policies}
use Rattle.geometry.specs.Geometry.{within}
use Rattle.geometry.specs.declared.Geometry.{Geometry}
use Rattle.steps.specs.Tables.{row_at}
use Rattle.steps.specs.Step.{State}
use Rattle.command.specs.Command.{Command}
use Rattle.steps.specs.Run.{answers_of, finally}
use Rattle.steps.specs.Fresh.{fresh}
use Rattle.purge.specs.Purge.{belongs, purge}

-- Of the answers of a run, those to the steps that pass a test.
unfoldable pub answers_to : (Command → Bool) → List Command → List (List ℕ) → List (List ℕ)
answers_to p [] answers = []
answers_to p (c ∷ cs) [] = []
answers_to p (c ∷ cs) (a ∷ answers) = cond (p c) (a ∷ answers_to p cs answers) (answers_to p cs answers)

-- "the whole answers to the steps that belong to the chosen domain, first to last, refusal numbers too"
unfoldable pub own_answers : Geometry → ℕ → List Command → State → List (List ℕ)
own_answers g d cs s = answers_to (belongs d) cs (answers_of g cs s)

-- Whether an answer is a refusal, word 7, and its number if so; 0 for a step that is accepted.
unfoldable pub number_of : List ℕ → ℕ
number_of [] = 0
number_of (w ∷ []) = 0
number_of (w ∷ n ∷ rest) = cond (eqb w 7) n 0

-- "for each policy change of another domain, whether it is accepted, and the number if it is not"
unfoldable pub verdicts : Geometry → ℕ → List Command → State → List ℕ
verdicts g d cs s = map number_of (answers_to (λ c. eqb c.kind 16 && not (belongs d c)) cs (answers_of g cs s))

-- What the chosen domain can see at the end: "both its maps and all its counts; then, in every set, the valid bit, dirty bit and tag of
-- each of its ways, which are the ways in its hit map at that moment, and its own replacement bits".
pub record SameTo (g : Geometry) (d : ℕ) (a b : State) : Type 0 where
  pub domain : domain_of a.domains d ≡ domain_of b.domains d
  pub sets : (s : ℕ) → s < g.sets
      → SameView (rule_of g.rule g.ways) (policies g.ways a.domains d) (row_at g.ways s a.tables) (row_at g.ways s b.tables)

-- A list of steps and its purge, each from a fresh cache of the same geometry, are the same to the chosen domain.
pub record StruckOut (g : Geometry) (d : ℕ) (cs : List Command) : Type 0 where
  pub answers_same : own_answers g d cs (fresh g) ≡ own_answers g d (purge d cs) (fresh g)
  pub verdicts_same : verdicts g d cs (fresh g) ≡ verdicts g d (purge d cs) (fresh g)
  pub finally_same : SameTo g d (finally g cs (fresh g)) (finally g (purge d cs) (fresh g))

-- Isolation: so it is for every geometry within the limits, every domain, and every list of steps of any length, whatever domains, kinds and arguments they
-- have.
abbrev pub Isolation : Type 0
Isolation = (g : Geometry) → within g ≡ true → (d : ℕ) → d < 16 → (cs : List Command) → StruckOut g d cs
