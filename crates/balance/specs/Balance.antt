-- Lines in and lines out, over any list of steps from a fresh cache. Every point of a run is the end of the list up to there, so what is said of the end
-- of any list is said of every point.
use Rattle.std.specs.Prelude.{◌≡◌, true, List, [], ◌∷◌, ℕ, ◌≤◌, ◌<◌}
use Rattle.command.specs.Command.{Command}
use Rattle.domains.specs.Domains.{no_counts, domain_of}
use Rattle.geometry.specs.Geometry.{within}
use Rattle.geometry.specs.declared.Geometry.{Geometry}
use Rattle.selectors.specs.Selectors.{max_cores, fresh_cores}
use Rattle.steps.specs.Step.{State, step}
use Rattle.steps.specs.Run.{answers_of, finally}
use Rattle.steps.specs.Fresh.{fresh}
use Rattle.reached.specs.Balance.{Balanced}
use Rattle.cores.specs.Run.{core_answers, core_finally, fresh_lent}
use Rattle.balance.specs.Tally.{tally, core_tally}

-- What is said of a domain in a state: "fills equal evicted plus flushed plus dropped plus the lines now valid in the domain's hit map"; and no policy
-- change of it, whatever its argument, is refused by 7, which "never happens from a fresh cache".
pub record InBalance (g : Geometry) (d : ℕ) (s : State) : Type 0 where
  pub balanced : Balanced g d s
  pub unspent : (arg : ℕ) → (step g d 16 arg s).answer ≡ 7 ∷ 7 ∷ [] → ⊥

-- After a list of steps, of any domain number, kind and argument. The counts that balance, those of the domain line, are the tally of the listing's own
-- lines since the domain was last removed.
pub record Balance (g : Geometry) (d : ℕ) (cs : List Command) : Type 0 where
  pub in_balance : InBalance g d (finally g cs (fresh g))
  pub counts_told : (domain_of (finally g cs (fresh g)).domains d).counts ≡ tally d cs (answers_of g cs (fresh g)) no_counts

-- The same where n fresh core records are lent.
pub record CoreBalance (g : Geometry) (d n : ℕ) (cs : List Command) : Type 0 where
  pub in_balance : InBalance g d (core_finally g cs (fresh_lent g n)).cache
  pub counts_told : (domain_of (core_finally g cs (fresh_lent g n)).cache.domains d).counts
      ≡ core_tally d (fresh_cores n) cs (core_answers g cs (fresh_lent g n)) no_counts

-- Lines in and lines out: so it is for every geometry within the limits, every domain and every list of steps; and for every number of records up to 32.
abbrev pub LinesInLinesOut : Type 0
LinesInLinesOut = (g : Geometry) → within g ≡ true → (d : ℕ) → d < 16 → (cs : List Command) → Balance g d cs

abbrev pub CoreLinesInLinesOut : Type 0
CoreLinesInLinesOut = (g : Geometry) → within g ≡ true → (d : ℕ) → d < 16 → (n : ℕ) → n ≤ max_cores → (cs : List Command) → CoreBalance g d n cs
