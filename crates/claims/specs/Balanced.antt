-- Lines in and lines out once more.
use Rattle.std.specs.Prelude.{◌≡◌, true, List, ℕ, ◌+◌, ◌≤◌, ◌<◌}
use Rattle.waymap.specs.Bits.{bit}
use Rattle.row.specs.Row.{lines_in}
use Rattle.command.specs.Command.{Command}
use Rattle.command.specs.Answer.{answer_of}
use Rattle.command.specs.declared.Answer.TheVariants.{Refused}
use Rattle.domains.specs.Domains.{no_counts, domain_of, policies}
use Rattle.domains.specs.declared.Counts.{Counts}
use Rattle.geometry.specs.Geometry.{within}
use Rattle.geometry.specs.declared.Geometry.{Geometry}
use Rattle.selectors.specs.Selectors.{max_cores, fresh_cores}
use Rattle.steps.specs.Tables.{total}
use Rattle.steps.specs.Step.{State, step}
use Rattle.steps.specs.Run.{answers_of, finally}
use Rattle.steps.specs.Fresh.{fresh}
use Rattle.cores.specs.Run.{core_answers, core_finally, fresh_lent}
use Rattle.balance.specs.Tally.{tally, core_tally}

-- The lines now valid in the domain's hit map, over all sets.
abbrev pub held_now : Geometry → ℕ → State → ℕ
held_now g d s = total g.ways g.sets (lines_in (bit (policies g.ways s.domains d).hit)) s.tables

-- Of a domain in a state, and what its counts should be: lines out and lines held are the lines in, no policy change is answered `refused 7`, and each of
-- the seven counts is the one that was told.
pub record Accounts (g : Geometry) (d : ℕ) (s : State) (told : Counts) : Type 0 where
  pub sum : let c = (domain_of s.domains d).counts in held_now g d s + (c.dropped + (c.flushed + c.evicted)) ≡ c.fills
  pub not_seven : (arg : ℕ) → (step g d 16 arg s).answer ≡ answer_of (Refused 7) → ⊥
  pub hits : (domain_of s.domains d).counts.hits ≡ told.hits
  pub misses : (domain_of s.domains d).counts.misses ≡ told.misses
  pub evicted : (domain_of s.domains d).counts.evicted ≡ told.evicted
  pub written : (domain_of s.domains d).counts.written ≡ told.written
  pub flushed : (domain_of s.domains d).counts.flushed ≡ told.flushed
  pub fills : (domain_of s.domains d).counts.fills ≡ told.fills
  pub dropped : (domain_of s.domains d).counts.dropped ≡ told.dropped

-- After any list of steps from fresh, without records and with up to 32.
abbrev pub Accounted : Type 0
Accounted =
    (g : Geometry) → within g ≡ true → (d : ℕ) → d < 16 → (cs : List Command)
    → Accounts g d (finally g cs (fresh g)) (tally d cs (answers_of g cs (fresh g)) no_counts)

abbrev pub CoreAccounted : Type 0
CoreAccounted =
    (g : Geometry) → within g ≡ true → (d : ℕ) → d < 16 → (n : ℕ) → n ≤ max_cores → (cs : List Command)
    → Accounts g d (core_finally g cs (fresh_lent g n)).cache (core_tally d (fresh_cores n) cs (core_answers g cs (fresh_lent g n)) no_counts)
