-- What locking is for: what holds of a domain's locked lines over any list of steps, by anybody.
use Rattle.std.specs.Prelude.{◌≡◌, Bool, true, cond, not, ◌&&◌, List, [], ◌∷◌, ℕ, ◌+◌, ◌-◌, ◌<◌, eqb, ltb, length}
use Rattle.replacement.specs.Rule.{rule_of}
use Rattle.command.specs.Answer.{answer_of}
use Rattle.command.specs.Command.{Command}
use Rattle.command.specs.declared.Answer.TheVariants.{Hit}
use Rattle.domains.specs.Domains.{domain_of, maps_of, policies}
use Rattle.domains.specs.declared.Counts.{Counts}
use Rattle.geometry.specs.Geometry.{within}
use Rattle.geometry.specs.declared.Geometry.{Geometry}
use Rattle.steps.specs.Tables.{row_at}
use Rattle.steps.specs.Step.{State}
use Rattle.steps.specs.Run.{step_on, answers_of, finally}
use Rattle.steps.specs.Fresh.{fresh}
use Rattle.purge.specs.Purge.{belongs}
use Rattle.isolation.specs.StruckOut.{answers_to, own_answers, number_of}
use Rattle.locking.specs.Locked.{locked_in, is_locked, same_line, SameUnlocked}

-- ---- What a domain does

-- Its policy changes, its flushes and its accesses (kinds 0 to 2), of addresses that pass a test.
abbrev pub changes : ℕ → Command → Bool
changes d c = belongs d c && eqb c.kind 16

abbrev pub flushes : ℕ → (ℕ → Bool) → Command → Bool
flushes d at c = belongs d c && eqb c.kind 3 && at c.argument

abbrev pub accesses : ℕ → (ℕ → Bool) → Command → Bool
accesses d at c = belongs d c && ltb c.kind 3 && at c.argument

-- Of a run, that the answer to each step that passes a test is as said.
unfoldable pub Answered : Geometry → (Command → Bool) → (List ℕ → Type 0) → List Command → State → Type 0
Answered g p said [] s = Unit {0}
Answered g p said (c ∷ cs) s = (p c ≡ true → said (step_on g c s).answer) × Answered g p said cs (step_on g c s).state

-- The domain lets lines whose addresses pass a test be locked: none of its policy changes is accepted, and none of its flushes of them.
pub record Stands (g : Geometry) (d : ℕ) (at : ℕ → Bool) (cs : List Command) (s : State) : Type 0 where
  pub unchanged : Answered g (changes d) (λ a. number_of a ≡ 0 → ⊥) cs s
  pub unflushed : Answered g (flushes d at) (λ a. number_of a ≡ 0 → ⊥) cs s

-- No step of the domain is refused by 7.
abbrev pub Unspent : Geometry → ℕ → List Command → State → Type 0
Unspent g d cs s = Answered g (belongs d) (λ a. number_of a ≡ 7 → ⊥) cs s

-- ---- Steps struck out

-- A list in its order without the steps that pass a test.
unfoldable pub strike : (Command → Bool) → List Command → List Command
strike p [] = []
strike p (c ∷ cs) = cond (p c) (strike p cs) (c ∷ strike p cs)

-- The domain's accesses to the lines that are locked for it in a state, its other steps, and the list without those accesses.
abbrev pub to_locked : Geometry → ℕ → State → Command → Bool
to_locked g d s c = accesses d (is_locked g d s) c

abbrev pub otherwise : Geometry → ℕ → State → Command → Bool
otherwise g d s c = belongs d c && not (to_locked g d s c)

abbrev pub rest : Geometry → ℕ → State → List Command → List Command
rest g d s cs = strike (to_locked g d s) cs

-- Counts that are the same but for the hits, of which the first has n more.
pub record SameButHits (n : ℕ) (c k : Counts) : Type 0 where
  pub hits : c.hits ≡ k.hits + n
  pub misses : c.misses ≡ k.misses
  pub evicted : c.evicted ≡ k.evicted
  pub written : c.written ≡ k.written
  pub flushed : c.flushed ≡ k.flushed
  pub fills : c.fills ≡ k.fills
  pub dropped : c.dropped ≡ k.dropped

-- What the domain sees is the same whether or not it accesses its locked lines: the answers to its other steps, its maps, its counts but for a hit less
-- for each access left out, and in every set its other lines and its own replacement data.
pub record Unsteered (g : Geometry) (d : ℕ) (cs : List Command) (s : State) : Type 0 where
  pub answers_same : answers_to (otherwise g d s) cs (answers_of g cs s) ≡ own_answers g d (rest g d s cs) s
  pub maps_same : maps_of (domain_of (finally g cs s).domains d) ≡ maps_of (domain_of (finally g (rest g d s cs) s).domains d)
  pub counts_same : SameButHits (length cs - length (rest g d s cs)) (domain_of (finally g cs s).domains d).counts
      (domain_of (finally g (rest g d s cs) s).domains d).counts
  pub sets_same : (i : ℕ) → i < g.sets
      → SameUnlocked (rule_of g.rule g.ways) (policies g.ways (finally g cs s).domains d) (row_at g.ways i (finally g cs s).tables)
      (row_at g.ways i (finally g (rest g d s cs) s).tables)

-- ---- The three things

-- Over further steps from a state: while the domain lets a locked line stand, it stays, valid, with its tag and in its way; the domain's accesses to its
-- address hit that way; and if it lets all its locked lines stand, its accesses to them steer nothing.
pub record Locking (g : Geometry) (d : ℕ) (cs : List Command) (s : State) : Type 0 where
  pub stays : (address w : ℕ) → locked_in g d s address w ≡ true → Stands g d (same_line address) cs s → locked_in g d (finally g cs s) address w ≡ true
  pub hits : (address w : ℕ) → locked_in g d s address w ≡ true → Stands g d (same_line address) cs s → Unspent g d cs s
      → Answered g (accesses d (same_line address)) (λ a. a ≡ answer_of (Hit w)) cs s
  pub unsteered : Stands g d (is_locked g d s) cs s → Unspent g d cs s → Unsteered g d cs s

-- Locked lines: so it is for every geometry within the limits, every domain, every state that a run from a fresh cache reaches, after any list of steps, and
-- every further list.
abbrev pub LockedLines : Type 0
LockedLines = (g : Geometry) → within g ≡ true → (d : ℕ) → d < 16 → (past cs : List Command) → Locking g d cs (finally g past (fresh g))
