-- The balance on one list, by computing; what it asks for; and why number 7 leaves a neighbour's lines out.
use mathlib.Core.Path.{◌≡◌, refl}
use mathlib.Core.Bool.{true, false}
use mathlib.Core.List.{List, [], ◌∷◌, ◌++◌}
use Prim.Native.Nat.{ℕ}
use native.Mathlib.Omega.{arith}
use Rattle.command.specs.Command.{Command}
use Rattle.domains.specs.Domains.{no_counts, no_domain, domain_of, overflows}
use Rattle.domains.specs.declared.Counts.{Counts}
use Rattle.domains.specs.declared.Domain.{Domain}
use Rattle.geometry.specs.declared.Geometry.{Geometry}
use Rattle.steps.specs.Step.{State, dropped_by, drops_of, step, tables_of}
use Rattle.steps.specs.Run.{answers_of, finally}
use Rattle.steps.specs.Fresh.{fresh}
use Rattle.steps.proofs.Computing.{computing, does, both}
use Rattle.reached.specs.Balance.{held, Balanced}
use Rattle.balance.specs.Tally.{told as told_by, removes, tallied, tally}

-- one set of four ways under Tree-PLRU
abbrev small : Geometry
small = record { sets = 1; ways = 4; rule = 0 }

-- examples/balance.txt: domain 0 fills three ways, evicts a line and flushes one, fills again, and gives way 2 up; domain 1 fills way 3, is removed, comes
-- back and fills it once more.
abbrev first : List Command
first =
    does 0 16 (both 7) ∷ does 0 2 0 ∷ does 0 1 64 ∷ does 0 1 128 ∷ does 1 16 (both 8) ∷ does 1 2 0 ∷ does 0 1 192 ∷ does 0 3 64 ∷ does 0 1 256
    ∷ does 0 16 (both 3) ∷ []

abbrev steps : List Command
steps = first ++ (does 1 16 0 ∷ does 1 16 (both 8) ∷ does 1 1 64 ∷ [])

-- what its listing says
abbrev lines : List (List ℕ)
lines =
    (6 ∷ 0 ∷ 0 ∷ []) ∷ (1 ∷ 2 ∷ []) ∷ (1 ∷ 1 ∷ []) ∷ (1 ∷ 0 ∷ []) ∷ (6 ∷ 0 ∷ 0 ∷ []) ∷ (1 ∷ 3 ∷ []) ∷ (2 ∷ 2 ∷ 0 ∷ 1 ∷ []) ∷ (4 ∷ 1 ∷ 0 ∷ [])
    ∷ (1 ∷ 1 ∷ []) ∷ (6 ∷ 1 ∷ 0 ∷ []) ∷ (6 ∷ 1 ∷ 1 ∷ []) ∷ (6 ∷ 0 ∷ 0 ∷ []) ∷ (1 ∷ 3 ∷ []) ∷ []

abbrev counts_of_zero : Counts
counts_of_zero = record { hits = 0; misses = 5; evicted = 1; written = 1; flushed = 1; fills = 5; dropped = 1 }

abbrev counts_of_one : Counts
counts_of_one = record { hits = 0; misses = 1; evicted = 0; written = 0; flushed = 0; fills = 1; dropped = 0 }

-- a domain's counts, and the lines that it holds
abbrev counts : ℕ → List Command → Counts
counts d cs = (domain_of (finally small cs (fresh small)).domains d).counts

abbrev holds : ℕ → List Command → ℕ
holds d cs = held small d (finally small cs (fresh small))

-- every part of the sum is there: 5 fills are 1 evicted, 1 flushed, 1 dropped and 2 held. The removal of domain 1 drops one line, which no count keeps.
record NotEmpty : Type 0 where
  answers : answers_of small steps (fresh small) ≡ lines
  zero : (counts 0 steps ≡ counts_of_zero) × (holds 0 steps ≡ 2)
  one_before : (counts 1 first ≡ counts_of_one) × (holds 1 first ≡ 1)
  one : (counts 1 steps ≡ counts_of_one) × (holds 1 steps ≡ 1)
  told : (tally 0 steps lines no_counts ≡ counts_of_zero) × (tally 1 steps lines no_counts ≡ counts_of_one)

-- ---- from a fresh cache: on lent tables neither holds

-- Domain 0 has ways 0 and 1, with a line in each, and has counted nothing; or as many dropped lines as there may be.
abbrev lent_state : List ℕ → Domain → Domain → State
lent_state valid zero one = record { tables = tables_of (5 ∷ 6 ∷ 7 ∷ 8 ∷ []) valid (0 ∷ []) (0 ∷ []); domains = record { records = zero ∷ one ∷ [] } }

abbrev has : ℕ → ℕ → Domain
has map dropped = record {
  hit = map;
  fill = map;
  counts = record { hits = 0; misses = 0; evicted = 0; written = 0; flushed = 0; fills = 0; dropped = dropped };
}

record OnLentTables : Type 0 where
  holds : held small 0 (lent_state (3 ∷ []) (has 3 0) no_domain) ≡ 2
  fills : (domain_of (lent_state (3 ∷ []) (has 3 0) no_domain).domains 0).counts ≡ no_counts
  refused : (step small 0 16 (both 1) (lent_state (3 ∷ []) (has 3 4294967295) no_domain)).answer ≡ 7 ∷ 7 ∷ []

-- ---- a neighbour's lines are no drops

-- Domain 0 has way 0 and no line, and asks for way 1, which domain 1 has, with a line and without. Were the neighbour's line a drop of the change, number 7
-- would hold in one state and not in the other, and a verdict would tell of the neighbour's access. As it is, both are refused by 8.
abbrev with_line : State
with_line = lent_state (2 ∷ []) (has 1 4294967295) (has 2 0)

abbrev without_line : State
without_line = lent_state (0 ∷ []) (has 1 4294967295) (has 2 0)

record NeighboursLines : Type 0 where
  letter : overflows (both 2) (dropped_by small 0 (both 2) with_line) (domain_of with_line.domains 0).counts ≡ true
  letter_without : overflows (both 2) (dropped_by small 0 (both 2) without_line) (domain_of without_line.domains 0).counts ≡ false
  drops : (drops_of small 0 (both 2) with_line ≡ 0) × (drops_of small 0 (both 2) without_line ≡ 0)
  refused : ((step small 0 16 (both 2) with_line).answer ≡ 7 ∷ 8 ∷ []) × ((step small 0 16 (both 2) without_line).answer ≡ 7 ∷ 8 ∷ [])

-- ---- computed

computed : NotEmpty × OnLentTables × NeighboursLines
unfolding held told_by removes tallied tally computing
computed = (
  record { answers = refl; zero = (refl, refl); one_before = (refl, refl); one = (refl, refl); told = (refl, refl) },
  record { holds = refl; fills = refl; refused = refl },
  record { letter = refl; letter_without = refl; drops = (refl, refl); refused = (refl, refl) },
)

not_empty : NotEmpty
not_empty = computed.0

-- so the balance does not hold of every state
lent_unbalanced : Balanced small 0 (lent_state (3 ∷ []) (has 3 0) no_domain) → ⊥
unfolding Balanced
lent_unbalanced b = let lent = computed.1 in let sum = rw (lent.holds, lent.fills) at b in omega (arith, sum)

lent_refused : OnLentTables
lent_refused = computed.1

neighbours_lines : NeighboursLines
neighbours_lines = computed.2
