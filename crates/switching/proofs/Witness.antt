-- The theorem is neither empty nor slack: one core that switches between two domains, computed in both runs.
use mathlib.Core.Path.{◌≡◌, refl}
use mathlib.Core.Bool.{cond}
use mathlib.Core.List.{List, [], ◌∷◌}
use Prim.Native.Nat.{ℕ}
use Rattle.command.specs.Command.{Command}
use Rattle.domains.specs.Domains.{no_counts, domain_of}
use Rattle.geometry.specs.declared.Geometry.{Geometry}
use Rattle.selectors.specs.Selectors.{fresh_cores, Meant, plain, select, refused, meant, records_after}
use Rattle.selectors.specs.declared.Core.{Core}
use Rattle.steps.proofs.Computing.{does, both}
use Rattle.purge.specs.Purge.{keeps, keeps_by, core_purge}
use Rattle.isolation.specs.StruckOut.{number_of}
use Rattle.cores.specs.Run.{core_answers, core_finally, fresh_lent}
use Rattle.cores.proofs.Computing.{core_computing}
use Rattle.switching.specs.StruckOut.{core_answers_to, own_core_answers, core_verdicts}

abbrev small : Geometry
small = record { sets = 1; ways = 4; rule = 0 }

-- Steps that are turned down: selector writes, by 3 for a selector of 16, by 5 for a fourth byte and by 11 for core 5, of two records; and kind 36, which
-- is no core's, of domain 1 by 4 and of domain 16 by 3.
abbrev turned_down : List Command
turned_down = does 0 40 16 ∷ does 1 40 16777216 ∷ does 5 40 0 ∷ does 1 36 0 ∷ does 16 36 0 ∷ []

-- Domain 0 gets ways 0 and 1, domain 1 ways 2 and 3. Core 0 loads line 0, selects domain 1 by all three selectors, stores to line 0 and loads line 1,
-- selects domain 0 again and loads line 0; core 5, of two records, loads; and domain 1 asks for way 0. Then come those that are turned down.
abbrev steps : List Command
steps =
    does 0 16 (both 3) ∷ does 1 16 (both 12) ∷ does 0 33 0 ∷ does 0 40 65793 ∷ does 0 34 0 ∷ does 0 33 64 ∷ does 0 40 0 ∷ does 0 33 0 ∷ does 5 33 0
    ∷ does 1 16 (both 1) ∷ turned_down

-- What is left for domain 0 and for domain 1: the core's steps go by the selectors of their moment; the selector writes, refused or not, and the step of a
-- core that is not in the list stay, and unknown kinds do.
pub record Left : Type 0 where
  pub zero : core_purge 0 (fresh_cores 2) steps
      ≡ does 0 16 (both 3) ∷ does 1 16 (both 12) ∷ does 0 33 0 ∷ does 0 40 65793 ∷ does 0 40 0 ∷ does 0 33 0 ∷ does 5 33 0 ∷ does 1 16 (both 1) ∷ turned_down
  pub one : core_purge 1 (fresh_cores 2) steps
      ≡ does 0 16 (both 3) ∷ does 1 16 (both 12) ∷ does 0 40 65793 ∷ does 0 34 0 ∷ does 0 33 64 ∷ does 0 40 0 ∷ does 5 33 0 ∷ does 1 16 (both 1) ∷ turned_down

pub left : Left
unfolding core_computing core_purge keeps_by keeps
left = record { zero = refl; one = refl }

-- ---- not empty: each domain's answers are its core steps' too, the neighbour's policy is refused by 8 in both; and what is turned down writes no record

pub record Answers : Type 0 where
  pub refusals : core_answers small turned_down (fresh_lent small 2) ≡ (7 ∷ 3 ∷ []) ∷ (7 ∷ 5 ∷ []) ∷ (7 ∷ 11 ∷ []) ∷ (7 ∷ 4 ∷ []) ∷ (7 ∷ 3 ∷ []) ∷ []
  pub records : (core_finally small steps (fresh_lent small 2)).cores ≡ fresh_cores 2
  pub zero : own_core_answers small 0 steps (fresh_lent small 2) ≡ (6 ∷ 0 ∷ 0 ∷ []) ∷ (1 ∷ 1 ∷ []) ∷ (0 ∷ 1 ∷ []) ∷ []
  pub one : own_core_answers small 1 steps (fresh_lent small 2) ≡ (6 ∷ 0 ∷ 0 ∷ []) ∷ (1 ∷ 3 ∷ []) ∷ (1 ∷ 2 ∷ []) ∷ (7 ∷ 8 ∷ []) ∷ (7 ∷ 4 ∷ []) ∷ []
  pub others : core_verdicts small 0 steps (fresh_lent small 2) ≡ 0 ∷ 8 ∷ []
  pub neighbour : (domain_of (core_finally small steps (fresh_lent small 2)).cache.domains 1).counts
      ≡ record { hits = 0; misses = 2; evicted = 0; written = 0; flushed = 0; fills = 2; dropped = 0 }
  pub neighbour_struck : (domain_of (core_finally small (core_purge 0 (fresh_cores 2) steps) (fresh_lent small 2)).cache.domains 1).counts
      ≡ no_counts

pub answers : Answers
unfolding core_computing core_purge keeps_by keeps core_answers_to own_core_answers core_verdicts number_of
answers = record { refusals = refl; records = refl; zero = refl; one = refl; others = refl; neighbour = refl; neighbour_struck = refl }

-- ---- not slack: other struck-out lists do differ

-- by the selectors at the start of the run
abbrev by_start : ℕ → List Core → List Command → List Command
by_start d cores [] = []
by_start d cores (c ∷ cs) = cond (keeps_by d (meant cores c)) (c ∷ by_start d cores cs) (by_start d cores cs)

-- without the selector writes
abbrev keeps_no_write : ℕ → Meant → List Command → List Command → List Command
keeps_no_write d (plain c) kept struck = cond (keeps d c) kept struck
keeps_no_write d (select core) kept struck = struck
keeps_no_write d (refused n) kept struck = kept

abbrev without_writes : ℕ → List Core → List Command → List Command
without_writes d cores [] = []
without_writes d cores (c ∷ cs) =
    keeps_no_write d (meant cores c) (c ∷ without_writes d (records_after cores c) cs) (without_writes d (records_after cores c) cs)

-- domain 1 loses the answers that its core's steps had
pub record Differ : Type 0 where
  pub start : own_core_answers small 1 (by_start 1 (fresh_cores 2) steps) (fresh_lent small 2) ≡ (6 ∷ 0 ∷ 0 ∷ []) ∷ (7 ∷ 8 ∷ []) ∷ (7 ∷ 4 ∷ []) ∷ []
  pub writes : own_core_answers small 1 (without_writes 1 (fresh_cores 2) steps) (fresh_lent small 2) ≡ (6 ∷ 0 ∷ 0 ∷ []) ∷ (7 ∷ 8 ∷ []) ∷ (7 ∷ 4 ∷ []) ∷ []

pub differ : Differ
unfolding core_computing core_purge keeps_by keeps core_answers_to own_core_answers
differ = record { start = refl; writes = refl }
