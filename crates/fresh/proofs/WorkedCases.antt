-- Cases A, F and G of document 01, A with the ways of document 02's job 8, by computing.
use mathlib.Core.Path.{◌≡◌, refl}
use mathlib.Core.List.{List, [], ◌∷◌}
use Rattle.domains.specs.Domains.{domain_of}
use Rattle.geometry.specs.declared.Geometry.{Geometry}
use Rattle.command.specs.Command.{Command}
use Rattle.steps.specs.Run.{answers_of, finally}
use Rattle.steps.specs.Fresh.{fresh}
use Rattle.steps.proofs.Computing.{computing, does, both}

-- A: "1 set, 4 ways, rule 0, 9 steps"
abbrev pub geometry_a : Geometry
geometry_a = record { sets = 1; ways = 4; rule = 0 }

abbrev pub steps_a : List Command
steps_a =
    does 0 16 (both 3) ∷ does 1 16 (both 12) ∷ does 0 2 0 ∷ does 0 1 64 ∷ does 1 1 0 ∷ does 0 1 128 ∷ does 0 3 64 ∷ does 2 1 0 ∷ does 0 1 128 ∷ []

-- policy 0 0, policy 0 0; by document 02, job 8, "fill 1, fill 0, fill 3, evict 1 0 1, flush 0 0, refused 6, hit 1"; "domain 0 1 3 1 1 1",
-- "domain 1 0 1 0 0 0"; and by job 6 "the line of domain 0 then ends in 3 0"
pub record CaseA : Type 0 where
  pub answers : answers_of geometry_a steps_a (fresh geometry_a)
      ≡ (6 ∷ 0 ∷ 0 ∷ []) ∷ (6 ∷ 0 ∷ 0 ∷ []) ∷ (1 ∷ 1 ∷ []) ∷ (1 ∷ 0 ∷ []) ∷ (1 ∷ 3 ∷ []) ∷ (2 ∷ 1 ∷ 0 ∷ 1 ∷ []) ∷ (4 ∷ 0 ∷ 0 ∷ []) ∷ (7 ∷ 6 ∷ [])
      ∷ (0 ∷ 1 ∷ []) ∷ []
  pub counts_0 : (domain_of (finally geometry_a steps_a (fresh geometry_a)).domains 0).counts
      ≡ record { hits = 1; misses = 3; evicted = 1; written = 1; flushed = 1; fills = 3; dropped = 0 }
  pub counts_1 : (domain_of (finally geometry_a steps_a (fresh geometry_a)).domains 1).counts
      ≡ record { hits = 0; misses = 1; evicted = 0; written = 0; flushed = 0; fills = 1; dropped = 0 }

-- for 8 ways, F: "maps 5 and 10 share free node 1: refused 9"; G: "maps 3 and 12 are accepted"
abbrev pub eight_ways : Geometry
eight_ways = record { sets = 1; ways = 8; rule = 0 }

pub record CaseFG : Type 0 where
  pub f : answers_of eight_ways (does 0 16 (both 5) ∷ does 1 16 (both 10) ∷ []) (fresh eight_ways) ≡ (6 ∷ 0 ∷ 0 ∷ []) ∷ (7 ∷ 9 ∷ []) ∷ []
  pub g : answers_of eight_ways (does 0 16 (both 3) ∷ does 1 16 (both 12) ∷ []) (fresh eight_ways) ≡ (6 ∷ 0 ∷ 0 ∷ []) ∷ (6 ∷ 0 ∷ 0 ∷ []) ∷ []

pub case_a : CaseA
unfolding computing
case_a = record { answers = refl; counts_0 = refl; counts_1 = refl }

pub case_f_g : CaseFG
unfolding computing
case_f_g = record { f = refl; g = refl }
