-- Steps where core records are lent, computed.
use mathlib.Core.Path.{◌≡◌, refl}
use mathlib.Core.List.{List, [], ◌∷◌, ◌++◌}
use Prim.Native.Nat.{ℕ, ◌+◌, ◌*◌}
use Rattle.command.specs.Command.{Command}
use Rattle.geometry.specs.declared.Geometry.{Geometry}
use Rattle.selectors.specs.Selectors.{fresh_cores}
use Rattle.selectors.specs.declared.Core.{Core}
use Rattle.steps.specs.Step.{State}
use Rattle.steps.specs.Run.{step_on, finally}
use Rattle.steps.specs.Fresh.{fresh}
use Rattle.steps.proofs.Computing.{does, both}
use Rattle.cores.specs.Step.{core_step}
use Rattle.cores.specs.Run.{core_answers, fresh_lent}
use Rattle.cores.proofs.Computing.{core_computing}

abbrev small : Geometry
small = record { sets = 1; ways = 4; rule = 0 }

-- A core's selectors, and the argument that writes them.
abbrev selects : ℕ → ℕ → ℕ → Core
selects cs ds es = record { cs = cs; ds = ds; es = es }

abbrev writes : ℕ → ℕ → ℕ → ℕ
writes cs ds es = cs + 256 * ds + 65536 * es

-- ---- a run: domain 0 has ways 0 and 1, domain 1 ways 2 and 3

abbrev given : List Command
given = does 0 16 (both 3) ∷ does 1 16 (both 12) ∷ []

-- Core 3 selects domain 0 for fetches, 1 for loads and flushes, 2 for stores; each kind goes by its own selector: the load fills a way of domain 1, the
-- fetch of the same line one of domain 0, the store is refused, as domain 2 has no ways, and the flush finds the load's line. Then all three select domain
-- 0, where the line is already.
pub run : core_answers small
    (given
    ++ does 3 40 (writes 0 1 2) ∷ does 3 33 64 ∷ does 3 32 64 ∷ does 3 34 64 ∷ does 3 35 64 ∷ does 3 40 (writes 0 0 0) ∷ does 3 34 64 ∷ does 3 33 64 ∷ [])
    (fresh_lent small 32)
    ≡ (6 ∷ 0 ∷ 0 ∷ []) ∷ (6 ∷ 0 ∷ 0 ∷ []) ∷ (8 ∷ 0 ∷ 1 ∷ 2 ∷ []) ∷ (1 ∷ 3 ∷ []) ∷ (1 ∷ 1 ∷ []) ∷ (7 ∷ 6 ∷ []) ∷ (4 ∷ 3 ∷ 0 ∷ []) ∷ (8 ∷ 0 ∷ 0 ∷ 0 ∷ [])
    ∷ (0 ∷ 1 ∷ []) ∷ (0 ∷ 1 ∷ []) ∷ []
unfolding core_computing
run = refl

-- ---- a step on lent records of any number and content

abbrev cache : State
cache = finally small given (fresh small)

-- what step of kind k and argument a answers, by core or domain i
abbrev answer : List Core → ℕ → ℕ → ℕ → List ℕ
answer cores i k a = (core_step small (does i k a) (record { cache = cache; cores = cores })).answer

-- "at most 32 records": 32 stand, and core 31 is among them, core 32 is not; 33 are 11 for every kind, also a load by a domain, a policy, an unknown kind
pub record Numbers : Type 0 where
  pub stands : answer (fresh_cores 32) 31 33 0 ≡ 1 ∷ 1 ∷ []
  pub beyond : answer (fresh_cores 32) 32 33 0 ≡ 7 ∷ 11 ∷ []
  pub write_beyond : answer (fresh_cores 32) 32 40 0 ≡ 7 ∷ 11 ∷ []
  pub load : answer (fresh_cores 33) 0 1 0 ≡ 7 ∷ 11 ∷ []
  pub policy : answer (fresh_cores 33) 0 16 (both 3) ≡ 7 ∷ 11 ∷ []
  pub unknown : answer (fresh_cores 33) 0 200 0 ≡ 7 ∷ 11 ∷ []
  pub beyond_domains : answer (fresh_cores 33) 16 1 0 ≡ 7 ∷ 11 ∷ []
  pub by_core : answer (fresh_cores 33) 0 33 0 ≡ 7 ∷ 11 ∷ []
  pub write : answer (fresh_cores 33) 0 40 0 ≡ 7 ∷ 11 ∷ []

-- an empty list is a list: no core is in it, and a domain's step is the cache's; where no list is lent, these kinds are unknown
pub record NoRecords : Type 0 where
  pub by_core : answer [] 0 33 0 ≡ 7 ∷ 11 ∷ []
  pub write : answer [] 16 40 0 ≡ 7 ∷ 11 ∷ []
  pub load : answer [] 0 1 0 ≡ 1 ∷ 1 ∷ []
  pub no_list : (step_on small (does 0 33 0) cache).answer ≡ 7 ∷ 4 ∷ []
  pub no_list_write : (step_on small (does 0 40 0) cache).answer ≡ 7 ∷ 4 ∷ []
  pub no_list_beyond : (step_on small (does 16 33 0) cache).answer ≡ 7 ∷ 3 ∷ []

-- "checked after 2 and before 3": number 1 and 2 come first
abbrev three : Geometry
three = record { sets = 3; ways = 4; rule = 0 }

abbrev two : Geometry
two = record { sets = 2; ways = 4; rule = 0 }

pub record Before : Type 0 where
  pub geometry : (core_step three (does 0 33 0) (record { cache = cache; cores = fresh_cores 33 })).answer ≡ 7 ∷ 1 ∷ []
  pub lengths : (core_step two (does 0 33 0) (record { cache = cache; cores = fresh_cores 33 })).answer ≡ 7 ∷ 2 ∷ []
  pub core : (core_step two (does 9 33 0) (record { cache = cache; cores = fresh_cores 1 })).answer ≡ 7 ∷ 2 ∷ []
  pub write : (core_step two (does 0 40 (writes 0 1 0)) (record { cache = cache; cores = fresh_cores 1 })).lent ≡ record { cache = cache; cores = fresh_cores 1 }

-- "A stored selector of 16 or more makes a step through it 3", and no other; domain 15 stands.
pub record Stored : Type 0 where
  pub through_ds : answer (selects 0 16 0 ∷ []) 0 33 0 ≡ 7 ∷ 3 ∷ []
  pub through_cs : answer (selects 0 16 0 ∷ []) 0 32 0 ≡ 1 ∷ 1 ∷ []
  pub through_es : answer (selects 0 0 255 ∷ []) 0 34 0 ≡ 7 ∷ 3 ∷ []
  pub fifteen : answer (selects 0 15 0 ∷ []) 0 33 0 ≡ 7 ∷ 6 ∷ []

-- "Kind 40: 11, then 3, then 5": the core, the selectors, the other bytes
pub record Writes : Type 0 where
  pub core_first : answer (fresh_cores 1) 1 40 (writes 16 0 0 + 16777216) ≡ 7 ∷ 11 ∷ []
  pub cs : answer (fresh_cores 1) 0 40 (writes 16 0 0 + 16777216) ≡ 7 ∷ 3 ∷ []
  pub ds : answer (fresh_cores 1) 0 40 (writes 0 16 0) ≡ 7 ∷ 3 ∷ []
  pub es : answer (fresh_cores 1) 0 40 (writes 0 0 255) ≡ 7 ∷ 3 ∷ []
  pub bytes : answer (fresh_cores 1) 0 40 16777216 ≡ 7 ∷ 5 ∷ []
  pub top_byte : answer (fresh_cores 1) 0 40 72057594037927936 ≡ 7 ∷ 5 ∷ []
  pub accepted : answer (fresh_cores 1) 0 40 (writes 15 14 13) ≡ 8 ∷ 15 ∷ 14 ∷ 13 ∷ []
  pub one_record : (core_step small (does 1 40 (writes 15 14 13)) (record { cache = cache; cores = fresh_cores 3 })).lent.cores
      ≡ selects 0 0 0 ∷ selects 15 14 13 ∷ selects 0 0 0 ∷ []

pub record Cases : Type 0 where
  pub numbers : Numbers
  pub no_records : NoRecords
  pub before : Before
  pub stored : Stored
  pub selector_writes : Writes

pub cases : Cases
unfolding core_computing
cases = record {
  numbers = record {
    stands = refl;
    beyond = refl;
    write_beyond = refl;
    load = refl;
    policy = refl;
    unknown = refl;
    beyond_domains = refl;
    by_core = refl;
    write = refl;
  };
  no_records = record { by_core = refl; write = refl; load = refl; no_list = refl; no_list_write = refl; no_list_beyond = refl };
  before = record { geometry = refl; lengths = refl; core = refl; write = refl };
  stored = record { through_ds = refl; through_cs = refl; through_es = refl; fifteen = refl };
  selector_writes = record { core_first = refl; cs = refl; ds = refl; es = refl; bytes = refl; top_byte = refl; accepted = refl; one_record = refl };
}
