-- The struck-out list, which the literature on noninterference calls the purge.
use Rattle.std.specs.Prelude.{Bool, true, cond, not, ◌||◌, List, [], ◌∷◌, ℕ, eqb, ltb}
use Rattle.command.specs.Command.{Command}
use Rattle.selectors.specs.Selectors.{Meant, plain, select, refused, meant, records_after}
use Rattle.selectors.specs.declared.Core.{Core}

-- "A step belongs to the domain it names."
abbrev pub belongs : ℕ → Command → Bool
belongs d c = eqb c.domain d

-- A step that stays: one of the chosen domain, or one that is no access and no flush (kinds 0 to 3).
unfoldable pub keeps : ℕ → Command → Bool
keeps d c = belongs d c || not (ltb c.kind 4)

-- Document 01's struck-out list: "the same list in its order, without the accesses and flushes (kinds 0 to 3) that belong to another
-- domain; every other step stays".
unfoldable pub purge : ℕ → List Command → List Command
purge d [] = []
purge d (c ∷ cs) = cond (keeps d c) (c ∷ purge d cs) (purge d cs)

-- ---- Where core records are lent: document 02, job 5

-- "A step of kinds 32 to 35 belongs to the domain its selector names at that moment; neighbours' are struck out as their kinds 0 to 3 are. Those whose
-- core is not in the list belong to no domain and are kept, as selector writes are."
unfoldable pub keeps_by : ℕ → Meant → Bool
keeps_by d (plain c) = keeps d c
keeps_by d (select core) = true
keeps_by d (refused n) = true

-- The struck-out list: each step is kept or not by the records at that moment of the run, which the steps before it left.
unfoldable pub core_purge : ℕ → List Core → List Command → List Command
core_purge d cores [] = []
core_purge d cores (c ∷ cs) = cond (keeps_by d (meant cores c)) (c ∷ core_purge d (records_after cores c) cs) (core_purge d (records_after cores c) cs)
