-- What the lines of a listing say of a domain's counts, "each counted from the steps since the domain was last removed".
use Rattle.std.specs.Prelude.{Bool, cond, ◌&&◌, List, [], ◌∷◌, ℕ, eqb, get_or}
use Rattle.command.specs.Command.{Command}
use Rattle.command.specs.declared.Answer.TheVariants.{Hit, Fill, Evict, Pass, Flush}
use Rattle.domains.specs.Domains.{no_counts, counted, with_drops}
use Rattle.domains.specs.declared.Counts.{Counts}
use Rattle.selectors.specs.Selectors.{Meant, plain, select, refused, meant, records_after}
use Rattle.selectors.specs.declared.Core.{Core}
use Rattle.purge.specs.Purge.{belongs}

-- A line's word, as a number, and its fields: place 0 has the word.
abbrev pub field : List ℕ → ℕ → ℕ
field line i = get_or line i 0

-- The counts with what a line adds to them: `hit`, `fill`, `evict` way, tag, dirty, `pass`, `flush` way, dirty, and `policy` dropped. `absent` and
-- `refused` add nothing.
unfoldable pub told : List ℕ → Counts → Counts
told line c =
    cond (eqb (field line 0) 0) (counted (Hit (field line 1)) c)
    (cond (eqb (field line 0) 1) (counted (Fill (field line 1)) c)
    (cond (eqb (field line 0) 2) (counted (Evict (field line 1) (field line 2) (eqb (field line 3) 1)) c)
    (cond (eqb (field line 0) 3) (counted Pass c)
    (cond (eqb (field line 0) 4) (counted (Flush (field line 1) (eqb (field line 2) 1)) c)
    (cond (eqb (field line 0) 6) (with_drops (field line 1) c) c)))))

-- A line of a removal: `policy`, to a step whose argument is zero.
unfoldable pub removes : Command → List ℕ → Bool
removes c line = eqb (field line 0) 6 && eqb c.argument 0

-- The counts after a step, by its line: another domain's step adds nothing, and a removal starts anew.
unfoldable pub tallied : ℕ → Command → List ℕ → Counts → Counts
tallied d c line counts = cond (belongs d c) (cond (removes c line) no_counts (told line counts)) counts

-- The counts after a list of steps, by their lines.
unfoldable pub tally : ℕ → List Command → List (List ℕ) → Counts → Counts
tally d [] lines counts = counts
tally d (c ∷ cs) [] counts = counts
tally d (c ∷ cs) (line ∷ lines) counts = tally d cs lines (tallied d c line counts)

-- ---- Where core records are lent: a step is the domain's if it means one of the cache that is

unfoldable pub tallied_by : ℕ → Meant → List ℕ → Counts → Counts
tallied_by d (plain c) line counts = tallied d c line counts
tallied_by d (select core) line counts = counts
tallied_by d (refused n) line counts = counts

unfoldable pub core_tally : ℕ → List Core → List Command → List (List ℕ) → Counts → Counts
core_tally d cores [] lines counts = counts
core_tally d cores (c ∷ cs) [] counts = counts
core_tally d cores (c ∷ cs) (line ∷ lines) counts = core_tally d (records_after cores c) cs lines (tallied_by d (meant cores c) line counts)
