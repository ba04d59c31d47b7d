-- What is claimed of the struck-out list, as closed statements. The theorem of each has its name in small letters, stands in proofs/, and is of exactly
-- that type.
use Rattle.std.specs.Prelude.{◌≡◌, true, false, List, ℕ, ◌≤◌, ◌<◌}
use Rattle.command.specs.Command.{Command}
use Rattle.selectors.specs.Selectors.{coreless, plain_steps}
use Rattle.selectors.specs.declared.Core.{Core}
use Rattle.purge.specs.Purge.{belongs, keeps, purge, core_purge}

-- Every step of the chosen domain is kept.
abbrev pub KeepsOwn : Type 0
KeepsOwn = (d : ℕ) (c : Command) → c.domain ≡ d → keeps d c ≡ true

-- Every step that is no access and no flush is kept: policy changes, and unknown kinds.
abbrev pub KeepsOthers : Type 0
KeepsOthers = (d : ℕ) (c : Command) → 4 ≤ c.kind → keeps d c ≡ true

-- What is struck out belongs to another domain, and is an access or a flush.
pub record StruckStep (d : ℕ) (c : Command) : Type 0 where
  pub other : belongs d c ≡ false
  pub kind : c.kind < 4

abbrev pub Struck : Type 0
Struck = (d : ℕ) (c : Command) → keeps d c ≡ false → StruckStep d c

-- A list that names no core has the struck-out list that it has where no records are lent, whatever records are.
abbrev pub PurgeOthers : Type 0
PurgeOthers = (d : ℕ) (cs : List Command) (cores : List Core) → coreless cs ≡ true → core_purge d cores cs ≡ purge d cs

-- To strike out and to translate to the cache's own steps commute.
abbrev pub PurgePlain : Type 0
PurgePlain = (d : ℕ) (cs : List Command) (cores : List Core) → plain_steps cores (core_purge d cores cs) ≡ purge d (plain_steps cores cs)
