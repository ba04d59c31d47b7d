-- Document 02, job 5: the core records, what a step means where a list of them is lent, and the records after it. A step names a core where others name a
-- domain: its first number, `domain`, is then the core's.
use Rattle.std.specs.Prelude.{Bool, true, false, cond, not, ◌&&◌, ◌||◌, List, [], ◌∷◌, ℕ, ◌-◌, ◌/◌, ◌%◌, eqb, leb, ltb, length, get_or, set, replicate}
use Rattle.command.specs.Command.{Command}
use Rattle.domains.specs.Domains.{max_domains}
use Rattle.selectors.specs.declared.Core.{Core}

-- "at most 32 records and fresh at zero"
abbrev pub max_cores : ℕ
max_cores = 32

abbrev pub no_core : Core
no_core = record { cs = 0; ds = 0; es = 0 }

abbrev pub fresh_cores : ℕ → List Core
fresh_cores n = replicate n no_core

-- "these kinds", which name a core; and lists of steps of which none does.
unfoldable pub names_core : ℕ → Bool
names_core k = leb 32 k && leb k 35 || eqb k 40

unfoldable pub coreless : List Command → Bool
coreless [] = true
coreless (c ∷ cs) = not (names_core c.kind) && coreless cs

-- What a step means: a step of the cache, the new selectors of the core that it names, or a refusal's number.
pub data Meant : Type 0 where
  plain : Command → Meant
  select : Core → Meant
  refused : ℕ → Meant

-- "a fetch uses CS, a load or flush DS, a store ES": the domain that a core's step of kind k goes to, k being 0 to 3.
unfoldable pub selected : ℕ → Core → ℕ
selected k core = cond (eqb k 0) core.cs (cond (eqb k 2) core.es core.ds)

-- "from the argument's three low bytes, lowest first, in that order"
unfoldable pub new_core : ℕ → Core
new_core argument = record { cs = argument % 256; ds = argument / 256 % 256; es = argument / 65536 % 256 }

-- "Its other bytes must be zero, else 5; a selector of 16 or more is 3." The lower number is given.
unfoldable pub written : ℕ → Meant
written argument =
    let core = new_core argument in
    cond (leb max_domains core.cs || leb max_domains core.ds || leb max_domains core.es) (refused 3)
    (cond (eqb (argument / 16777216) 0) (select core) (refused 5))

-- "Kinds 32 to 35 are kinds 0 to 3 with a core in place of the domain", and "kind 40 writes a core's selectors": what a step means, given whether its core
-- is in the list, and the core's record. Refusal 11: "for these kinds, a core not in it". Every other kind is the cache's.
unfoldable pub meant_by : Bool → Core → Command → Meant
meant_by listed core c =
    let k = c.kind in
    cond (leb 32 k && leb k 35)
    (cond listed (plain (record { domain = selected (k - 32) core; kind = k - 32; argument = c.argument })) (refused 11))
    (cond (eqb k 40) (cond listed (written c.argument) (refused 11)) (plain c))

-- What it means where a list is lent.
unfoldable pub meant : List Core → Command → Meant
meant cores c = meant_by (ltb c.domain (length cores)) (get_or cores c.domain no_core) c

-- Whether it means a step of the cache that passes a test.
unfoldable pub means : (Command → Bool) → Meant → Bool
means p (plain c) = p c
means p (select core) = false
means p (refused n) = false

-- The records after a step that is not turned down: a write of selectors changes the core's.
unfoldable pub records_by : Meant → ℕ → List Core → List Core
records_by (plain c) i cores = cores
records_by (select core) i cores = set cores i core
records_by (refused n) i cores = cores

unfoldable pub records_after : List Core → Command → List Core
records_after cores c = records_by (meant cores c) c.domain cores

unfoldable pub records_finally : List Core → List Command → List Core
records_finally cores [] = cores
records_finally cores (c ∷ cs) = records_finally (records_after cores c) cs

-- The record that a step leaves of the core that it names.
unfoldable pub record_by : Meant → Core → Core
record_by (plain c) old = old
record_by (select core) old = core
record_by (refused n) old = old

-- A list of steps as steps of the cache: each that means one, by the records at that moment.
unfoldable pub plain_by : Meant → List Command → List Command
plain_by (plain c) cs = c ∷ cs
plain_by (select core) cs = cs
plain_by (refused n) cs = cs

unfoldable pub plain_steps : List Core → List Command → List Command
plain_steps cores [] = []
plain_steps cores (c ∷ cs) = plain_by (meant cores c) (plain_steps (records_after cores c) cs)
