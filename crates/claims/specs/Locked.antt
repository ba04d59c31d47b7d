-- Locked lines once more: of each step of the list, each way and each count.
use Rattle.std.specs.Prelude.{◌≡◌, Bool, true, false, List, [], ◌∷◌, ℕ, ◌+◌, ◌-◌, ◌<◌, length, get_or}
use Rattle.waymap.specs.Bits.{bit}
use Rattle.replacement.specs.Rule.{rule_of}
use Rattle.command.specs.Command.{Command}
use Rattle.policy.specs.declared.Maps.{Maps}
use Rattle.row.specs.Row.{Row}
use Rattle.domains.specs.Domains.{domain_of, policies}
use Rattle.domains.specs.declared.Domain.{Domain}
use Rattle.geometry.specs.Address.{set_of, tag_of}
use Rattle.geometry.specs.Geometry.{within}
use Rattle.geometry.specs.declared.Geometry.{Geometry}
use Rattle.steps.specs.Tables.{row_at}
use Rattle.steps.specs.Step.{State}
use Rattle.steps.specs.Run.{answers_of, finally}
use Rattle.steps.specs.Fresh.{fresh}
use Rattle.purge.specs.Purge.{belongs}
use Rattle.isolation.specs.StruckOut.{answers_to, number_of}
use Rattle.locking.specs.Locked.{locked, is_locked, same_line}
use Rattle.locking.specs.Locking.{changes, flushes, accesses, otherwise, rest}
use Rattle.claims.specs.Points.{EachAnswer}

-- The line of an address is locked for a domain in way w.
pub record Lock (g : Geometry) (d : ℕ) (s : State) (address w : ℕ) : Type 0 where
  pub hit : bit (policies g.ways s.domains d).hit w ≡ true
  pub fill : bit (policies g.ways s.domains d).fill w ≡ false
  pub valid : bit (row_at g.ways (set_of g address) s.tables).valid w ≡ true
  pub tag : get_or (row_at g.ways (set_of g address) s.tables).tags w 0 ≡ tag_of g address

-- In the run of a list from a state: no policy change of the domain is accepted, and no flush by it of addresses that pass a test; and none of its steps is
-- refused by 7.
pub record Leaves (g : Geometry) (d : ℕ) (at : ℕ → Bool) (cs : List Command) (s : State) : Type 0 where
  pub no_change : EachAnswer g (changes d) (λ a. number_of a ≡ 0 → ⊥) cs s
  pub no_flush : EachAnswer g (flushes d at) (λ a. number_of a ≡ 0 → ⊥) cs s

abbrev pub NoSeven : Geometry → ℕ → List Command → State → Type 0
NoSeven g d cs s = EachAnswer g (belongs d) (λ a. number_of a ≡ 7 → ⊥) cs s

-- What stands at the end of a list: the domain's record, its policy as read, and a set's row.
abbrev pub own_at : Geometry → ℕ → List Command → State → Domain
own_at g d cs s = domain_of (finally g cs s).domains d

abbrev pub policy_at : Geometry → ℕ → List Command → State → Maps
policy_at g d cs s = policies g.ways (finally g cs s).domains d

abbrev pub set_at : Geometry → ℕ → List Command → State → Row
set_at g i cs s = row_at g.ways i (finally g cs s).tables

-- A list and the same without the domain's accesses to its locked lines.
pub record Unmoved (g : Geometry) (d : ℕ) (cs : List Command) (s : State) : Type 0 where
  pub answers : answers_to (otherwise g d s) cs (answers_of g cs s) ≡ answers_to (belongs d) (rest g d s cs) (answers_of g (rest g d s cs) s)
  pub hit_map : (own_at g d cs s).hit ≡ (own_at g d (rest g d s cs) s).hit
  pub fill_map : (own_at g d cs s).fill ≡ (own_at g d (rest g d s cs) s).fill
  pub hits : (own_at g d cs s).counts.hits ≡ (own_at g d (rest g d s cs) s).counts.hits + (length cs - length (rest g d s cs))
  pub misses : (own_at g d cs s).counts.misses ≡ (own_at g d (rest g d s cs) s).counts.misses
  pub evicted : (own_at g d cs s).counts.evicted ≡ (own_at g d (rest g d s cs) s).counts.evicted
  pub written : (own_at g d cs s).counts.written ≡ (own_at g d (rest g d s cs) s).counts.written
  pub flushed : (own_at g d cs s).counts.flushed ≡ (own_at g d (rest g d s cs) s).counts.flushed
  pub fills : (own_at g d cs s).counts.fills ≡ (own_at g d (rest g d s cs) s).counts.fills
  pub dropped : (own_at g d cs s).counts.dropped ≡ (own_at g d (rest g d s cs) s).counts.dropped
  pub valid : (i w : ℕ) → i < g.sets → bit (policy_at g d cs s).hit w ≡ true
      → bit (set_at g i cs s).valid w ≡ bit (set_at g i (rest g d s cs) s).valid w
  pub tags : (i w : ℕ) → i < g.sets → bit (policy_at g d cs s).hit w ≡ true
      → get_or (set_at g i cs s).tags w 0 ≡ get_or (set_at g i (rest g d s cs) s).tags w 0
  pub dirty : (i w : ℕ) → i < g.sets → bit (policy_at g d cs s).hit w ≡ true → locked (policy_at g d cs s) (set_at g i cs s) w ≡ false
      → bit (set_at g i cs s).dirty w ≡ bit (set_at g i (rest g d s cs) s).dirty w
  pub cells : (i : ℕ) → i < g.sets → (c : (rule_of g.rule g.ways).Cell) → (rule_of g.rule g.ways).own (policy_at g d cs s).fill c ≡ true
      → (rule_of g.rule g.ways).view (set_at g i cs s).word c ≡ (rule_of g.rule g.ways).view (set_at g i (rest g d s cs) s).word c

-- The three things, over a further list from a state.
pub record Locks (g : Geometry) (d : ℕ) (cs : List Command) (s : State) : Type 0 where
  pub stays : (address w : ℕ) → Lock g d s address w → Leaves g d (same_line address) cs s → Lock g d (finally g cs s) address w
  pub hit : (address w : ℕ) → Lock g d s address w → Leaves g d (same_line address) cs s → NoSeven g d cs s
      → EachAnswer g (accesses d (same_line address)) (λ a. a ≡ 0 ∷ w ∷ []) cs s
  pub unmoved : Leaves g d (is_locked g d s) cs s → NoSeven g d cs s → Unmoved g d cs s

-- So it is from every state that a list of steps from fresh leaves.
abbrev pub Locking : Type 0
Locking = (g : Geometry) → within g ≡ true → (d : ℕ) → d < 16 → (past cs : List Command) → Locks g d cs (finally g past (fresh g))

-- No two valid ways of a domain's hit map in one set have one tag.
abbrev pub Twice : Type 0
Twice =
    (g : Geometry) → within g ≡ true → (cs : List Command) (d i tag v w : ℕ) → d < 16 → i < g.sets
    → bit (policy_at g d cs (fresh g)).hit v ≡ true → bit (set_at g i cs (fresh g)).valid v ≡ true → get_or (set_at g i cs (fresh g)).tags v 0 ≡ tag
    → bit (policy_at g d cs (fresh g)).hit w ≡ true → bit (set_at g i cs (fresh g)).valid w ≡ true → get_or (set_at g i cs (fresh g)).tags w 0 ≡ tag
    → v ≡ w
