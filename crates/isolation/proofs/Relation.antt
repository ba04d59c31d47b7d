-- The relation between the two runs that every step keeps.
use mathlib.Core.Path.{◌≡◌}
use mathlib.Core.Bool.{false}
use Prim.Native.Nat.{ℕ, ◌<◌}
use Rattle.waymap.specs.Bits.{bit}
use Rattle.replacement.specs.Rule.{Rule, rule_of}
use Rattle.row.specs.Row.{Row}
use Rattle.row.specs.View.{SameLine}
use Rattle.policy.specs.declared.Maps.{Maps}
use Rattle.domains.specs.Domains.{domain_of, policies}
use Rattle.geometry.specs.declared.Geometry.{Geometry}
use Rattle.steps.specs.Tables.{row_at}
use Rattle.steps.specs.Step.{State}
use Rattle.reached.specs.Reached.{Reached}

-- A way that no other domain holds, and a cell that no other domain writes.
abbrev pub Unheld : ℕ → (ℕ → Maps) → ℕ → Type 0
Unheld d policy w = (e : ℕ) → e < 16 → (e ≡ d → ⊥) → bit (policy e).hit w ≡ false

abbrev pub Unwritten : (R : Rule) → ℕ → (ℕ → Maps) → R.Cell → Type 0
Unwritten R d policy x = (e : ℕ) → e < 16 → (e ≡ d → ⊥) → R.writes (policy e).fill x ≡ false

-- Two rows are alike wherever no other domain has a hand.
pub record Alike (g : Geometry) (d : ℕ) (policy : ℕ → Maps) (r q : Row) : Type 0 where
  pub lines : (w : ℕ) → w < g.ways → Unheld d policy w → SameLine r q w
  pub cells : (x : (rule_of g.rule g.ways).Cell) → Unwritten (rule_of g.rule g.ways) d policy x
      → (rule_of g.rule g.ways).view r.word x ≡ (rule_of g.rule g.ways).view q.word x

-- Two states are tied for a domain: all policies are the same, the domain's record is the same, and every set's rows are alike. "No other
-- domain's" and not only "its own": a way that the domain gains later is then the same in both.
pub record Tied (g : Geometry) (d : ℕ) (a b : State) : Type 0 where
  pub policy_same : (e : ℕ) → policies g.ways a.domains e ≡ policies g.ways b.domains e
  pub domain_same : domain_of a.domains d ≡ domain_of b.domains d
  pub alike : (s : ℕ) → s < g.sets → Alike g d (policies g.ways a.domains) (row_at g.ways s a.tables) (row_at g.ways s b.tables)

-- Two states are related for a domain: runs reach them, and they are tied. What every state that a run reaches keeps, both then have.
pub record Related (g : Geometry) (d : ℕ) (a b : State) : Type 0 where
  pub reached_a : Reached g a
  pub reached_b : Reached g b
  pub tied : Tied g d a b
