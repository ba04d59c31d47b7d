-- What is claimed of every state that a run from a fresh cache reaches, as closed statements. The theorem of each has its name in small letters, stands in
-- proofs/, and is of exactly that type.
use Rattle.std.specs.Prelude.{◌≡◌, true, ℕ, ◌<◌}
use Rattle.domains.specs.Domains.{policies}
use Rattle.geometry.specs.Geometry.{within}
use Rattle.geometry.specs.declared.Geometry.{Geometry}
use Rattle.steps.specs.Step.{State}
use Rattle.steps.specs.Inside.{change_number}
use Rattle.reached.specs.Reached.{Reached, Separate}
use Rattle.reached.specs.Balance.{Balanced}
use Rattle.reached.specs.Inside.{Empty}

-- No two domains share a way or a node.
abbrev pub ReachedSeparate : Type 0
ReachedSeparate = (g : Geometry) → within g ≡ true → (s : State) → Reached g s → Separate g (policies g.ways s.domains)

-- A way that no domain holds has no line.
abbrev pub ReachedEmpty : Type 0
ReachedEmpty = (g : Geometry) → within g ≡ true → (s : State) → Reached g s → Empty g s

-- Every domain's lines in and lines out balance.
abbrev pub ReachedBalanced : Type 0
ReachedBalanced = (g : Geometry) → within g ≡ true → (s : State) → Reached g s → (d : ℕ) → d < 16 → Balanced g d s

-- Number 7 is never given to a policy change, whatever its argument.
abbrev pub ReachedUnspent : Type 0
ReachedUnspent =
    (g : Geometry) → within g ≡ true → (s : State) → Reached g s → (e : ℕ) → e < 16 → (arg : ℕ) → change_number g e arg s ≡ 7 → ⊥

-- Two such states with the same policies give a policy change the same number, whatever either would drop.
abbrev pub NumberSame : Type 0
NumberSame =
    (g : Geometry) → within g ≡ true → (a b : State) → Reached g a → Reached g b
    → ((f : ℕ) → policies g.ways a.domains f ≡ policies g.ways b.domains f)
    → (e : ℕ) → e < 16 → (arg : ℕ) → change_number g e arg a ≡ change_number g e arg b
