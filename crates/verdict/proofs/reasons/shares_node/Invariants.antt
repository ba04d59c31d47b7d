-- `verdict::reasons::shares_node` meets its contract. The invariant: no domain before shares one.
use mathlib.Core.Bool.{not, ◌&&◌}
use Prim.Native.Nat.{ℕ}
use lib.Dec.{eqb}
use Rattle.replacement.specs.Rule.{rule_of}
use Rattle.waymap.proofs.WayLaws.{Passed}
use Rattle.domains.specs.Calls.{read_by}
use Rattle.verdict.proofs.reasons.shares_node.Given as goal

abbrev pub invariant-loop-e : goal.invariant-loop-e
invariant-loop-e l = Passed (λ (f : ℕ). not (eqb l.d f) && (rule_of l.g.rule l.g.ways).shares l.new.fill (read_by l.g.ways l.policies f).fill) 16 l.e
