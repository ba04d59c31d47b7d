-- The laws of the rule in use, and that every replacement word of a run has 64 bits.
use mathlib.Core.Path.{◌≡◌, sym, subst}
use mathlib.Core.Bool.{true}
use Prim.Native.Nat.{ℕ, ◌^◌, ◌<◌}
use Rattle.replacement.specs.Rule.{rule_of}
use Rattle.replacement.specs.Laws.{Laws}
use Rattle.replacement.proofs.RuleLaws.{laws}
use Rattle.geometry.specs.Geometry.{within}
use Rattle.geometry.specs.declared.Geometry.{Geometry}
use Rattle.geometry.proofs.GeometryLaws.{limited}
use Rattle.steps.specs.Tables.{row_at}
use Rattle.steps.specs.Step.{State}
use Rattle.steps.specs.Statements.{Lasting}
use Rattle.steps.proofs.WordLaws.{words_last}
use Rattle.locking.specs.Once.{ReachedFits}

module _ (g : Geometry) (limits : within g ≡ true) where
  -- the laws of the rule in use
  pub rule : Laws g.ways (rule_of g.rule g.ways)
  rule = laws g.rule g.ways (limited g limits).most_ways

  words : Lasting (rule_of g.rule g.ways) (λ (x : ℕ). x < 2 ^ 64)
  words = record {
    begins = rule.fresh_fits;
    before = rule.before_fits;
    touch = rule.touch_fits;
    reset = rule.reset_fits;
  }

pub reached_fits : ReachedFits
reached_fits g limits s r i h =
    subst (λ (t : State). (row_at g.ways i t.tables).word < 2 ^ 64) (sym r.is)
    (words_last g limits (λ (x : ℕ). x < 2 ^ 64) (words g limits) r.past i h)
