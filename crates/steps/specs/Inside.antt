-- What the laws of a step go by.
use Rattle.std.specs.Prelude.{◌≡◌, Bool, true, false, ℕ, ◌*◌, length}
use Rattle.replacement.specs.Rule.{Rule}
use Rattle.row.specs.Row as Row
use Rattle.row.specs.Row.{Row, Effect}
use Rattle.policy.specs.declared.Maps.{Maps}
use Rattle.command.specs.Kind.{Kind}
use Rattle.domains.specs.Domains.{domain_of, policies}
use Rattle.verdict.specs.Refusal.{policy_refusal, refusal_by}
use Rattle.geometry.specs.Inside.{Limited}
use Rattle.geometry.specs.declared.Geometry.{Geometry}
use Rattle.steps.specs.Tables.{Tables}
use Rattle.steps.specs.Step.{State, drops_of}

-- Tables of the right lengths under a geometry within the limits.
pub record Shaped (g : Geometry) (t : Tables) : Type 0 where
  pub limited : Limited g
  pub tags_long : length t.tags ≡ g.sets * g.ways
  pub valid_long : length t.valid ≡ g.sets
  pub dirty_long : length t.dirty ≡ g.sets
  pub words_long : length t.words ≡ g.sets

-- Tables of their lengths and all sixteen domains.
pub record Whole (g : Geometry) (s : State) : Type 0 where
  pub shaped : Shaped g s.tables
  pub sixteen : length s.domains.records ≡ 16

-- The number by which a step of some kind is turned down in a state, and that of a change of policy; 0 for none.
abbrev pub number_by : Kind → Geometry → ℕ → ℕ → State → ℕ
number_by k g d arg s = refusal_by k g (policies g.ways s.domains) (domain_of s.domains d).counts (drops_of g d arg s) d arg

abbrev pub change_number : Geometry → ℕ → ℕ → State → ℕ
change_number g d arg s = policy_refusal g (policies g.ways s.domains) (domain_of s.domains d).counts (drops_of g d arg s) d arg

-- An access or a flush, under a rule.
abbrev pub line_work : Bool → Rule → Bool → Maps → ℕ → Row → Effect
line_work true R store = Row.flush
line_work false R store = λ p tag. Row.access R p tag store
