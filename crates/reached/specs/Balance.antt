-- Lines in and lines out: document 02, job 6.
use Rattle.std.specs.Prelude.{◌≡◌, ℕ, ◌+◌}
use Rattle.waymap.specs.Bits.{bit}
use Rattle.row.specs.Row.{lines_in}
use Rattle.domains.specs.Domains.{domain_of, policies}
use Rattle.geometry.specs.declared.Geometry.{Geometry}
use Rattle.steps.specs.Tables.{total}
use Rattle.steps.specs.Step.{State}

-- "the lines now valid in the domain's hit map", over all sets.
unfoldable pub held : Geometry → ℕ → State → ℕ
held g d s = total g.ways g.sets (lines_in (bit (policies g.ways s.domains d).hit)) s.tables

-- "fills equal evicted plus flushed plus dropped plus the lines now valid in the domain's hit map". The counts are those of the domain line; they
-- are zero when the domain is removed, so each is "counted from the steps since the domain was last removed".
unfoldable pub Balanced : Geometry → ℕ → State → Type 0
Balanced g d s =
    let c = (domain_of s.domains d).counts in
    c.fills ≡ c.evicted + c.flushed + c.dropped + held g d s
