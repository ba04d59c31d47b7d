-- The drops that number 7 looks at.
use mathlib.Core.Path.{◌≡◌, ap, fun_ext}
use mathlib.Core.Bool.{false, ◌&&◌, and-true}
use Prim.Native.Nat.{ℕ, ◌*◌, ◌≤◌}
use native.Mathlib.Nat.{le_trans, le_of_eq, mul_comm}
use native.Mathlib.Omega.{arith}
use lib.ListN.{length-take, drop}
use Rattle.waymap.specs.Bits.{Bits, bit}
use Rattle.waymap.proofs.Booleans.{cases}
use Rattle.waymap.proofs.WayLaws.{none_at}
use Rattle.row.specs.Row.{lines_in}
use Rattle.row.proofs.LinesLaws.{lines_most}
use Rattle.policy.specs.Policy.{as_read, new_maps}
use Rattle.policy.specs.declared.Maps.{Maps}
use Rattle.policy.proofs.ReadLaws.{read_hit}
use Rattle.sweep.specs.Clean.{moved, drop_ways, dropped}
use Rattle.domains.specs.Domains.{policies}
use Rattle.verdict.specs.Refusal.{held_elsewhere, shares_way}
use Rattle.geometry.specs.declared.Geometry.{Geometry}
use Rattle.steps.specs.Tables.{Tables, row_at, total}
use Rattle.steps.specs.Step.{State, dropped_by, drops_of}
use Rattle.steps.specs.Statements.{DropsAll}
use Rattle.steps.proofs.TotalLaws.{total_le}

-- a set has no more lines than ways
pub row_lines_most : (W i : ℕ) (map : Bits) (t : Tables) → lines_in map (row_at W i t) ≤ W
unfolding row_at
row_lines_most W i map t = le_trans (lines_most map (row_at W i t)) (omega (arith, length-take W (drop (i * W) t.tags)))

-- of a change that number 8 lets pass all ways that are cleaned count
pub drop_ways_all : (W : ℕ) (policy : ℕ → Maps) (old : Maps) (e arg : ℕ) → shares_way policy e (new_maps arg) ≡ false
    → drop_ways old (as_read W (new_maps arg)) (held_elsewhere policy e) ≡ moved old (as_read W (new_maps arg))
unfolding drop_ways shares_way
drop_ways_all W policy old e arg free = fun_ext (λ w. rw (untaken w) (and-true (moved old new w)))
  where
    new : Maps
    new = as_read W (new_maps arg)

    untaken : (w : ℕ) → (bit (as_read W (new_maps arg)).hit w && held_elsewhere policy e w) ≡ false
    untaken w =
        cases (bit (as_read W (new_maps arg)).hit w)
        (λ t. let mine = read_hit W (new_maps arg) w t in
        let one : (bit (new_maps arg).hit w && held_elsewhere policy e w) ≡ false =
        none_at 16 (λ (v : ℕ). bit (new_maps arg).hit v && held_elsewhere policy e v) w free mine.0 in
        rw t (rw mine.1 at one))
        (λ t. rw t)

module _ (g : Geometry) (e arg : ℕ) (s : State) where
  -- no more than there are lines
  pub drops_few : drops_of g e arg s ≤ g.sets * g.ways
  unfolding drops_of
  drops_few =
      let policy : ℕ → Maps = policies g.ways s.domains in
      let map : Bits = drop_ways (policy e) (as_read g.ways (new_maps arg)) (held_elsewhere policy e) in
      le_trans (total_le g.ways g.sets g.ways (lines_in map) s.tables (λ i h. row_lines_most g.ways i map s.tables))
      (le_of_eq (mul_comm g.ways g.sets))

-- of a change that number 8 lets pass they are all that it drops
pub drops_all : DropsAll
unfolding drops_of dropped_by dropped
drops_all g e arg s free =
    ap (λ (map : Bits). total g.ways g.sets (lines_in map) s.tables)
    (drop_ways_all g.ways (policies g.ways s.domains) (policies g.ways s.domains e) e arg free)
