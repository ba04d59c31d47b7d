-- A change of policy, set after set.
use mathlib.Core.Path.{◌≡◌, refl, ap, ap₂, subst, ◌∙◌}
use mathlib.Core.Bool.{◌&&◌}
use Prim.Native.Nat.{ℕ, zero, suc, ◌+◌, ◌*◌, ◌^◌, ◌≤◌, ◌<◌}
use native.Mathlib.Nat.{lt_of_le_of_lt, le_trans, mul-le-mul_left}
use native.Mathlib.Numerals.{add-one, add-one-le}
use native.Mathlib.Omega.{arith}
use lib.Dec.{lit<}
use lib.ListN.{length}
use Rattle.waymap.specs.Bits.{bit}
use Rattle.waymap.proofs.WayLaws.{count_le}
use Rattle.replacement.specs.Rule.{rule_of}
use Rattle.sweep.proofs.TagLaws.{wiped_length}
use Rattle.sweep.proofs.SweepLaws.{sweep_cleans}
use Rattle.row.specs.Row.{Row, Effect, ways}
use Rattle.policy.specs.Policy.{as_read}
use Rattle.sweep.specs.Clean.{dropped, dropped_dirty, cleaned, clean}
use Rattle.sweep.specs.Sweep.{sweep_of, drops, sweep_by}
use Rattle.sweep.specs.Drops.{drops_in, added_to}
use Rattle.sweep.specs.declared.Drops.{Drops}
use Rattle.sweep.proofs.DropLaws.{added_fits}
use Rattle.sweep.specs.declared.Sweep.{Sweep}
use Rattle.policy.specs.declared.Maps.{Maps}
use Rattle.command.specs.declared.Answer.{Answer}
use Rattle.geometry.specs.Geometry.{max_sets}
use Rattle.geometry.specs.declared.Geometry.{Geometry}
use Rattle.steps.specs.Tables.{Tables, row_at, put_row, each_set, total}
use Rattle.steps.specs.Inside.{Shaped}
use Rattle.steps.specs.Deed.{Work, RowWork, on_row, drops_by_sweep, AllSwept}
use Rattle.steps.proofs.SetLaws.{row_long, put_shaped, each_later}
use Rattle.steps.proofs.TotalLaws.{total_ext}

-- ---- one set

-- a sweep leaves a set as many tags as it had, and drops no more than sixteen lines
pub swept_long : (s : Sweep) (r : Row) → length (sweep_by s r).row.tags ≡ length r.tags
unfolding sweep_by
swept_long s r = wiped_length (bit (as_read (ways r) (record { hit = s.gone; fill = 0 })).hit) r.tags

few_drops : (s : Sweep) (r : Row) → ((drops_by_sweep s r).dropped ≤ 16) × ((drops_by_sweep s r).dirty ≤ 16)
unfolding sweep_by drops
few_drops s r =
    let gone = (as_read (ways r) (record { hit = s.gone; fill = 0 })).hit in
    (count_le 16 (λ (w : ℕ). bit gone w && bit r.valid w), count_le 16 (λ (w : ℕ). bit gone w && bit r.valid w && bit r.dirty w))

-- ---- set after set

-- The first s sets are swept, and the sums are theirs.
pub record Sweeping (g : Geometry) (sweep : Sweep) (before after : Tables) (dropped dirt s : ℕ) : Type 0 where
  pub within : s ≤ g.sets
  pub shaped : Shaped g after
  pub swept : AllSwept g sweep s before after dropped dirt
  pub few : dropped ≤ 16 * s
  pub few_dirty : dirt ≤ 16 * s

pub begin : (g : Geometry) (sweep : Sweep) (t : Tables) → Shaped g t → Sweeping g sweep t t 0 0 0
unfolding each_set total
begin g sweep t h = record {
  within = omega arith;
  shaped = h;
  swept = record { tables_is = refl; dropped_is = refl; dirty_is = refl };
  few = omega arith;
  few_dirty = omega arith;
}

module _ (g : Geometry) (sweep : Sweep) (before after : Tables) (h : Shaped g before) {dropped dirt s : ℕ}
    (l : Sweeping g sweep before after dropped dirt s) (k : s < g.sets) where
  -- the row that is swept is the one that was there before
  row_is : row_at g.ways s after ≡ row_at g.ways s before
  row_is =
      ap (row_at g.ways s) l.swept.tables_is
      ∙ each_later g (λ (r : Row). (sweep_by sweep r).row) (swept_long sweep) before h s (omega arith) s (omega arith)

  module _ {a : Answer} {u : Tables} (e : RowWork a u (on_row g.ways s (sweep_by sweep) after)) where
    drops_is : drops_in a ≡ drops_by_sweep sweep (row_at g.ways s before)
    unfolding on_row
    drops_is = ap (λ (w : Work). drops_in w.answer) e ∙ ap (drops_by_sweep sweep) row_is

    tables_is : u ≡ put_row g.ways s (sweep_by sweep (row_at g.ways s after)).row after
    unfolding on_row
    tables_is = ap (λ (w : Work). w.tables) e

    more : (dropped + (drops_in a).dropped ≤ 16 * (s + 1)) × (dirt + (drops_in a).dirty ≤ 16 * (s + 1))
    more =
        let few = few_drops sweep (row_at g.ways s before) in (
          omega (arith, l.few, ap (λ (x : Drops). x.dropped) drops_is, few.0),
          omega (arith, l.few_dirty, ap (λ (x : Drops). x.dirty) drops_is, few.1),
        )

    -- the sums stay far below the largest number
    sums_are : added_to (record { dropped = dropped; dirty = dirt }) a ≡ record { dropped = dropped + (drops_in a).dropped; dirty = dirt + (drops_in a).dirty }
    sums_are =
        let sets : 16 * (s + 1) ≤ 16 * max_sets = mul-le-mul_left 16 (le_trans (add-one-le k) h.limited.most_sets) in
        let room : 16 * (s + 1) < 2 ^ 64 = lt_of_le_of_lt sets (lit< tt) in
        added_fits (record { dropped = dropped; dirty = dirt }) a (lt_of_le_of_lt more.0 room) (lt_of_le_of_lt more.1 room)

    pub turned : {d : Drops} → d ≡ added_to (record { dropped = dropped; dirty = dirt }) a → Sweeping g sweep before u d.dropped d.dirty (s + 1)
    unfolding each_set total
    turned q = rw (q ∙ sums_are) (record {
      within = omega arith;
      shaped = rw tables_is
          (put_shaped g after (sweep_by sweep (row_at g.ways s after)).row l.shaped s k
          (swept_long sweep (row_at g.ways s after) ∙ row_long g l.shaped s k));
      swept = rw (add-one s) (record {
        tables_is = tables_is ∙ ap₂ (λ (r : Row) (t : Tables). put_row g.ways s (sweep_by sweep r).row t) row_is l.swept.tables_is;
        dropped_is = ap₂ ◌+◌ l.swept.dropped_is (ap (λ (x : Drops). x.dropped) drops_is);
        dirty_is = ap₂ ◌+◌ l.swept.dirty_is (ap (λ (x : Drops). x.dirty) drops_is);
      });
      few = more.0;
      few_dirty = more.1;
    })

pub end : (g : Geometry) (sweep : Sweep) (before after : Tables) {dropped dirt s : ℕ} → Sweeping g sweep before after dropped dirt s → g.sets ≤ s
    → AllSwept g sweep g.sets before after dropped dirt
end g sweep before after {dropped} {dirt} {s} l k =
    let all : s ≡ g.sets = omega (arith, l.within) in
    subst (λ (n : ℕ). AllSwept g sweep n before after dropped dirt) all l.swept

-- ---- what was worked out once is what the rules say of every set

-- a change of every set goes by what each row gives
each_ext : (g : Geometry) (t : Tables) (h : Shaped g t) (e f : Row → Row) → ((r : Row) → length r.tags ≡ g.ways → e r ≡ f r)
    → (n : ℕ) → n ≤ g.sets → each_set g.ways n e t ≡ each_set g.ways n f t
unfolding each_set
each_ext g t h e f same zero le = refl
each_ext g t h e f same (suc n) le =
    ap₂ (put_row g.ways n) (same (row_at g.ways n t) (row_long g h n le)) (each_ext g t h e f same n (omega arith))

module _ (g : Geometry) (old new : Maps) (t : Tables) (h : Shaped g t) where
  abbrev was : Maps
  was = as_read g.ways old

  abbrev next : Maps
  next = as_read g.ways new

  effect_is : (r : Row) → length r.tags ≡ g.ways → sweep_by (sweep_of g.ways g.rule old new) r ≡ clean (rule_of g.rule g.ways) was next r
  effect_is r e =
      subst (λ (W : ℕ). sweep_by (sweep_of W g.rule old new) r ≡ clean (rule_of g.rule W) (as_read W old) (as_read W new) r) e
      (sweep_cleans g.rule old new r (rw e h.limited.limits))

  pub all_clean : {u : Tables} {sweep : Sweep} {n d : ℕ} → AllSwept g sweep g.sets t u n d → sweep ≡ sweep_of g.ways g.rule old new
      → (u ≡ each_set g.ways g.sets (cleaned (rule_of g.rule g.ways) was next) t)
      × (n ≡ total g.ways g.sets (dropped was next) t) × (d ≡ total g.ways g.sets (dropped_dirty was next) t)
  unfolding clean
  all_clean {u} {sweep} {n} {d} a e = (tables, drops, dirt)
    where
      is : (r : Row) → length r.tags ≡ g.ways → sweep_by sweep r ≡ clean (rule_of g.rule g.ways) was next r
      is r q = ap (λ (s : Sweep). sweep_by s r) e ∙ effect_is r q

      tables : u ≡ each_set g.ways g.sets (cleaned (rule_of g.rule g.ways) was next) t
      tables =
          a.tables_is
          ∙ each_ext g t h (λ (r : Row). (sweep_by sweep r).row) (cleaned (rule_of g.rule g.ways) was next)
          (λ r q. ap (λ (x : Effect). x.row) (is r q)) g.sets (omega arith)

      drops : n ≡ total g.ways g.sets (dropped was next) t
      drops =
          a.dropped_is
          ∙ total_ext g.ways g.sets (λ (r : Row). (drops_by_sweep sweep r).dropped) (dropped was next) t t
          (λ i k. ap (λ (x : Effect). (drops_in x.answer).dropped) (is (row_at g.ways i t) (row_long g h i k)))

      dirt : d ≡ total g.ways g.sets (dropped_dirty was next) t
      dirt =
          a.dirty_is
          ∙ total_ext g.ways g.sets (λ (r : Row). (drops_by_sweep sweep r).dirty) (dropped_dirty was next) t t
          (λ i k. ap (λ (x : Effect). (drops_in x.answer).dirty) (is (row_at g.ways i t) (row_long g h i k)))
