-- The work on a set of a block: its row taken out, worked on and put back.
use Rattle.std.proofs.Common.{◌≡◌, ℕ, ◌+◌, ◌-◌, ◌*◌, ◌<◌, ◌≤◌, List, length, take, drop, replicate, refl, ap, ◌∙◌, arith, length-take-le}
use native.Mathlib.Nat.{sub-zero}
use lib.Seq.{sets}
use Rattle.runs.specs.Runs.{numbers, bytes_of}
use Rattle.geometry.specs.declared.Geometry.{Geometry}
use Rattle.row.specs.Row.{Row, Effect}
use Rattle.row.specs.Calls.{row_of, effect_of, told}
use Rattle.row.specs.declared.Done.{Done}
use Rattle.row.specs.declared.Lines.{Lines}
use Rattle.row.proofs.ToldLaws.{told_injective}
use Rattle.command.specs.declared.Answer.{Answer}
use Rattle.sweep.specs.Sweep.{sweep_by}
use Rattle.sweep.specs.Drops.{added_to}
use Rattle.sweep.specs.declared.Sweep.{Sweep}
use Rattle.sweep.specs.declared.Drops.{Drops}
use Rattle.steps.specs.Tables.{row_at, put_row}
use Rattle.steps.specs.Deed.{on_row}
use Rattle.steps.proofs.SweepLaws.{Sweeping, begin, turned, end}
use Rattle.steps.proofs.SetLaws.{row_within}
use Rattle.block.specs.Layout.{sizes}
use Rattle.block.specs.Inside.{
  Blocked,
  Contents,
  contents,
  with_tables,
  PlacesOf,
  lines_at,
  put_lines,
  row_in,
  RowFits,
  RowWorked,
  Swept,
  Did,
  did_of,
  work_did,
}
use Rattle.block.specs.declared.layout.Places.{Places}
use Rattle.block.proofs.SetLaws.{tables_in, tables_shaped, lines_read, tags_read, row_put}

-- The calls that take a row out, work on it and put it back.
pub row_worked : (p : Places) (f : Row → Effect) (block : List ℕ) {W : ℕ} {row new one after : List ℕ} {l : Lines} {d : Done}
    → row ≡ numbers 8 W (drop p.row block) → l ≡ lines_at p block → told (effect_of d new) ≡ told (f (row_of row l))
    → one ≡ sets block p.row (bytes_of 8 new) → after ≡ put_lines p d.lines one
    → RowFits W (row_of new d.lines) → RowWorked p f W block d.answer after
row_worked p f block {W} {row} {new} {one} {after} {l} {d} load lines work store put fit =
    let same : effect_of d new ≡ f (row_in p W block) =
    told_injective (effect_of d new) (f (row_of row l)) work ∙ (λ i. f (row_of (load i) (lines i))) in
    record {
      answer_is = ap (λ (e : Effect). e.answer) same;
      block_is = put ∙ ap (put_lines p d.lines) store
          ∙ ap (λ (e : Effect). put_lines p (record { valid = e.row.valid; dirty = e.row.dirty; word = e.row.word })
          (sets block p.row (bytes_of 8 e.row.tags))) same;
      fits = rw (← same) fit;
    }

module _ (g : Geometry) (block : List ℕ) (b : Blocked g block) (set : ℕ) (h : set < g.sets) (p : Places) (at : PlacesOf g set p) where
  -- there is room for the row
  pub row_room : p.row + 8 * g.ways ≤ length block
  unfolding sizes
  row_room = omega (arith, at.row_is, b.long, row_within set g.sets g.ways h)

  -- it is the set's
  row_is : row_in p g.ways block ≡ row_at g.ways set (tables_in g block)
  unfolding row_at
  row_is = λ i. row_of (tags_read g block set p h at i) (lines_read g block set p h at i)

  -- and what is put there is put into the tables
  pub set_worked : (f : Row → Effect) {a : Answer} {after : List ℕ} → RowWorked p f g.ways block a after
      → did_of a (contents g after) ≡ work_did (on_row g.ways set f (tables_in g block)) (contents g block)
  unfolding on_row
  set_worked f {a} {after} w =
      let r : Row = (f (row_in p g.ways block)).row in
      let l : Lines = record { valid = r.valid; dirty = r.dirty; word = r.word } in
      let left : contents g after ≡ with_tables (put_row g.ways set r (tables_in g block)) (contents g block) =
      ap (contents g) w.block_is
      ∙ row_put g block set p h at b r.tags l w.fits.long w.fits.tags w.fits.valid w.fits.dirty w.fits.word in
      (λ i. did_of (w.answer_is i) (left i))
      ∙ ap (λ (x : Row). did_of (f x).answer (with_tables (put_row g.ways set (f x).row (tables_in g block)) (contents g block))) row_is

-- A row of W tags is cut from sixteen.
pub row_cut : (W : ℕ) → W ≤ 16 → length (take {A = ℕ} (W - 0) (replicate 16 0)) ≡ W
row_cut W h = rw (sub-zero W) (length-take-le {A = ℕ} W (replicate 16 0) h)

-- ---- set after set

-- The first s sets are swept, and nothing but the tables changed.
pub record Cleaning (g : Geometry) (sweep : Sweep) (before after : List ℕ) (drops dirt s : ℕ) : Type 0 where
  pub long : length after ≡ length before
  pub left : contents g after ≡ with_tables (tables_in g after) (contents g before)
  pub sweeping : Sweeping g sweep (tables_in g before) (tables_in g after) drops dirt s

pub clean_begin : (g : Geometry) (sweep : Sweep) (block : List ℕ) → Blocked g block → Cleaning g sweep block block 0 0 0
clean_begin g sweep block b = record { long = refl; left = refl; sweeping = begin g sweep (tables_in g block) (tables_shaped g block b) }

pub clean_blocked : {g : Geometry} {sweep : Sweep} {before after : List ℕ} {drops dirt s : ℕ} → Cleaning g sweep before after drops dirt s
    → Blocked g before → Blocked g after
clean_blocked l b = record { limited = b.limited; long = l.long ∙ b.long }

pub clean_turned : {g : Geometry} {sweep : Sweep} {before after : List ℕ} {drops dirt s : ℕ} {a : Answer} {next : List ℕ} {d : Drops}
    → Cleaning g sweep before after drops dirt s → Blocked g before → s < g.sets → length next ≡ length after
    → did_of a (contents g next) ≡ work_did (on_row g.ways s (sweep_by sweep) (tables_in g after)) (contents g after)
    → d ≡ added_to (record { dropped = drops; dirty = dirt }) a → Cleaning g sweep before next d.dropped d.dirty (s + 1)
clean_turned {g} {sweep} {before} {after} {drops} {dirt} {s} {a} {next} {d} l b h long e q = record {
  long = long ∙ l.long;
  left = λ i. record {
    head = (ap (λ (x : Did). x.left.head) e ∙ ap (λ (x : Contents). x.head) l.left) i;
    state = record {
      tables = tables_in g next;
      domains = (ap (λ (x : Did). x.left.state.domains) e ∙ ap (λ (x : Contents). x.state.domains) l.left) i;
    };
  };
  sweeping =
      turned g sweep (tables_in g before) (tables_in g after) (tables_shaped g before b) l.sweeping h
      (ap (λ (x : Did). record { answer = x.answer; tables = x.left.state.tables }) e) q;
}

pub clean_end : {g : Geometry} {sweep : Sweep} {before after : List ℕ} {drops dirt s : ℕ} → Cleaning g sweep before after drops dirt s
    → g.sets ≤ s → Swept g sweep before after drops dirt
clean_end {g} {sweep} {before} {after} l h = record { left = l.left; swept = end g sweep (tables_in g before) (tables_in g after) l.sweeping h }
