-- A set of a block: what stands there, and what is put there.
use Rattle.std.proofs.Common.{◌≡◌, ℕ, ◌+◌, ◌-◌, ◌*◌, ◌^◌, ◌<◌, ◌≤◌, List, ◌++◌, length, get_or, take, drop, set as put_at, sym, refl, ap, ◌∙◌, append_assoc, le_of_eq, arith, drop-drop}
use lib.Seq.{sets, sets-eq, length-sets}
use Rattle.endian.specs.Bytes.{digits, field, cut, put_field}
use Rattle.runs.specs.Runs.{numbers, bytes_of}
use Rattle.runs.proofs.TableLaws.{number_at, numbers_front, numbers_put, numbers_puts, numbers_part, numbers_in, bytes_long, numbers_long}
use Rattle.geometry.specs.declared.Geometry.{Geometry}
use Rattle.row.specs.Calls.{row_of}
use Rattle.row.specs.declared.Lines.{Lines}
use Rattle.steps.specs.Tables.{Tables, put_row}
use Rattle.steps.specs.Inside.{Shaped}
use Rattle.steps.proofs.SetLaws.{row_within}
use Rattle.block.specs.Layout.{sizes, state_in}
use Rattle.block.specs.Inside.{Blocked, contents_in, contents, with_tables, PlacesOf, lines_at, put_lines}
use Rattle.block.specs.declared.layout.Places.{Places}
use Rattle.block.proofs.PartLaws.{part, size, start, written, part_is, part_long, number_of, stored, put_stored}

abbrev pub tables_in : Geometry → List ℕ → Tables
tables_in g block = (contents g block).state.tables

-- The tables have the lengths of their geometry.
pub tables_shaped : (g : Geometry) (block : List ℕ) → Blocked g block → Shaped g (tables_in g block)
unfolding contents contents_in state_in
tables_shaped g block b = record {
  limited = b.limited;
  tags_long = numbers_long 8 (g.sets * g.ways) (part g block 7);
  valid_long = numbers_long 2 g.sets (part g block 4);
  dirty_long = numbers_long 2 g.sets (part g block 5);
  words_long = numbers_long 8 g.sets (part g block 6);
}

-- The valid maps alone.
pub valid_all : (g : Geometry) (block : List ℕ) → (tables_in g block).valid ≡ numbers 2 g.sets (drop 520 block)
unfolding contents contents_in state_in sizes
valid_all g block = ap (numbers 2 g.sets) (part_is g block 4 (omega arith)) ∙ numbers_front 2 g.sets (g.sets * 2) (drop 520 block) (omega arith)

pub valid_at : (sets set : ℕ) (block : List ℕ) → set < sets → field (520 + 2 * set) 2 block ≡ get_or (numbers 2 sets (drop 520 block)) set 0
unfolding field
valid_at sets set block h =
    let place : 520 + 2 * set ≡ 520 + set * 2 = omega arith in
    ap (λ (a : ℕ). field a 2 block) place
    ∙ sym (number_at 2 sets (drop 520 block) set h ∙ rw (drop-drop (set * 2) 520 block))

module _ (g : Geometry) (block : List ℕ) (set : ℕ) (p : Places) (h : set < g.sets) (at : PlacesOf g set p) where
  -- ---- read

  pub lines_read : lines_at p block ≡ record {
    valid = get_or (tables_in g block).valid set 0;
    dirty = get_or (tables_in g block).dirty set 0;
    word = get_or (tables_in g block).words set 0;
  }
  unfolding contents contents_in state_in sizes
  lines_read = λ i. record {
    valid = (ap (λ (a : ℕ). field a 2 block) at.valid_is ∙ sym (number_of g block 4 2 g.sets set (omega arith) refl h)) i;
    dirty = (ap (λ (a : ℕ). field a 2 block) at.dirty_is ∙ sym (number_of g block 5 2 g.sets set (omega arith) refl h)) i;
    word = (ap (λ (a : ℕ). field a 8 block) at.word_is ∙ sym (number_of g block 6 8 g.sets set (omega arith) refl h)) i;
  }

  pub tags_read : numbers 8 g.ways (drop p.row block) ≡ take g.ways (drop (set * g.ways) (tables_in g block).tags)
  unfolding contents contents_in state_in sizes
  tags_read =
      let W : ℕ = g.ways in
      let inside : set * W + W ≤ g.sets * W = row_within set g.sets W h in
      sym
      (numbers_part 8 (set * W) W (g.sets * W) (part g block 7) inside
      ∙ ap (λ (x : List ℕ). numbers 8 W (drop (set * W * 8) x)) (part_is g block 7 (omega arith))
      ∙ numbers_in 8 W (start g 7) (set * W * 8) (size g 7) block (omega arith)
      ∙ ap (λ (a : ℕ). numbers 8 W (drop a block)) (sym at.row_is))

  -- ---- put

  module _ (b : Blocked g block) (ts : List ℕ) (l : Lines) (long : length ts ≡ g.ways) (fit : (j : ℕ) → get_or ts j 0 < 256 ^ 8)
      (valid_fits : l.valid < 256 ^ 2) (dirty_fits : l.dirty < 256 ^ 2) (word_fits : l.word < 256 ^ 8) where
    abbrev W : ℕ
    W = g.ways

    -- the tags first, then the two maps and the word
    abbrev one : List ℕ
    one = sets block p.row (bytes_of 8 ts)

    abbrev two : List ℕ
    two = put_field p.valid 2 l.valid one

    abbrev three : List ℕ
    three = put_field p.dirty 2 l.dirty two

    inside : set * W + W ≤ g.sets * W
    inside = row_within set g.sets W h

    one_put : cut (sizes g) one ≡ written 7 (set * W * 8) (bytes_of 8 ts) (cut (sizes g) block)
    unfolding sizes
    one_put =
        ap (λ (a : ℕ). cut (sizes g) (sets block a (bytes_of 8 ts))) at.row_is
        ∙ stored g block 7 (set * W * 8) (bytes_of 8 ts) (omega arith) (rw (bytes_long 8 ts, long) (omega (arith, inside)))

    one_blocked : Blocked g one
    one_blocked = record { limited = b.limited; long = length-sets block p.row (bytes_of 8 ts) ∙ b.long }

    two_put : (cut (sizes g) two ≡ written 4 (set * 2) (digits 2 l.valid) (cut (sizes g) one)) × (length two ≡ length one)
    unfolding sizes
    two_put = put_stored g one 4 2 g.sets set l.valid (omega arith) refl h one_blocked at.valid_is

    two_blocked : Blocked g two
    two_blocked = record { limited = b.limited; long = two_put.1 ∙ one_blocked.long }

    three_put : (cut (sizes g) three ≡ written 5 (set * 2) (digits 2 l.dirty) (cut (sizes g) two)) × (length three ≡ length two)
    unfolding sizes
    three_put = put_stored g two 5 2 g.sets set l.dirty (omega arith) refl h two_blocked at.dirty_is

    three_blocked : Blocked g three
    three_blocked = record { limited = b.limited; long = three_put.1 ∙ two_blocked.long }

    four_put : cut (sizes g) (put_field p.word 8 l.word three) ≡ written 6 (set * 8) (digits 8 l.word) (cut (sizes g) three)
    unfolding sizes
    four_put = (put_stored g three 6 8 g.sets set l.word (omega arith) refl h three_blocked at.word_is).0

    all_put : cut (sizes g) (put_lines p l one)
        ≡ written 6 (set * 8) (digits 8 l.word) (written 5 (set * 2) (digits 2 l.dirty)
        (written 4 (set * 2) (digits 2 l.valid) (written 7 (set * W * 8) (bytes_of 8 ts) (cut (sizes g) block))))
    all_put =
        four_put
        ∙ ap (written 6 (set * 8) (digits 8 l.word))
        (three_put.0
        ∙ ap (written 5 (set * 2) (digits 2 l.dirty))
        (two_put.0 ∙ ap (written 4 (set * 2) (digits 2 l.valid)) one_put))

    -- a table of numbers, one of them put
    table_put : (i n v : ℕ) → i < 8 → size g i ≡ g.sets * n → v < 256 ^ n
        → numbers n g.sets (sets (part g block i) (set * n) (digits n v)) ≡ put_at (numbers n g.sets (part g block i)) set v
    table_put i n v k e f = numbers_put n g.sets (part g block i) set v h (le_of_eq (sym (part_long g block i k b ∙ e))) f

    tags_put : numbers 8 (g.sets * W) (sets (part g block 7) (set * W * 8) (bytes_of 8 ts))
        ≡ take (set * W) (numbers 8 (g.sets * W) (part g block 7)) ++ (ts ++ drop W (drop (set * W) (numbers 8 (g.sets * W) (part g block 7))))
    unfolding sizes
    tags_put =
        let old : List ℕ = numbers 8 (g.sets * W) (part g block 7) in
        numbers_puts 8 (g.sets * W) ts (part g block 7) (set * W) (omega (arith, inside, long)) (le_of_eq (sym (part_long g block 7 (omega arith) b))) fit
        ∙ sets-eq ts old (set * W) (omega (arith, inside, long, numbers_long 8 (g.sets * W) (part g block 7)))
        ∙ append_assoc (take (set * W) old) ts (drop (set * W + length ts) old)
        ∙ ap (λ (xs : List ℕ). take (set * W) old ++ (ts ++ xs))
        (sym (drop-drop W (set * W) old ∙ ap (λ (k : ℕ). drop (set * W + k) old) (sym long)))

    pub row_put : contents g (put_lines p l one) ≡ with_tables (put_row g.ways set (row_of ts l) (tables_in g block)) (contents g block)
    unfolding contents contents_in state_in sizes put_row cut
    row_put = ap (contents_in g) all_put ∙ (λ i. record {
      head = part g block 0;
      state = record {
        tables = record {
          tags = tags_put i;
          valid = table_put 4 2 l.valid (omega arith) refl valid_fits i;
          dirty = table_put 5 2 l.dirty (omega arith) refl dirty_fits i;
          words = table_put 6 8 l.word (omega arith) refl word_fits i;
        };
        domains = (contents g block).state.domains;
      };
    })
