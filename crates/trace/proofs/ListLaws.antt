-- The listing of a file on lent tables and into a lent output.
use mathlib.Core.Path.{◌≡◌, refl, sym, ap, ap₂, ◌∙◌}
use mathlib.Core.Bool.{true, false}
use mathlib.Core.List.{List, ◌++◌}
use Prim.Native.Nat.{ℕ, ◌+◌, ◌-◌, ◌*◌, ◌≤◌}
use native.Mathlib.Nat.{le_trans, le_of_eq}
use native.Mathlib.Omega.{arith}
use lib.Dec.{eqb}
use lib.ListN.{length, take, drop, length-append}
use lib.Seq.{sets, sets-eq, length-take-le}
use borrow.Author.Tests.{eq-eqb, ne_eqb}
use borrow.Rule.Slice.PartMut.{post_of, Post-is}
use Rattle.io.specs.Counts.{IsPrefixLen}
use Rattle.geometry.specs.Geometry.{within, Lengths, sized}
use Rattle.geometry.specs.Inside.{Limited}
use Rattle.geometry.specs.Named.{geometry_of}
use Rattle.geometry.specs.declared.Geometry.{Geometry}
use Rattle.geometry.proofs.GeometryLaws.{limited, rows_fit}
use Rattle.steps.specs.Tables.{Tables, lengths}
use Rattle.steps.specs.Step.{tables_of}
use Rattle.tracefile.specs.Statements.{Accepted}
use Rattle.tracefile.proofs.FileLaws.{accepted}
use Rattle.tracefile.specs.File.{max_steps, max_file_sets, step_count, steps_of, file_refusal}
use Rattle.listing.specs.Listing.{refused_line, run_lines, listing}
use Rattle.trace.specs.Calls.{Listed, listed_of, onto, onto_tables, last_tables, list_of}
use Rattle.trace.specs.Inside.{Written, written_of, append, ListedBy, listed_by, listing_by, Roomy}
use Rattle.trace.proofs.TextLaws.{piece_end}

-- ---- the front of the lent tables

-- Room in the tables for the geometry of a file that is not refused, and in the output for its listing.
pub record Fitting (g : Geometry) (n : ℕ) (t : Tables) (out : List ℕ) : Type 0 where
  pub stands : within g ≡ true
  pub few_steps : n ≤ max_steps
  pub cells : g.sets * g.ways ≤ max_file_sets * 16
  pub tags_room : g.sets * g.ways ≤ length t.tags
  pub valid_room : g.sets ≤ length t.valid
  pub dirty_room : g.sets ≤ length t.dirty
  pub words_room : g.sets ≤ length t.words
  pub out_room : 393216 ≤ length out

pub fitting : (file : List ℕ) {g : Geometry} {n : ℕ} {t : Tables} {out : List ℕ} → g ≡ geometry_of file → n ≡ step_count file
    → file_refusal file ≡ 0 → Roomy t out → Fitting g n t out
fitting file {g} {n} {t} {out} named counted z r =
    let a : Accepted file = accepted file z in
    let w : within g ≡ true = ap within named ∙ a.limits in
    let l : Limited g = limited g w in
    let sets : g.sets ≤ max_file_sets = le_trans (le_of_eq (ap (λ (h : Geometry). h.sets) named)) a.few_sets in
    let cells : g.sets * g.ways ≤ max_file_sets * 16 = rows_fit g l sets in
    record {
      stands = w;
      few_steps = omega (arith, counted, a.short);
      cells = cells;
      tags_room = le_trans cells r.tags_long;
      valid_room = le_trans sets r.valid_long;
      dirty_room = le_trans sets r.dirty_long;
      words_room = le_trans sets r.words_long;
      out_room = r.out_long;
    }

-- The part up to k, as it is lent.
abbrev lent : ℕ → List ℕ → List ℕ
lent k xs = take (k - 0) xs

-- A list with that part put back.
abbrev returned : ℕ → List ℕ → List ℕ → List ℕ
returned k part xs = part ++ post_of 0 (k - 0) xs

part_long : (k : ℕ) (xs : List ℕ) → k ≤ length xs → length (lent k xs) ≡ k
part_long k xs h = length-take-le (k - 0) xs (omega arith) ∙ omega arith

-- It lies at the front.
front : (k : ℕ) (xs part : List ℕ) → k ≤ length xs → length part ≡ length (lent k xs) → returned k part xs ≡ onto part xs
front k xs part h l =
    ap (λ (r : List ℕ). part ++ r) (Post-is 0 k xs (omega arith) ∙ ap (λ (n : ℕ). drop n xs) (sym (l ∙ part_long k xs h)))

-- The parts of the tables that a geometry needs, and the tables with these put back.
abbrev pub lent_tables : Geometry → Tables → Tables
lent_tables g t =
    tables_of (lent (g.sets * g.ways) t.tags) (lent g.sets t.valid) (lent g.sets t.dirty) (lent g.sets t.words)

abbrev pub returned_tables : Geometry → Tables → Tables → Tables
returned_tables g new t = record {
  tags = returned (g.sets * g.ways) new.tags t.tags;
  valid = returned g.sets new.valid t.valid;
  dirty = returned g.sets new.dirty t.dirty;
  words = returned g.sets new.words t.words;
}

pub lent_sized : {g : Geometry} {n : ℕ} {t : Tables} {out : List ℕ} → Fitting g n t out → sized g (lengths (lent_tables g t)) ≡ true
unfolding sized
lent_sized {g} {n} {t} r =
    let tags : length (lent (g.sets * g.ways) t.tags) ≡ g.sets * g.ways = part_long (g.sets * g.ways) t.tags r.tags_room in
    let valid : length (lent g.sets t.valid) ≡ g.sets = part_long g.sets t.valid r.valid_room in
    let dirty : length (lent g.sets t.dirty) ≡ g.sets = part_long g.sets t.dirty r.dirty_room in
    let words : length (lent g.sets t.words) ≡ g.sets = part_long g.sets t.words r.words_room in
    rw (tags, valid, dirty, words, eq-eqb (g.sets * g.ways) (g.sets * g.ways) refl, eq-eqb g.sets g.sets refl)

fronts : {g : Geometry} {n : ℕ} {t : Tables} {out : List ℕ} (new : Tables) → Fitting g n t out → lengths new ≡ lengths (lent_tables g t)
    → returned_tables g new t ≡ onto_tables new t
fronts {g} {n} {t} new r same = λ j. record {
  tags = front (g.sets * g.ways) t.tags new.tags r.tags_room (ap (λ (m : Lengths). m.tags) same) j;
  valid = front g.sets t.valid new.valid r.valid_room (ap (λ (m : Lengths). m.valid) same) j;
  dirty = front g.sets t.dirty new.dirty r.dirty_room (ap (λ (m : Lengths). m.dirty) same) j;
  words = front g.sets t.words new.words r.words_room (ap (λ (m : Lengths). m.words) same) j;
}

-- ---- the call

-- A piece at the front of the output.
front_piece : (xs out : List ℕ) → length xs ≤ length out → sets out 0 xs ≡ onto xs out
front_piece xs out h =
    let all : 0 + length xs ≡ length xs = omega arith in
    sets-eq xs out 0 (rw all h) ∙ ap (λ (n : ℕ). xs ++ drop n out) all

pub refused_is : (file out last : List ℕ) (t : Tables) {n r : ℕ} → n ≡ file_refusal file → (n ≡ 0 → ⊥) → 29 ≤ length out
    → written_of r last ≡ append (refused_line n) (written_of 0 out) → r ≤ 29 → listed_of r last t ≡ list_of file out t
unfolding list_of last_tables listing append
refused_is file out last t {n} {r} e z h w b =
    let other : eqb (file_refusal file) 0 ≡ false = ne_eqb (file_refusal file) 0 (λ q. z (e ∙ q)) in
    let line : List ℕ = refused_line (file_refusal file) in
    let is : written_of r last ≡ append line (written_of 0 out) = w ∙ ap (λ (k : ℕ). append (refused_line k) (written_of 0 out)) e in
    let all : r ≡ length line = piece_end line (written_of 0 out) is ∙ omega arith in
    rw other
    (ap₂ (λ (k : ℕ) (xs : List ℕ). listed_of k xs t) all (ap (λ (v : Written). v.out) is ∙ front_piece line out (omega (arith, all))))

listed_front : (file out last : List ℕ) (t new : Tables) (r : ℕ) → file_refusal file ≡ 0 → r ≤ 393216 → 393216 ≤ length out
    → listed_by new (written_of r last) ≡ listing_by (geometry_of file) file (step_count file) out
    → listed_of r last (onto_tables new t) ≡ list_of file out t
unfolding list_of last_tables listing listing_by append
listed_front file out last t new r z b h e =
    let none : eqb (file_refusal file) 0 ≡ true = eq-eqb (file_refusal file) 0 z in
    let lines : List ℕ = run_lines (geometry_of file) (steps_of file) (step_count file) in
    let is : written_of r last ≡ append lines (written_of 0 out) = ap (λ (l : ListedBy). l.text) e in
    let all : r ≡ length lines = piece_end lines (written_of 0 out) is ∙ omega arith in
    rw none
    (λ j. record {
      count = all j;
      output = (ap (λ (v : Written). v.out) is ∙ front_piece lines out (omega (arith, all))) j;
      tables = onto_tables (e j).tables t;
    })

-- The listing of the geometry and the steps that the file names, with the lent parts put back.
pub listed_is : (file : List ℕ) {out last : List ℕ} {t : Tables} {g : Geometry} {n r : ℕ} (new : Tables) → g ≡ geometry_of file → n ≡ step_count file
    → file_refusal file ≡ 0 → Roomy t out → lengths new ≡ lengths (lent_tables g t)
    → listed_by new (written_of r last) ≡ listing_by g file n out → r ≤ 393216
    → listed_of r last (returned_tables g new t) ≡ list_of file out t
listed_is file {out} {last} {t} {g} {n} {r} new named counted z room same e b =
    ap (listed_of r last) (fronts new (fitting file named counted z room) same)
    ∙ listed_front file out last t new r z b room.out_long
    (e ∙ ap₂ (λ (h : Geometry) (k : ℕ). listing_by h file k out) named counted)

-- What is written lies within the output.
pub listed_counts : (file out : List ℕ) (t : Tables) {r : ℕ} {last : List ℕ} {new : Tables} → listed_of r last new ≡ list_of file out t → IsPrefixLen r last
unfolding list_of
listed_counts file out t {r} {last} {new} e =
    let all : length last ≡ length (listing file) + length (drop (length (listing file)) out) =
    ap (λ (l : Listed). length l.output) e ∙ length-append (listing file) (drop (length (listing file)) out) in
    let count : r ≡ length (listing file) = ap (λ (l : Listed). l.count) e in
    let short : r ≤ length last = omega (arith, all, count) in
    (short, sym (length-take-le r last short))
