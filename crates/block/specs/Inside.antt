-- What the crate's inner functions go by.
use Rattle.std.specs.Prelude.{◌≡◌, Result, Ok, Err, ℕ, ◌+◌, ◌*◌, ◌^◌, ◌<◌, List, [], ◌++◌, length, take, drop, slice_index, slice_index_or}
use Rattle.std.specs.Borrow.{MutBor}
use Rattle.std.proofs.lemmas.List.Edits.{sets}
use Rattle.endian.specs.Bytes.{digits, field, cut, sum, put_field}
use Rattle.runs.specs.Runs.{numbers, bytes_of}
use Rattle.geometry.specs.Inside.{Limited}
use Rattle.geometry.specs.declared.Geometry.{Geometry}
use Rattle.row.specs.Row.{Row, Effect}
use Rattle.row.specs.Calls.{row_of, effect_of, told}
use Rattle.row.specs.declared.Done.{Done}
use Rattle.row.specs.declared.Lines.{Lines}
use Rattle.command.specs.Refusal.{number_of}
use Rattle.command.specs.declared.Answer.{Answer}
use Rattle.command.specs.declared.Answer.TheVariants.{Refused}
use Rattle.command.specs.declared.Refusal.{Refusal}
use Rattle.domains.specs.Domains.{put_domain}
use Rattle.domains.specs.declared.Domain.{Domain}
use Rattle.steps.specs.Tables.{Tables}
use Rattle.steps.specs.Step.{State}
use Rattle.sweep.specs.declared.Sweep.{Sweep}
use Rattle.steps.specs.Deed.{Work, AllSwept, Deed}
use Rattle.block.specs.Layout.{sizes, block_bytes, state_in}
use Rattle.block.specs.Block.{number_in, filled}
use Rattle.block.specs.declared.layout.Places.{Places}

-- A block of the right length under a geometry within the limits.
pub record Blocked (g : Geometry) (block : List ℕ) : Type 0 where
  pub limited : Limited g
  pub long : length block ≡ block_bytes g

-- All that a block of a geometry holds: its head as it stands, and the state.
pub record Contents : Type 0 where
  pub head : List ℕ
  pub state : State

unfoldable pub contents_in : Geometry → List (List ℕ) → Contents
contents_in g parts = record { head = slice_index_or parts 0 []; state = state_in g parts }

unfoldable pub contents : Geometry → List ℕ → Contents
contents g block = contents_in g (cut (sizes g) block)

abbrev pub with_tables : Tables → Contents → Contents
with_tables t c = record { head = c.head; state = record { tables = t; domains = c.state.domains } }

abbrev pub with_domain : ℕ → Domain → Contents → Contents
with_domain d x c = record { head = c.head; state = record { tables = c.state.tables; domains = put_domain d x c.state.domains } }

-- Where a set's valid map, dirty map, replacement word and tags lie.
pub record PlacesOf (g : Geometry) (set : ℕ) (p : Places) : Type 0 where
  pub valid_is : p.valid ≡ sum (take 4 (sizes g)) + set * 2
  pub dirty_is : p.dirty ≡ sum (take 5 (sizes g)) + set * 2
  pub word_is : p.word ≡ sum (take 6 (sizes g)) + set * 8
  pub row_is : p.row ≡ sum (take 7 (sizes g)) + set * g.ways * 8

-- What stands there beside the tags, and the block with something else there.
abbrev pub lines_at : Places → List ℕ → Lines
lines_at p block = record { valid = field p.valid 2 block; dirty = field p.dirty 2 block; word = field p.word 8 block }

abbrev pub put_lines : Places → Lines → List ℕ → List ℕ
put_lines p l block = put_field p.word 8 l.word (put_field p.dirty 2 l.dirty (put_field p.valid 2 l.valid block))

-- The row at some places of a block, with W tags; and the block with another row there.
abbrev pub row_in : Places → ℕ → List ℕ → Row
row_in p W block = row_of (numbers 8 W (drop p.row block)) (lines_at p block)

abbrev pub put_row_in : Places → Row → List ℕ → List ℕ
put_row_in p r block = put_lines p (record { valid = r.valid; dirty = r.dirty; word = r.word }) (sets block p.row (bytes_of 8 r.tags))

-- A row of W tags whose numbers have the widths of a block's.
pub record RowFits (W : ℕ) (r : Row) : Type 0 where
  pub long : length r.tags ≡ W
  pub tags : (i : ℕ) → slice_index r.tags i < 256 ^ 8
  pub valid : r.valid < 256 ^ 2
  pub dirty : r.dirty < 256 ^ 2
  pub word : r.word < 256 ^ 8

-- The row at some places is taken out, worked on and put back.
pub record RowWorked (p : Places) (f : Row → Effect) (W : ℕ) (before : List ℕ) (answer : Answer) (after : List ℕ) : Type 0 where
  pub answer_is : answer ≡ (f (row_in p W before)).answer
  pub block_is : after ≡ put_row_in p (f (row_in p W before)).row before
  pub fits : RowFits W (f (row_in p W before)).row

-- What calls that are lent a row's tags and given the rest of it may answer and leave is what f does to the row.
pub record DoesToRow (may : MutBor (List ℕ) → Lines → Done → MutBor (List ℕ) → Type 0) (f : Row → Effect) : Type 0 where
  pub does : (tags left : MutBor (List ℕ)) (l : Lines) (d : Done) → may tags l d left
      → told (effect_of d left.now) ≡ told (f (row_of tags.now l))

-- What is told of a step that was done or turned down.
abbrev pub told_of : Result Answer Refusal → Answer
told_of (Ok a) = a
told_of (Err r) = Refused (number_of r)

-- What a function answers, and the contents that it leaves.
pub record Did : Type 0 where
  pub answer : Answer
  pub left : Contents

abbrev pub did_of : Answer → Contents → Did
did_of a c = record { answer = a; left = c }

abbrev pub work_did : Work → Contents → Did
work_did w c = did_of w.answer (with_tables w.tables c)

abbrev pub deed_did : ℕ → Deed → Contents → Did
deed_did d deed c = did_of deed.answer (with_domain d deed.own (with_tables deed.tables c))

-- What the sweep of every set leaves of a block, and tells: nothing but the tables changed, and they are swept.
pub record Swept (g : Geometry) (sweep : Sweep) (before after : List ℕ) (drops dirt : ℕ) : Type 0 where
  pub left : contents g after ≡ with_tables (contents g after).state.tables (contents g before)
  pub swept : AllSwept g sweep g.sets (contents g before).state.tables (contents g after).state.tables drops dirt

-- ---- The answer

-- The result and the answer after it.
pub record Replied : Type 0 where
  pub result : ℕ
  pub answer : List ℕ

abbrev pub replied_of : ℕ → List ℕ → Replied
replied_of n answer = record { result = n; answer = answer }

abbrev pub replied : List ℕ → List ℕ → Replied
replied told answer = replied_of (number_in told) (filled told answer)

-- ---- A fresh block

-- The bytes that name a geometry.
abbrev pub named_by : Geometry → List ℕ
named_by g = digits 2 g.sets ++ digits 1 g.ways ++ digits 1 g.rule
