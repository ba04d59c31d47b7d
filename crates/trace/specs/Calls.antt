-- What the call that lists a file gives, for every file and every lent table and output.
use Rattle.std.specs.Prelude.{cond, List, ◌++◌, ℕ, eqb, length, drop}
use Rattle.geometry.specs.Named.{geometry_of}
use Rattle.cores.specs.Run.{core_finally, fresh_lent}
use Rattle.steps.specs.Tables.{Tables}
use Rattle.tracefile.specs.File.{steps_of, file_refusal}
use Rattle.listing.specs.Listing.{lister_cores, listing}

-- How many bytes are written, the output and the tables.
pub record Listed : Type 0 where
  pub count : ℕ
  pub output : List ℕ
  pub tables : Tables

abbrev pub listed_of : ℕ → List ℕ → Tables → Listed
listed_of n out t = record { count = n; output = out; tables = t }

-- A list at the front of another, which keeps what lies behind it.
abbrev pub onto : List ℕ → List ℕ → List ℕ
onto xs old = xs ++ drop (length xs) old

-- Tables at the front of the lent ones.
abbrev pub onto_tables : Tables → Tables → Tables
onto_tables t old = record {
  tags = onto t.tags old.tags;
  valid = onto t.valid old.valid;
  dirty = onto t.dirty old.dirty;
  words = onto t.words old.words;
}

-- The tables at the end of the run; a refused file leaves them.
unfoldable pub last_tables : List ℕ → Tables → Tables
last_tables file t =
    let g = geometry_of file in
    cond (eqb (file_refusal file) 0) (onto_tables (core_finally g (steps_of file) (fresh_lent g lister_cores)).cache.tables t) t

-- The listing at the front of the output.
unfoldable pub list_of : List ℕ → List ℕ → Tables → Listed
list_of file out t = record { count = length (listing file); output = onto (listing file) out; tables = last_tables file t }
