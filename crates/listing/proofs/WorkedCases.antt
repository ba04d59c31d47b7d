-- Case A of document 01, from the file's bytes to the listing's, by computing.
use mathlib.Core.Path.{◌≡◌, refl}
use mathlib.Core.List.{List, [], ◌∷◌}
use Prim.Native.Nat.{ℕ}
use Rattle.waymap.specs.Bits.{any}
use Rattle.waymap.specs.Ways.{is_ways}
use Rattle.replacement.specs.Calls.{in_limits}
use Rattle.endian.specs.Bytes.{value, field}
use Rattle.geometry.specs.Geometry.{is_power, within}
use Rattle.command.specs.Command.{command_of}
use Rattle.tracefile.specs.File.{last_steps, bad_file, file_refusal}
use Rattle.listing.specs.Listing.{decimal_by, line, told, answer_lines, domain_line, domain_part, domain_lines, run_lines, listing}
use Rattle.cores.proofs.Computing.{core_computing}

-- "1 set, 4 ways, rule 0, 9 steps"
abbrev file_a : List ℕ
file_a =
    1 ∷ 0 ∷ 4 ∷ 0 ∷ 9 ∷ 0 ∷ 0 ∷ 0 ∷ 0 ∷ 16 ∷ 1 ∷ 16 ∷ 0 ∷ 2 ∷ 0 ∷ 1 ∷ 1 ∷ 1 ∷ 0 ∷ 1 ∷ 0 ∷ 3 ∷ 2 ∷ 1
    ∷ 0 ∷ 1 ∷ 3 ∷ 0 ∷ 3 ∷ 0 ∷ 0 ∷ 0 ∷ 0 ∷ 0 ∷ 12 ∷ 0 ∷ 12 ∷ 0 ∷ 0 ∷ 0 ∷ 0 ∷ 0 ∷ 0 ∷ 0 ∷ 0 ∷ 0 ∷ 0 ∷ 0
    ∷ 0 ∷ 0 ∷ 64 ∷ 0 ∷ 0 ∷ 0 ∷ 0 ∷ 0 ∷ 0 ∷ 0 ∷ 0 ∷ 0 ∷ 0 ∷ 0 ∷ 0 ∷ 0 ∷ 0 ∷ 0 ∷ 128 ∷ 0 ∷ 0 ∷ 0 ∷ 0 ∷ 0
    ∷ 0 ∷ 0 ∷ 64 ∷ 0 ∷ 0 ∷ 0 ∷ 0 ∷ 0 ∷ 0 ∷ 0 ∷ 0 ∷ 0 ∷ 0 ∷ 0 ∷ 0 ∷ 0 ∷ 0 ∷ 0 ∷ 128 ∷ 0 ∷ 0 ∷ 0 ∷ 0 ∷ 0
    ∷ 0 ∷ 0 ∷ []

-- the twelve lines that document 01 prints, lines 2 to 8 with job 8's ways, and with job 6's two counts more on the domain lines
abbrev listing_a : List ℕ
listing_a =
    49 ∷ 32 ∷ 52 ∷ 32 ∷ 48 ∷ 32 ∷ 57 ∷ 10 ∷ 48 ∷ 32 ∷ 112 ∷ 111 ∷ 108 ∷ 105 ∷ 99 ∷ 121 ∷ 32 ∷ 48 ∷ 32 ∷ 48 ∷ 10 ∷ 49 ∷ 32 ∷ 112
    ∷ 111 ∷ 108 ∷ 105 ∷ 99 ∷ 121 ∷ 32 ∷ 48 ∷ 32 ∷ 48 ∷ 10 ∷ 50 ∷ 32 ∷ 102 ∷ 105 ∷ 108 ∷ 108 ∷ 32 ∷ 49 ∷ 10 ∷ 51 ∷ 32 ∷ 102 ∷ 105 ∷ 108
    ∷ 108 ∷ 32 ∷ 48 ∷ 10 ∷ 52 ∷ 32 ∷ 102 ∷ 105 ∷ 108 ∷ 108 ∷ 32 ∷ 51 ∷ 10 ∷ 53 ∷ 32 ∷ 101 ∷ 118 ∷ 105 ∷ 99 ∷ 116 ∷ 32 ∷ 49 ∷ 32 ∷ 48
    ∷ 32 ∷ 49 ∷ 10 ∷ 54 ∷ 32 ∷ 102 ∷ 108 ∷ 117 ∷ 115 ∷ 104 ∷ 32 ∷ 48 ∷ 32 ∷ 48 ∷ 10 ∷ 55 ∷ 32 ∷ 114 ∷ 101 ∷ 102 ∷ 117 ∷ 115 ∷ 101 ∷ 100
    ∷ 32 ∷ 54 ∷ 10 ∷ 56 ∷ 32 ∷ 104 ∷ 105 ∷ 116 ∷ 32 ∷ 49 ∷ 10 ∷ 100 ∷ 111 ∷ 109 ∷ 97 ∷ 105 ∷ 110 ∷ 32 ∷ 48 ∷ 32 ∷ 49 ∷ 32 ∷ 51 ∷ 32
    ∷ 49 ∷ 32 ∷ 49 ∷ 32 ∷ 49 ∷ 32 ∷ 51 ∷ 32 ∷ 48 ∷ 10 ∷ 100 ∷ 111 ∷ 109 ∷ 97 ∷ 105 ∷ 110 ∷ 32 ∷ 49 ∷ 32 ∷ 48 ∷ 32 ∷ 49 ∷ 32 ∷ 48
    ∷ 32 ∷ 48 ∷ 32 ∷ 48 ∷ 32 ∷ 49 ∷ 32 ∷ 48 ∷ 10 ∷ []

pub case_a_listing : listing file_a ≡ listing_a
unfolding command_of value field last_steps bad_file file_refusal decimal_by line told answer_lines domain_line domain_part domain_lines run_lines listing core_computing
case_a_listing = refl

-- Document 02, job 5: core 31 of the 32 that are lent selects domain 1 for its stores, and loads for domain 0.
abbrev file_of_a_core : List ℕ
file_of_a_core =
    1 ∷ 0 ∷ 4 ∷ 0 ∷ 3 ∷ 0 ∷ 0 ∷ 0 ∷ 0 ∷ 16 ∷ 31 ∷ 40 ∷ 31 ∷ 33 ∷ 3 ∷ 0 ∷ 3 ∷ 0 ∷ 0 ∷ 0 ∷ 0 ∷ 0 ∷ 0 ∷ 0 ∷ 1 ∷ 0 ∷ 0 ∷ 0 ∷ 0 ∷ 0 ∷ 64 ∷ 0 ∷ 0
    ∷ 0 ∷ 0 ∷ 0 ∷ 0 ∷ 0 ∷ []

pub core_listing : listing file_of_a_core
    ≡ 49 ∷ 32 ∷ 52 ∷ 32 ∷ 48 ∷ 32 ∷ 51 ∷ 10 ∷ 48 ∷ 32 ∷ 112 ∷ 111 ∷ 108 ∷ 105 ∷ 99 ∷ 121 ∷ 32 ∷ 48 ∷ 32 ∷ 48 ∷ 10 ∷ 49 ∷ 32 ∷ 115
    ∷ 101 ∷ 108 ∷ 101 ∷ 99 ∷ 116 ∷ 32 ∷ 48 ∷ 32 ∷ 48 ∷ 32 ∷ 49 ∷ 10 ∷ 50 ∷ 32 ∷ 102 ∷ 105 ∷ 108 ∷ 108 ∷ 32 ∷ 49 ∷ 10 ∷ 100 ∷ 111 ∷ 109
    ∷ 97 ∷ 105 ∷ 110 ∷ 32 ∷ 48 ∷ 32 ∷ 48 ∷ 32 ∷ 49 ∷ 32 ∷ 48 ∷ 32 ∷ 48 ∷ 32 ∷ 48 ∷ 32 ∷ 49 ∷ 32 ∷ 48 ∷ 10 ∷ []
unfolding command_of value field last_steps bad_file file_refusal decimal_by line told answer_lines domain_line domain_part domain_lines run_lines listing core_computing
core_listing = refl

-- "A file refused by 10 or by 1 gives the one line `refused` and the number": a file of no bytes, one of 3 sets, and one of 257, which
-- document 02's job 3 has refused by 10.
pub record RefusedFiles : Type 0 where
  pub empty : listing [] ≡ 114 ∷ 101 ∷ 102 ∷ 117 ∷ 115 ∷ 101 ∷ 100 ∷ 32 ∷ 49 ∷ 48 ∷ 10 ∷ []
  pub three_sets : listing (3 ∷ 0 ∷ 4 ∷ 0 ∷ 0 ∷ 0 ∷ 0 ∷ 0 ∷ []) ≡ 114 ∷ 101 ∷ 102 ∷ 117 ∷ 115 ∷ 101 ∷ 100 ∷ 32 ∷ 49 ∷ 10 ∷ []
  pub many_sets : listing (1 ∷ 1 ∷ 4 ∷ 0 ∷ 0 ∷ 0 ∷ 0 ∷ 0 ∷ []) ≡ 114 ∷ 101 ∷ 102 ∷ 117 ∷ 115 ∷ 101 ∷ 100 ∷ 32 ∷ 49 ∷ 48 ∷ 10 ∷ []

pub refused_files : RefusedFiles
unfolding any within is_power in_limits is_ways value field bad_file file_refusal decimal_by line listing
refused_files = record { empty = refl; three_sets = refl; many_sets = refl }

-- "`domain`, number" and the counts: hits, misses, evicted, written back, flushed, fills, dropped, here 1 to 7 of domain 7.
pub counts_in_order : domain_line 7 (record { hits = 1; misses = 2; evicted = 3; written = 4; flushed = 5; fills = 6; dropped = 7 })
    ≡ 100 ∷ 111 ∷ 109 ∷ 97 ∷ 105 ∷ 110 ∷ 32 ∷ 55 ∷ 32 ∷ 49 ∷ 32 ∷ 50 ∷ 32 ∷ 51 ∷ 32 ∷ 52 ∷ 32 ∷ 53 ∷ 32 ∷ 54 ∷ 32 ∷ 55 ∷ 10 ∷ []
unfolding domain_line line decimal_by
counts_in_order = refl
