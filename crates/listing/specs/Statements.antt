-- What is claimed of listings of before, as a closed statement. The theorem has its name in small letters, stands in proofs/, and is of exactly that type.
use Rattle.std.specs.Prelude.{◌≡◌, true, List, ℕ}
use Rattle.selectors.specs.Selectors.{coreless}
use Rattle.tracefile.specs.File.{steps_of}
use Rattle.listing.specs.Listing.{listing}
use Rattle.listing.specs.Before.{listing_before}

-- The listing of a file of which no step names a core is the one that it was.
abbrev pub ListingBefore : Type 0
ListingBefore = (file : List ℕ) → coreless (steps_of file) ≡ true → listing file ≡ listing_before file
