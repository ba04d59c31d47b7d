-- No listing of before has changed: a file of which no step names a core has the listing by the run without core records.
use mathlib.Core.Path.{◌≡◌}
use mathlib.Core.Bool.{true}
use mathlib.Core.List.{List}
use Prim.Native.Nat.{ℕ}
use lib.Dec.{lit≤}
use Rattle.geometry.specs.Named.{geometry_of}
use Rattle.geometry.specs.declared.Geometry.{Geometry}
use Rattle.command.specs.Command.{Command}
use Rattle.selectors.specs.Selectors.{coreless}
use Rattle.cores.specs.Run.{fresh_lent}
use Rattle.cores.proofs.OtherLaws.{others_answers, others_finally}
use Rattle.tracefile.specs.File.{step_count, steps_of}
use Rattle.listing.specs.Listing.{lister_cores, run_lines, listing}
use Rattle.listing.specs.Before.{lines_before, listing_before}
use Rattle.listing.specs.Statements.{ListingBefore}

lines_before_lem : (g : Geometry) (cs : List Command) (n : ℕ) → coreless cs ≡ true → run_lines g cs n ≡ lines_before g cs n
unfolding run_lines lines_before fresh_lent
lines_before_lem g cs n none =
    let lent = fresh_lent g lister_cores in
    rw (others_answers g cs lent none (lit≤ tt), others_finally g cs lent none (lit≤ tt))

pub listing_before_lem : ListingBefore
unfolding listing listing_before
listing_before_lem file none = rw (lines_before_lem (geometry_of file) (steps_of file) (step_count file) none)
