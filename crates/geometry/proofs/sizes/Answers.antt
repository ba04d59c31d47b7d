-- `geometry::sizes` meets its contract.
use mathlib.Core.Path.{sym}
use Rattle.geometry.specs.Geometry.{sizes_of}
use Rattle.geometry.proofs.GeometryLaws.{limited}
use Rattle.geometry.proofs.sizes.Goals as goal

pub returns-then-not-within : goal.returns-then-not-within
unfolding sizes_of
returns-then-not-within c = rw (sym c.if-not-within.ensures)

pub sized-requires : goal.sized-requires
sized-requires c = limited c.args.g (sym c.if-not-within.ensures)

pub returns-then-not-sized : goal.returns-then-not-sized
unfolding sizes_of
returns-then-not-sized c = rw (sym c.if-not-within.ensures, sym c.if-not-sized.ensures)

pub returns : goal.returns
unfolding sizes_of
returns c = rw (sym c.if-not-within.ensures, sym c.if-not-sized.ensures)
