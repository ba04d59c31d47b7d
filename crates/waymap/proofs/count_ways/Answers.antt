-- `waymap::count_ways` meets its contract.
use native.Mathlib.Omega.{arith}
use lib.Count.{ones-le}
use Rattle.waymap.proofs.WayLaws.{ones_count}
use Rattle.waymap.proofs.count_ways.Goals as goal

pub overflow_cast-result : goal.overflow_cast-result
overflow_cast-result c = omega (arith, ones-le 16 c.args.map c.ranges.map.fits)

pub returns : goal.returns
returns c = ones_count 16 c.args.map c.ranges.map.fits
