-- `waymap::encode` meets its contract.
use mathlib.Core.Path.{◌∙◌}
use native.Mathlib.Omega.{arith}
use lib.Count.{leading_le}
use Rattle.waymap.proofs.EncoderLaws.{leading_lt, leading_encode, encode_empty}
use Rattle.waymap.proofs.encode.Goals as goal

pub returns-then-map-eq0 : goal.returns-then-map-eq0
returns-then-map-eq0 c = c.lowest_way.ensures ∙ encode_empty _ c.if-map-eq0.true

pub overflow_cast-result : goal.overflow_cast-result
overflow_cast-result c = omega (arith, leading_le 16 c.args.map)

pub overflow_sub-result : goal.overflow_sub-result
overflow_sub-result c = omega (arith, leading_lt 16 c.if-map-eq0.false c.ranges.map.fits)

pub returns : goal.returns
returns c = leading_encode 16 _ c.if-map-eq0.false c.ranges.map.fits
