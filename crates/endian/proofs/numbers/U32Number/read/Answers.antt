-- `read` of `u32` meets its contract.
use mathlib.Core.Path.{◌∙◌}
use Rattle.endian.proofs.NumberLaws.{field_of_four, field_of_padded}
use Rattle.endian.proofs.numbers.U32Number.read.Goals as goal

pub returns-then-bytes-lt4 : goal.returns-then-bytes-lt4
returns-then-bytes-lt4 c = field_of_four c.padded.result c.from_le_bytes.result c.from_le_bytes.ensures ∙ field_of_padded 4 _ c.args.bytes.now c.padded.ensures

pub returns : goal.returns
returns c = field_of_four c.args.bytes.now c.from_le_bytes-2.result c.from_le_bytes-2.ensures
