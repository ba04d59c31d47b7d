-- `read` of `u8` meets its contract.
use mathlib.Core.Path.{◌∙◌}
use Rattle.endian.proofs.NumberLaws.{field_of_one, field_of_padded}
use Rattle.endian.proofs.numbers.U8Number.read.Goals as goal

pub returns-then-bytes-lt1 : goal.returns-then-bytes-lt1
returns-then-bytes-lt1 c = field_of_one c.padded.result c.from_le_bytes.result c.from_le_bytes.ensures ∙ field_of_padded 1 _ c.args.bytes.now c.padded.ensures

pub returns : goal.returns
returns c = field_of_one c.args.bytes.now c.from_le_bytes-2.result c.from_le_bytes-2.ensures
