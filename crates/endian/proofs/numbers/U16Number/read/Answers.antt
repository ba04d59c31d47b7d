-- `read` of `u16` meets its contract.
use mathlib.Core.Path.{◌∙◌}
use Rattle.endian.proofs.NumberLaws.{field_of_two, field_of_padded}
use Rattle.endian.proofs.numbers.U16Number.read.Goals as goal

pub returns-then-bytes-lt2 : goal.returns-then-bytes-lt2
returns-then-bytes-lt2 c = field_of_two c.padded.result c.from_le_bytes.result c.from_le_bytes.ensures ∙ field_of_padded 2 _ c.args.bytes.now c.padded.ensures

pub returns : goal.returns
returns c = field_of_two c.args.bytes.now c.from_le_bytes-2.result c.from_le_bytes-2.ensures
