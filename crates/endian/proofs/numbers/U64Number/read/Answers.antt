-- `read` of `u64` meets its contract.
use mathlib.Core.Path.{◌∙◌}
use Rattle.endian.proofs.NumberLaws.{field_of_eight, field_of_padded}
use Rattle.endian.proofs.numbers.U64Number.read.Goals as goal

pub returns-then-bytes-lt8 : goal.returns-then-bytes-lt8
returns-then-bytes-lt8 c =
    field_of_eight c.padded.result c.from_le_bytes.result c.from_le_bytes.ensures ∙ field_of_padded 8 _ c.args.bytes.now c.padded.ensures

pub returns : goal.returns
returns c = field_of_eight c.args.bytes.now c.from_le_bytes-2.result c.from_le_bytes-2.ensures
