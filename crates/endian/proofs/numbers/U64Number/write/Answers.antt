-- `write` of `u64` meets its contract.
use mathlib.Core.Path.{sym, ◌∙◌}
use native.Mathlib.Omega.{arith}
use Rattle.endian.proofs.DigitLaws.{put_none}
use Rattle.endian.proofs.NumberLaws.{put_written}
use Rattle.endian.proofs.numbers.U64Number.write.Goals as goal

pub returns-then-bytes-ge8 : goal.returns-then-bytes-ge8
returns-then-bytes-ge8 c =
    put_written 8 c.args.self c.args.bytes.now c.copy_from_slice.new.self (omega (arith, c.if-bytes-ge8.true))
    (c.copy_from_slice.ensures.after ∙ c.to_le_bytes.ensures)

pub returns-else-bytes-ge8 : goal.returns-else-bytes-ge8
returns-else-bytes-ge8 c = sym (put_none 0 8 c.args.self c.args.bytes.now (omega (arith, c.if-bytes-ge8.false)))
