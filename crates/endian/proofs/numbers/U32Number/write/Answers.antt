-- `write` of `u32` meets its contract.
use mathlib.Core.Path.{sym, ◌∙◌}
use native.Mathlib.Omega.{arith}
use Rattle.endian.proofs.DigitLaws.{put_none}
use Rattle.endian.proofs.NumberLaws.{put_written}
use Rattle.endian.proofs.numbers.U32Number.write.Goals as goal

pub returns-then-bytes-ge4 : goal.returns-then-bytes-ge4
returns-then-bytes-ge4 c =
    put_written 4 c.args.self c.args.bytes.now c.copy_from_slice.new.self (omega (arith, c.if-bytes-ge4.true))
    (c.copy_from_slice.ensures.after ∙ c.to_le_bytes.ensures)

pub returns-else-bytes-ge4 : goal.returns-else-bytes-ge4
returns-else-bytes-ge4 c = sym (put_none 0 4 c.args.self c.args.bytes.now (omega (arith, c.if-bytes-ge4.false)))
