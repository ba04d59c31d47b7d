-- `write` of `u16` meets its contract.
use mathlib.Core.Path.{sym, ◌∙◌}
use native.Mathlib.Omega.{arith}
use Rattle.endian.proofs.DigitLaws.{put_none}
use Rattle.endian.proofs.NumberLaws.{put_written}
use Rattle.endian.proofs.numbers.U16Number.write.Goals as goal

pub returns-then-bytes-ge2 : goal.returns-then-bytes-ge2
returns-then-bytes-ge2 c =
    put_written 2 c.args.self c.args.bytes.now c.copy_from_slice.new.self (omega (arith, c.if-bytes-ge2.true))
    (c.copy_from_slice.ensures.after ∙ c.to_le_bytes.ensures)

pub returns-else-bytes-ge2 : goal.returns-else-bytes-ge2
returns-else-bytes-ge2 c = sym (put_none 0 2 c.args.self c.args.bytes.now (omega (arith, c.if-bytes-ge2.false)))
