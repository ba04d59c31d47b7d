-- `write` of `u8` meets its contract.
use Rattle.std.proofs.Common.{◌≡◌, ◌%◌, ◌<◌, refl, sym, arith}
use Rattle.endian.specs.Bytes.{digits}
use Rattle.endian.proofs.DigitLaws.{put_none, put_whole}
use Rattle.endian.proofs.numbers.U8Number.write.Goals as goal

pub returns-then-bytes-ge1 : goal.returns-then-bytes-ge1
unfolding digits
returns-then-bytes-ge1 c =
    let byte : c.args.self < 256 = c.ranges.self.fits in
    let same : c.args.self % 256 ≡ c.args.self = omega arith in
    rw (put_whole 0 1 c.args.self c.args.bytes.now (omega (arith, c.if-bytes-ge1.true)), same) refl

pub returns-else-bytes-ge1 : goal.returns-else-bytes-ge1
returns-else-bytes-ge1 c = sym (put_none 0 1 c.args.self c.args.bytes.now (omega (arith, c.if-bytes-ge1.false)))
