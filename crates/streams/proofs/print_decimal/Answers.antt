-- `streams::print_decimal` meets its contract: the digits are the number's.
use Rattle.std.proofs.Common.{List, ℕ, OnOk, ◌∙◌, subst}
use Rattle.std.specs.Io.KnownBytes.{Appends}
use Rattle.streams.proofs.Decimal.{digits_of_count}
use Rattle.streams.proofs.print_decimal.Goals as goal

pub returns : goal.returns
returns g c =
    let digits = c.decimal-count.ensures in
    let grows : List ℕ → Type 0 =
    λ bytes. OnOk c.write_all.result (Appends (g.W.Write.contents c.args.output.now) (g.W.Write.contents c.write_all.new.output) bytes) in
    subst grows (digits.digits ∙ digits_of_count _ _ c.ranges.n.fits digits.len) c.write_all.ensures.all
