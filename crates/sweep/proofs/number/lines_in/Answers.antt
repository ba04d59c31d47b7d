-- `sweep::number::lines_in` meets its contract.
use Rattle.std.proofs.Common.{◌∙◌}
use Rattle.waymap.proofs.BitLaws.{bit_and_lem}
use Rattle.waymap.proofs.WayLaws.{count_ext}
use Rattle.sweep.proofs.number.lines_in.Goals as goal

pub returns : goal.returns
returns c =
    let a = c.args in
    c.count_ways.ensures ∙ count_ext 16 (λ i h. bit_and_lem a.map a.valid i)
