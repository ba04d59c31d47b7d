-- `block::records::counts_at` meets its contract.
use Rattle.std.proofs.Common.{ℕ, List, replicate, ap, ◌∙◌, append-nil, arith}
use Rattle.runs.proofs.RunLaws.{run_read, read_plain}
use Rattle.block.specs.Layout.{counts_from, counts_in}
use Rattle.block.proofs.records.counts_at.Goals as goal

pub returns : goal.returns
unfolding counts_in counts_from
returns c =
    let a = c.args in
    let zeros : List ℕ = replicate 7 0 in
    ap counts_from
    (read_plain a.at 4 a.block.now zeros c.read.new.numbers c.read.ensures ∙ run_read a.at 4 a.block.now zeros (omega (arith, c.requires)))
