-- `block::records::put_counts` meets its contract.
use Rattle.std.proofs.Common.{◌∙◌, arith}
use Rattle.runs.proofs.RunLaws.{run_put, put_plain}
use Rattle.block.specs.Layout.{seven_of, counts_bytes}
use Rattle.block.proofs.records.put_counts.Goals as goal

pub returns : goal.returns
unfolding counts_bytes
returns c =
    let a = c.args in
    put_plain a.at 4 a.block.now (seven_of a.c) c.put.new.bytes c.put.ensures ∙ run_put a.at 4 a.block.now (seven_of a.c) (omega (arith, c.requires))
