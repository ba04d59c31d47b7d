-- `block::sets::work_row` meets its contract.
use Rattle.std.proofs.Common.{◌∙◌, arith}
use Rattle.runs.proofs.RunLaws.{run_read, run_put, read_plain, put_plain}
use Rattle.block.proofs.WorkLaws.{row_worked}
use Rattle.block.proofs.sets.work_row.Goals as goal

pub returns : goal.returns
returns g c = λ f does.
    let a = c.args in
    let done = c.work-done in
    let long = done.auto.arg2 ∙ c.read.auto.numbers in
    row_worked a.at f a.block.now
    {row = c.read.new.numbers} {new = done.new.arg2} {one = c.put.new.bytes}
    (read_plain a.at.row 8 a.block.now a.row.now c.read.new.numbers c.read.ensures ∙ run_read a.at.row 8 a.block.now a.row.now (omega (arith, c.requires.room)))
    c.lines_at-lines.ensures (does.does _ _ _ _ done.ensures)
    (put_plain a.at.row 8 a.block.now done.new.arg2 c.put.new.bytes c.put.ensures ∙ run_put a.at.row 8 a.block.now done.new.arg2 (omega (arith, c.requires.room, long))) c.put_lines.ensures
    (record {
      long = long;
      tags = λ i. (c.slice_known-4-1.given i).fits;
      valid = omega (arith, done.type_inv);
      dirty = omega (arith, done.type_inv);
      word = omega (arith, done.type_inv);
    })
