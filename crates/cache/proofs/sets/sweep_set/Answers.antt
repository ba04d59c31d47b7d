-- `cache::sets::sweep_set` meets its contract.
use Rattle.std.proofs.Common.{rules}
use Rattle.sweep.specs.Sweep.{sweep_by}
use Rattle.cache.proofs.RowLaws.{row_done}
use Rattle.cache.proofs.sets.sweep_set.Goals as goal

pub returns : goal.returns
returns c = row_done (sweep_by c.args.sweep) c.with_row.ensures (search (rules, c.with_row.ensures.met))
