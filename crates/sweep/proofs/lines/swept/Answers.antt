-- `sweep::lines::swept` meets its contract.
use Rattle.sweep.specs.Sweep.{swept_lines}
use Rattle.sweep.proofs.SweepLaws.{without_is}
use Rattle.sweep.proofs.lines.swept.Goals as goal

pub returns : goal.returns
unfolding swept_lines
returns c =
    let a = c.args in
    let given = c.struct_known-2-1.given in
    λ i. record {
      valid = without_is a.gone a.lines.valid c.ranges.gone.fits given.0.fits i;
      dirty = without_is a.gone a.lines.dirty c.ranges.gone.fits given.1.0.fits i;
      word = c.changed.ensures i;
    }
