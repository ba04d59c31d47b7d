-- `sweep::swept` meets its contract.
use Rattle.std.proofs.Common.{ℕ, length, ap, ◌∙◌}
use Rattle.waymap.specs.Bits.{bit}
use Rattle.sweep.specs.Clean.{wiped}
use Rattle.row.specs.Calls.{row_of, told}
use Rattle.sweep.specs.Sweep.{drops, swept_lines, sweep_by}
use Rattle.policy.specs.declared.Maps.{Maps}
use Rattle.policy.proofs.ReadLaws.{hit_below}
use Rattle.sweep.proofs.swept.Goals as goal

pub wipe-requires : goal.wipe-requires
wipe-requires c =
    let a = c.args in
    rw c.as_read-read.ensures (hit_below (length a.tags.now) (record { hit = a.sweep.gone; fill = 0 }))

pub returns : goal.returns
unfolding sweep_by
returns c =
    let gone = ap (λ (p : Maps). p.hit) c.as_read-read.ensures in
    let a = c.args in
    λ i. told (record {
      answer = (c.dropped-answer.ensures ∙ ap (λ (n : ℕ). drops n a.lines) gone) i;
      row = row_of ((c.wipe.ensures ∙ ap (λ (n : ℕ). wiped (bit n) a.tags.now) gone) i)
          ((c.swept-left.ensures ∙ ap (λ (n : ℕ). swept_lines n a.sweep.change a.lines) gone) i);
    })
