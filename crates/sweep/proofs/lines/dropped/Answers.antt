-- `sweep::lines::dropped` meets its contract.
use Rattle.std.proofs.Common.{Bool, ◌&&◌, ap, ◌∙◌, ap₂}
use Rattle.waymap.specs.Bits.{bit}
use Rattle.waymap.proofs.BitLaws.{bit_and_lem}
use Rattle.waymap.proofs.WayLaws.{count_ext}
use Rattle.sweep.specs.Sweep.{drops}
use Rattle.command.specs.declared.Answer.TheVariants.{Policy}
use Rattle.sweep.proofs.lines.dropped.Goals as goal

pub returns : goal.returns
unfolding drops
returns c =
    let a = c.args in
    ap₂ Policy
    (c.count_ways.ensures ∙ count_ext 16 (λ i h. bit_and_lem a.gone a.lines.valid i))
    (c.count_ways-2.ensures
    ∙ count_ext 16 (λ i h. bit_and_lem _ a.lines.dirty i ∙ ap (λ (t : Bool). t && bit a.lines.dirty i) (bit_and_lem a.gone a.lines.valid i)))
