-- `block::sets::lines_among` meets its contract. The invariant: what was added and what is left make the whole.
use Rattle.std.proofs.Common.{ℕ, ◌-◌, ◌%◌, ◌^◌, ◌&&◌, List, drop, sym, refl, ap, ◌∙◌, arith}
use Rattle.waymap.specs.Bits.{bit, count}
use Rattle.runs.specs.Runs.{numbers}
use Rattle.runs.proofs.TableLaws.{numbers_long}
use Rattle.sweep.specs.Number.{lines_among}
use Rattle.sweep.proofs.NumberLaws.{begin, turned, end}
use Rattle.block.proofs.SetLaws.{valid_all, valid_at}
use Rattle.block.proofs.sets.lines_among.Goals as goal

pub loop-set-init : goal.loop-set-init
loop-set-init c = begin _ _

pub overflow_mul-set : goal.overflow_mul-set
overflow_mul-set c = omega (arith, c.requires.limited.most_sets)

pub overflow_add-set : goal.overflow_add-set
overflow_add-set c = omega (arith, c.requires.limited.most_sets)

pub loop-set-preserved : goal.loop-set-preserved
loop-set-preserved c =
    let a = c.args in
    let set = c.loop-set.set in
    let valid = numbers 2 a.g.sets (drop 520 a.block.now) in
    let read = c.at-valid.ensures ∙ valid_at a.g.sets set a.block.now c.loop-set-test.true in
    turned c.loop-set.invariant (rw (numbers_long 2 a.g.sets (drop 520 a.block.now)) c.loop-set-test.true)
    (c.lines_in-lines.ensures ∙ ap (λ (v : ℕ). count 16 (λ (w : ℕ). bit a.map w && bit v w)) read) refl

pub returns : goal.returns
returns c =
    let a = c.args in
    end c.loop-set.invariant (rw (numbers_long 2 a.g.sets (drop 520 a.block.now)) c.loop-set-test.false)
    ∙ ap (λ (xs : List ℕ). lines_among (bit a.map) xs % 2 ^ 64) (sym (valid_all a.g a.block.now))
