-- `tracefile::refusal` meets its contract.
use mathlib.Core.Path.{sym, ap, ◌∙◌}
use mathlib.Core.Bool.{Bool, cond, not}
use Rattle.tracefile.proofs.FileLaws.{bad_short, bad_size, bad_sets, good_file}
use Rattle.tracefile.proofs.refusal.Goals as goal

pub returns-then-file-lt8 : goal.returns-then-file-lt8
returns-then-file-lt8 c = bad_short c.args.file.now c.if-file-lt8.true

pub returns-then-file-n : goal.returns-then-file-n
returns-then-file-n c = bad_size c.args.file.now c.steps-n.ensures c.if-file-lt8.false c.then-file-n.either

pub returns-then-g-gt-MAX_SETS : goal.returns-then-g-gt-MAX_SETS
returns-then-g-gt-MAX_SETS c =
    bad_sets c.args.file.now c.steps-n.ensures c.if-file-lt8.false c.if-file-n.false
    c.if-n-gt-MAX_STEPS.false c.named-g.ensures c.if-g-gt-MAX_SETS.true

-- a file that 10 does not refuse goes by its geometry
pub returns-then-not-within : goal.returns-then-not-within
returns-then-not-within c =
    ap (λ (b : Bool). cond (not b) 1 0) (sym c.if-not-within.true)
    ∙ good_file c.args.file.now c.steps-n.ensures c.if-file-lt8.false c.if-file-n.false
    c.if-n-gt-MAX_STEPS.false c.named-g.ensures c.if-g-gt-MAX_SETS.false c.within.ensures

pub returns : goal.returns
returns c =
    ap (λ (b : Bool). cond (not b) 1 0) (sym c.if-not-within.false)
    ∙ good_file c.args.file.now c.steps-n.ensures c.if-file-lt8.false c.if-file-n.false
    c.if-n-gt-MAX_STEPS.false c.named-g.ensures c.if-g-gt-MAX_SETS.false c.within.ensures
