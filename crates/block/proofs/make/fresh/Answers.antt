-- `block::make::fresh` meets its contract.
use Rattle.std.proofs.Common.{◌≡◌, ℕ, ◌+◌, ◌*◌, List, length, replicate, ap, sym, ◌∙◌, arith}
use lib.Seq.{sets}
use Rattle.replacement.proofs.ReplyLaws.{ok_same}
use Rattle.replacement.proofs.CallLaws.{fresh_is}
use Rattle.runs.specs.Runs.{bytes_of}
use Rattle.block.specs.Layout.{sizes}
use Rattle.block.specs.Inside.{named_by}
use Rattle.block.proofs.PartLaws.{start}
use Rattle.block.proofs.FreshLaws.{filled_fresh}
use Rattle.block.proofs.make.fresh.Goals as goal

pub unwrap-word-requires : goal.unwrap-word-requires
unwrap-word-requires c = rw (fresh_is _ _ c.requires.limited.limits c.fresh.ensures)

pub put_words-requires : goal.put_words-requires
unfolding sizes
put_words-requires c =
    omega (arith, c.name.auto.block, c.fill.auto.self, c.requires.long)

pub returns : goal.returns
unfolding sizes
returns c =
    let put = c.put_words in
    let a = c.args in
    let g = a.g in
    let word = ok_same (sym c.unwrap-word.ensures ∙ fresh_is _ _ c.requires.limited.limits c.fresh.ensures) in
    let place : 520 + 4 * g.sets ≡ start g 6 + 0 = omega arith in
    let words = bytes_of 8 (replicate g.sets c.unwrap-word.result) in
    let first = c.name.ensures ∙ ap (λ (b : List ℕ). sets b 0 (named_by g)) (c.fill.ensures.after (λ y e. e)) in
    put.ensures
    ∙ ap (λ (b : List ℕ). sets b (520 + 4 * g.sets) words) first
    ∙ ap (λ (at : ℕ). sets (sets (replicate (length a.block.now) 0) 0 (named_by g)) at words) place
    ∙ filled_fresh g a.block.now c.requires c.unwrap-word.result word
