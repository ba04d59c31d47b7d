-- `verdict::reasons::line_refusal` meets its contract.
use mathlib.Core.Path.{sym}
use borrow.Author.Tests.{eq-eqb, ne_eqb}
use Rattle.verdict.specs.Refusal.{use_refusal}
use Rattle.verdict.proofs.reasons.line_refusal.Goals as goal

pub returns-then-read-eq0 : goal.returns-then-read-eq0
unfolding use_refusal
returns-then-read-eq0 c = rw (← c.as_read-read.ensures, eq-eqb c.as_read-read.result.hit 0 c.if-read-eq0.true)

pub returns-then-is_full : goal.returns-then-is_full
unfolding use_refusal
returns-then-is_full c =
    let read = c.as_read-read in
    rw (← read.ensures, ne_eqb read.result.hit 0 c.if-read-eq0.false, sym c.if-is_full.ensures)

pub returns : goal.returns
unfolding use_refusal
returns c =
    let read = c.as_read-read in
    rw (← read.ensures, ne_eqb read.result.hit 0 c.if-read-eq0.false, sym c.if-is_full.ensures)
