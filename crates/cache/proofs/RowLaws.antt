-- A set's row, lent and put back.
use mathlib.Core.Path.{◌≡◌, refl}
use mathlib.Core.List.{List}
use Prim.Native.Nat.{ℕ, ◌+◌, ◌-◌, ◌*◌}
use native.Mathlib.Omega.{arith}
use lib.ListN.{get_or, take, drop, set}
use borrow.Rule.Slice.PartMut.{put_mid}
use denote.Ref.{MutBor}
use Rattle.row.specs.Row.{Row, Effect}
use Rattle.row.specs.Calls.{row_of, effect_of, told}
use Rattle.row.specs.Inside.{lines_of}
use Rattle.row.specs.declared.Lines.{Lines}
use Rattle.row.specs.declared.Done.{Done}
use Rattle.row.proofs.ToldLaws.{told_injective}
use Rattle.command.specs.declared.Answer.{Answer}
use Rattle.steps.specs.Tables.{Tables, row_at, put_row}
use Rattle.steps.specs.Step.{tables_of}
use Rattle.steps.specs.Deed.{RowWork, on_row}
use Rattle.cache.specs.Inside.{RowCalled}

-- ---- the row of set s, lent from `start` up to `stop`, and what a call leaves of it, put back

pub row_back : (W s start stop : ℕ) (tags valid dirty words : List ℕ) → start ≡ s * W → stop ≡ start + W
    → {post : MutBor (List ℕ) → Lines → Done → MutBor (List ℕ) → Type 0} (lent left : MutBor (List ℕ)) (d : Done)
    → lent.now ≡ take (stop - start) (drop start tags)
    → post lent (record { valid = get_or valid s 0; dirty = get_or dirty s 0; word = get_or words s 0 }) d left
    → RowCalled post W s d.answer (tables_of tags valid dirty words)
    (tables_of (put_mid start (stop - start) tags left.now) (set valid s d.lines.valid) (set dirty s d.lines.dirty) (set words s d.lines.word))
unfolding row_at on_row put_row
row_back W s start stop tags valid dirty words p q lent left d shown met =
    let wide : stop - start ≡ W = omega arith in
    record {
      lent = lent;
      left = left;
      done = d;
      shows = rw (wide, p) at shown;
      met = met;
      put = rw (wide, p) refl;
    }

-- ---- the work of a call that does f to its row

pub row_done : {post : MutBor (List ℕ) → Lines → Done → MutBor (List ℕ) → Type 0} {W s : ℕ} {a : Answer} {before after : Tables}
    (f : Row → Effect) (c : RowCalled post W s a before after)
    → told (effect_of c.done c.left.now) ≡ told (f (row_of c.lent.now (lines_of (row_at W s before))))
    → RowWork a after (on_row W s f before)
unfolding on_row
row_done {post} {W} {s} {a} {before} f c same = rw (← told_injective (effect_of c.done c.left.now) (f (row_at W s before)) (rw (c.shows) at same)) c.put
