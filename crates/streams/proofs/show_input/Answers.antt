-- `streams::show_input` meets its contract: what was read is handed on.
use Rattle.std.proofs.Common.{refl}
use Rattle.streams.proofs.Moved.{kept_front}
use Rattle.streams.proofs.show_input.Goals as goal

pub returns-in-Ok-show-clause-shown : goal.returns-in-Ok-show-clause-shown
returns-in-Ok-show-clause-shown g c =
    let came = c.in-Ok.ensures in
    (_, _, _, c.in-Ok-show.ensures, refl, refl, kept_front _ _ _ 40969 came.in_bounds.1 came.front came.whole)

pub returns-in-Err-clause-stopped : goal.returns-in-Err-clause-stopped
returns-in-Err-clause-stopped g c told =
    let came = c.in-Ok.ensures in
    (_, (_, _, _, c.in-Err.ensures, refl, refl, kept_front _ _ _ 40969 came.in_bounds.1 came.front came.whole))
