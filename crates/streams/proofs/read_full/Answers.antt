-- `streams::read_full` meets its contract: what came stands behind what was there.
use Rattle.std.proofs.Common.{sym, subst}
use Rattle.std.proofs.KnownBytes.{Consumes-trans}
use Rattle.std.specs.Io.KnownBytes.{Consumes}
use Rattle.streams.proofs.Moved.{front_and_read, room_for_both}
use Rattle.streams.proofs.read_full.Goals as goal

pub loop-done-preserved : goal.loop-done-preserved
loop-done-preserved g c =
    let before = c.loop-done.invariant in
    let came = c.in-Ok.ensures in
    record {
      fits = room_for_both _ _ _ _ _ before.fits came.bound.0;
      bytes = subst (Consumes _ _) (sym (front_and_read _ _ _ _ _ before.fits came.bound.0)) (Consumes-trans _ _ _ _ _ before.bytes came.bytes.0);
    }
