-- `streams::write_all` meets its contract: what was taken stands behind what was there.
use Rattle.std.proofs.Common.{subst}
use Rattle.std.proofs.KnownBytes.{Appends-trans}
use Rattle.std.specs.Io.KnownBytes.{Appends}
use Rattle.streams.proofs.Moved.{front_and_written, within_both}
use Rattle.streams.proofs.write_all.Goals as goal

pub loop-done-preserved : goal.loop-done-preserved
loop-done-preserved g c =
    let before = c.loop-done.invariant in
    let taken = c.in-Ok.ensures in
    record {
      fits = within_both _ _ _ before.fits taken.bound;
      bytes = subst (Appends _ _) (front_and_written _ _ _) (Appends-trans _ _ _ _ _ before.bytes taken.bytes);
    }
