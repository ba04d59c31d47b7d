-- `purge::take_all` meets its contract. The invariant: the steps taken so far, the records, and what the steps to come will add.
use Rattle.std.proofs.lemmas.Slice.Zip.{zip_turn, zip_end}
use Rattle.std.proofs.Common.{◌∙◌}
use Rattle.command.specs.Command.{command_of}
use Rattle.selectors.proofs.MeantLaws.{record_told}
use Rattle.purge.proofs.TakeLaws.{turned_by, ended_by}
use Rattle.purge.proofs.take_all.Goals as goal

pub loop-code-preserved : goal.loop-code-preserved
unfolding command_of
loop-code-preserved c =
    let t = zip_turn c.args.codes.now c.args.arguments.now c.loop-code.yielded
    _ _ c.next.new.self _ (cc) (cc) c.loop-code.yielded_by _ c.in-Some.is c.next.ensures.steps in
    turned_by c.loop-code.yielded _ c.loop-code.invariant t.0 (t.2 0) (t.3 0) c.take_one-count.result c.place_of-place.ensures.value
    c.meaning_of-meaning.ensures (c.record_after.ensures ∙ record_told _ _) c.take_one-count.ensures

pub returns : goal.returns
returns c =
    ended_by c.loop-code.invariant c.requires.arguments_len
    (zip_end c.args.codes.now c.args.arguments.now c.loop-code.yielded _ _ c.next.new.self _ (cc) (cc) c.loop-code.yielded_by c.in-None.is c.next.ensures.steps)
