-- `tree::reset` meets its contract.
use Rattle.tree.proofs.TreeWordLaws.{reset_word}
use Rattle.tree.proofs.reset.Goals as goal

pub returns : goal.returns
returns c = reset_word c.args.word c.args.nodes c.ranges.word.fits c.ranges.nodes.fits
