-- `nru::reset` meets its contract.
use Rattle.nru.proofs.NruWordLaws.{reset_word}
use Rattle.nru.proofs.reset.Goals as goal

pub returns : goal.returns
returns c = reset_word c.args.word c.args.ways c.ranges.word.fits c.ranges.ways.fits
