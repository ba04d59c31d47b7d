-- `nru::own` meets its contract.
use Rattle.nru.proofs.NruWordLaws.{own_word}
use Rattle.nru.proofs.own.Goals as goal

pub returns : goal.returns
returns c = own_word c.args.map c.args.word c.ranges.word.fits
