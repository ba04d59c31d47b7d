-- `nru::victim` meets its contract.
use Rattle.nru.proofs.NruWordLaws.{some_chosen, none_chosen}
use Rattle.nru.proofs.victim.Goals as goal

pub returns-then-ones-eq0 : goal.returns-then-ones-eq0
returns-then-ones-eq0 c =
    none_chosen c.args.map c.args.word c.ranges.map.fits c.ranges.word.fits c.if-ones-eq0.true c.encode.ensures

pub returns : goal.returns
returns c =
    some_chosen c.args.map c.args.word c.ranges.map.fits c.ranges.word.fits c.if-ones-eq0.false c.encode-2.ensures
