-- `cores::meaning_of` meets its contract.
use borrow.Author.Tests.{lt-ltb, le-ltb}
use Rattle.selectors.specs.Selectors.{max_cores}
use Rattle.cores.proofs.meaning_of.Goals as goal

pub returns-then-count-gt-MAX_CORES : goal.returns-then-count-gt-MAX_CORES
returns-then-count-gt-MAX_CORES c = rw (lt-ltb max_cores c.args.count c.if-count-gt-MAX_CORES.true)

pub returns : goal.returns
returns c = rw (le-ltb max_cores c.args.count c.if-count-gt-MAX_CORES.false) c.meant.ensures
