-- `tree::nodes::evens` meets its contract.
use Rattle.tree.proofs.EvenLaws.{evens_word}
use Rattle.tree.proofs.nodes.evens.Goals as goal

pub returns : goal.returns
returns c = evens_word c.args.x
