-- `lru_rule::fresh` meets its contract.
use mathlib.Core.Path.{sym, ◌∙◌}
use Rattle.waymap.proofs.NumberLaws.{sized}
use Rattle.lru_rule.specs.Calls.{fresh_of}
use Rattle.lru_rule.proofs.fresh.Goals as goal

pub fresh-requires : goal.fresh-requires
fresh-requires c = sized c.args.ways (sym c.is_ways.ensures ∙ c.if-is_ways.true)

pub returns-then-is_ways : goal.returns-then-is_ways
unfolding fresh_of
returns-then-is_ways c = rw (sym c.is_ways.ensures ∙ c.if-is_ways.true) c.fresh.ensures

pub returns : goal.returns
unfolding fresh_of
returns c = rw (sym c.is_ways.ensures ∙ c.if-is_ways.false)
