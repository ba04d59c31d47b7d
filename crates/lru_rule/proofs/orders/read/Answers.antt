-- `lru_rule::orders::read` meets its contract.
use mathlib.Core.Path.{sym, ◌∙◌}
use borrow.Author.Tests.{not-true, not-false}
use Rattle.lru_rule.proofs.PlaceLaws.{formed_word, malformed_word}
use Rattle.lru_rule.proofs.orders.read.Goals as goal

pub returns-then-holds_each : goal.returns-then-holds_each
returns-then-holds_each c = formed_word _ _ (not-true _ (sym c.holds_each.ensures ∙ c.if-holds_each.true))

pub returns : goal.returns
returns c = c.fresh.ensures ∙ malformed_word _ _ (not-false _ (sym c.holds_each.ensures ∙ c.if-holds_each.false))
