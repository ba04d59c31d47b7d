-- A change of fill map, worked out from the maps once and then done to any number of words. Law `change_resets`: it is the rule's reset.
use Rattle.std.specs.Prelude.{cond, not, ◌&&◌, ℕ, zero, suc, eqb}
use Rattle.waymap.specs.Bits.{reaches}
use Rattle.tree.specs.Calls as Tree
use Rattle.nru.specs.Calls as Nru
use Rattle.lru_rule.specs.Calls as Lru
use Rattle.replacement.specs.Calls.{in_limits, checked}
use Rattle.replacement.specs.declared.Change.{Change}
use Rattle.replacement.specs.declared.Change.TheVariants.{Clear, Raise, Age, Stay}

-- By rule: nodes that become zero, ways whose bits become one, or ways that move to the old end, if any do.
abbrev pub change_under : ℕ → ℕ → ℕ → ℕ → Change
change_under zero W old new = Clear (Tree.change_of W old new)
change_under (suc zero) W old new = Raise (Nru.change_of old new)
change_under (suc (suc r)) W old new = cond (eqb old new) Stay (Age W (Lru.change_of old new))

-- Words stay outside the limits.
unfoldable pub change_of : ℕ → ℕ → ℕ → ℕ → Change
change_of W rule old new =
    checked (in_limits W rule) (not (reaches W old) && not (reaches W new)) (λ n. Stay) (change_under rule W old new)

-- What becomes of a word.
abbrev pub change_by : Change → ℕ → ℕ
change_by (Clear nodes) x = Tree.reset_of x nodes
change_by (Raise ways) x = Nru.reset_of x ways
change_by (Age W moves) x = Lru.reset_of W x moves
change_by Stay x = x
