-- The worked cases, as one theorem: the rules give what document 01 prints, and what was worked out by hand from it and from document 02. Each list is
-- computed by itself; the theorem joins them.
use mathlib.Core.Path.{◌≡◌, refl, sym, ap, ◌∙◌}
use mathlib.Core.List.{List, [], ◌∷◌, ◌++◌, map, map-append}
use Prim.Native.Nat.{ℕ}
use Rattle.cases.proofs.Computing.{calls_computing}
use Rattle.cases.specs.Case.{Case, joined}
use Rattle.cases.specs.Orders.{orders}
use Rattle.cases.specs.Visits.{lookups}
use Rattle.cases.specs.Choices.{choices}
use Rattle.cases.specs.Lent.{lent}
use Rattle.cases.specs.Refusals.{refusals}
use Rattle.cases.specs.Sharing.{sharing}
use Rattle.cases.specs.Kinds.{kinds}
use Rattle.cases.specs.Locked.{locked_lines}
use Rattle.cases.specs.Nodes.{nodes}
use Rattle.cases.specs.Trees.{trees}
use Rattle.cases.specs.Alone.{alone}
use Rattle.cases.specs.RuleCalls.{rule_calls}
use Rattle.cases.specs.SetCalls.{set_calls}
use Rattle.cases.specs.DeedCases.{deed_cases}
use Rattle.cases.specs.ByteCases.{byte_cases}
use Rattle.cases.specs.Blocks.{blocks}
use Rattle.cases.specs.ListCases.{list_cases}
use Rattle.cases.specs.DemandCases.{demand_cases}
use Rattle.cases.specs.Cases.{printed_cases, parts, cases}

-- In every case of a list the rules give what they have to.
abbrev givens : List Case → List (List ℕ)
givens cs = map (λ (c : Case). c.given) cs

abbrev printeds : List Case → List (List ℕ)
printeds cs = map (λ (c : Case). c.printed) cs

abbrev Hold : List Case → Type 0
Hold cs = givens cs ≡ printeds cs

-- ---- list by list

printed_hold : (u : ℕ) → Hold (printed_cases u)
unfolding calls_computing printed_cases
printed_hold u = refl

orders_hold : Hold orders
unfolding calls_computing orders
orders_hold = refl

lookups_hold : Hold lookups
unfolding calls_computing lookups
lookups_hold = refl

choices_hold : Hold choices
unfolding calls_computing choices
choices_hold = refl

lent_hold : Hold lent
unfolding calls_computing lent
lent_hold = refl

refusals_hold : Hold refusals
unfolding calls_computing refusals
refusals_hold = refl

sharing_hold : Hold sharing
unfolding calls_computing sharing
sharing_hold = refl

kinds_hold : Hold kinds
unfolding calls_computing kinds
kinds_hold = refl

locked_lines_hold : Hold locked_lines
unfolding calls_computing locked_lines
locked_lines_hold = refl

nodes_hold : Hold nodes
unfolding calls_computing nodes
nodes_hold = refl

trees_hold : Hold trees
unfolding calls_computing trees
trees_hold = refl

alone_hold : Hold alone
unfolding calls_computing alone
alone_hold = refl

rule_calls_hold : Hold rule_calls
unfolding calls_computing rule_calls
rule_calls_hold = refl

set_calls_hold : Hold set_calls
unfolding calls_computing set_calls
set_calls_hold = refl

deeds_hold : Hold deed_cases
unfolding calls_computing deed_cases
deeds_hold = refl

bytes_hold : Hold byte_cases
unfolding calls_computing byte_cases
bytes_hold = refl

blocks_hold : Hold blocks
unfolding calls_computing blocks
blocks_hold = refl

lists_hold : Hold list_cases
unfolding calls_computing list_cases
lists_hold = refl

demand_hold : Hold demand_cases
unfolding calls_computing demand_cases
demand_hold = refl

-- ---- joined

-- A list of which it is shown.
record Shown : Type 0 where
  these : List Case
  hold : Hold these

abbrev shown : ℕ → List Shown
shown u =
    record { these = printed_cases u; hold = printed_hold u }
    ∷ record { these = orders; hold = orders_hold }
    ∷ record { these = lookups; hold = lookups_hold }
    ∷ record { these = choices; hold = choices_hold }
    ∷ record { these = lent; hold = lent_hold }
    ∷ record { these = refusals; hold = refusals_hold }
    ∷ record { these = sharing; hold = sharing_hold }
    ∷ record { these = kinds; hold = kinds_hold }
    ∷ record { these = locked_lines; hold = locked_lines_hold }
    ∷ record { these = nodes; hold = nodes_hold }
    ∷ record { these = trees; hold = trees_hold }
    ∷ record { these = alone; hold = alone_hold }
    ∷ record { these = rule_calls; hold = rule_calls_hold }
    ∷ record { these = set_calls; hold = set_calls_hold }
    ∷ record { these = deed_cases; hold = deeds_hold }
    ∷ record { these = byte_cases; hold = bytes_hold }
    ∷ record { these = blocks; hold = blocks_hold }
    ∷ record { these = list_cases; hold = lists_hold }
    ∷ record { these = demand_cases; hold = demand_hold }
    ∷ []

all_hold : (xs : List Shown) → Hold (joined (map (λ (x : Shown). x.these) xs))
all_hold [] = refl
all_hold (x ∷ xs) =
    let rest = joined (map (λ (y : Shown). y.these) xs) in
    map-append (λ (c : Case). c.given) x.these rest
    ∙ ap (λ (ns : List (List ℕ)). ns ++ givens rest) x.hold
    ∙ ap (λ (ns : List (List ℕ)). printeds x.these ++ ns) (all_hold xs)
    ∙ sym (map-append (λ (c : Case). c.printed) x.these rest)

pub worked : (u : ℕ) → map (λ (c : Case). c.given) (cases u) ≡ map (λ (c : Case). c.printed) (cases u)
unfolding parts cases
worked u = all_hold (shown u)
