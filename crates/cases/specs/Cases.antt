-- The worked cases in one list. First cases B to I of document 01 and step 5 of its case A: what the rules give, and what document 01 prints, or for A and
-- I document 02's job 8. Then those of document 02's jobs 4, 1, 2 and 8, and our own cases on lent states: what the rules give, and what was worked out by
-- hand.
use Rattle.std.specs.Prelude.{Bool, cond, List, [], ◌∷◌, map, ℕ, ◌+◌, ◌*◌, get_or}
use Rattle.waymap.specs.Bits.{bit, word}
use Rattle.tree.specs.Tree as Tree
use Rattle.replacement.specs.Rule.{tree, nru}
use Rattle.geometry.specs.declared.Geometry.{Geometry}
use Rattle.command.specs.Command.{Command}
use Rattle.steps.specs.Run.{answers_of}
use Rattle.steps.specs.Fresh.{fresh}
use Rattle.cases.specs.Case.{Case, joined}
use Rattle.cases.specs.Orders.{orders}
use Rattle.cases.specs.Visits.{lookups}
use Rattle.cases.specs.Lent.{lent}
use Rattle.cases.specs.Choices.{choices}
use Rattle.cases.specs.Refusals.{refusals}
use Rattle.cases.specs.Sharing.{sharing}
use Rattle.cases.specs.Kinds.{kinds}
use Rattle.cases.specs.Locked.{locked_lines}
use Rattle.cases.specs.Nodes.{nodes}
use Rattle.cases.specs.Trees.{trees}
use Rattle.cases.specs.Alone.{alone}
use Rattle.cases.specs.RuleCalls.{rule_calls}
use Rattle.cases.specs.SetCalls.{set_calls}
use Rattle.cases.specs.DeedCases.{deed_cases}
use Rattle.cases.specs.ByteCases.{byte_cases}
use Rattle.cases.specs.Blocks.{blocks}
use Rattle.cases.specs.ListCases.{list_cases}
use Rattle.cases.specs.DemandCases.{demand_cases}

-- A bit as a number.
abbrev flag : Bool → ℕ
flag b = cond b 1 0

-- The nodes of eight ways that are free for a map, as a word.
abbrev free_nodes : ℕ → ℕ
free_nodes m = word 7 (Tree.free 8 (bit m))

-- A step; and a policy change of domain d to both maps m.
abbrev does : ℕ → ℕ → ℕ → Command
does d kind argument = record { domain = d; kind = kind; argument = argument }

abbrev takes : ℕ → ℕ → Command
takes d m = does d 16 (m + 65536 * m)

abbrev one_set : ℕ → Geometry
one_set W = record { sets = 1; ways = W; rule = 0 }

-- The answer to step i of a run from a fresh cache of one set under Tree-PLRU.
abbrev answered : ℕ → List Command → ℕ → List ℕ
answered W cs i = get_or (answers_of (one_set W) cs (fresh (one_set W))) i []

-- Case A's steps up to step 5.
abbrev steps_a : List Command
steps_a = takes 0 3 ∷ takes 1 12 ∷ does 0 2 0 ∷ does 0 1 64 ∷ does 1 1 0 ∷ does 0 1 128 ∷ []

-- The documents' own cases, of every replacement word u where document 01 names none. An answer is its word's number and its fields.
unfoldable pub printed_cases : ℕ → List Case
printed_cases u =
    -- A, step 5, by job 8 of document 02: `evict` 1 0 1
    record { given = answered 4 steps_a 5; printed = 2 ∷ 1 ∷ 0 ∷ 1 ∷ [] }
    -- B: "touching way 5 under map 255 sets node 0 to 0, node 2 to 1, node 5 to 0"
    ∷ record { given = map (λ (i : ℕ). flag (Tree.touch 8 (bit 255) 5 (bit u) i)) (0 ∷ 2 ∷ 5 ∷ []); printed = 0 ∷ 1 ∷ 0 ∷ [] }
    -- C: "map 12 has one free node, 4"
    ∷ record { given = free_nodes 12 ∷ []; printed = 16 ∷ [] }
    -- D: "its victim with a zero word is way 2"
    ∷ record { given = (tree 8).victim 12 0 ∷ []; printed = 2 ∷ [] }
    -- E: "with node 4 set, way 3"
    ∷ record { given = (tree 8).victim 12 16 ∷ []; printed = 3 ∷ [] }
    -- F: "maps 5 and 10 share free node 1: refused 9"
    ∷ record { given = free_nodes 5 ∷ free_nodes 10 ∷ answered 8 (takes 0 5 ∷ takes 1 10 ∷ []) 1; printed = 2 ∷ 2 ∷ 7 ∷ 9 ∷ [] }
    -- G: "maps 3 and 12 are accepted"
    ∷ record { given = answered 8 (takes 0 3 ∷ takes 1 12 ∷ []) 1; printed = 6 ∷ 0 ∷ 0 ∷ [] }
    -- H: "map 1 has no free node"
    ∷ record { given = free_nodes 1 ∷ []; printed = 0 ∷ [] }
    -- I: "NRU, map 6, word 0"; by job 8 "way 2, bits 1 and 0", those of ways 1 and 2 after its touch
    ∷ record { given = (nru 8).victim 6 0 ∷ (nru 8).touch 6 2 ((nru 8).before 6 0) ∷ []; printed = 2 ∷ 2 ∷ [] }
    -- job 4: map 6 has free node 1, and of a word with node 1 set a touch of way 3, outside the map, leaves it; one of way 2 turns it
    ∷ record { given = (tree 8).touch 6 3 2 ∷ (tree 8).touch 6 2 2 ∷ []; printed = 2 ∷ 0 ∷ [] }
    ∷ []

-- All of them: the documents' own, job 1's, job 2's and job 8's, and ours; as lists, and in one list.
unfoldable pub parts : ℕ → List (List Case)
parts u =
    printed_cases u
    ∷ orders
    ∷ lookups
    ∷ choices
    ∷ lent
    ∷ refusals
    ∷ sharing
    ∷ kinds
    ∷ locked_lines
    ∷ nodes
    ∷ trees
    ∷ alone
    ∷ rule_calls
    ∷ set_calls
    ∷ deed_cases
    ∷ byte_cases
    ∷ blocks
    ∷ list_cases
    ∷ demand_cases
    ∷ []

unfoldable pub cases : ℕ → List Case
cases u = joined (parts u)
