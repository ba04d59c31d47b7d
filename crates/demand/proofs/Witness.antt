-- What is seen, computed in full for two runs: every part of the statement is in use, and two lists can be told apart.
use mathlib.Core.Path.{◌≡◌, refl, sym, ap, ◌∙◌}
use mathlib.Core.Bool.{true, false}
use mathlib.Core.List.{List, [], ◌∷◌}
use Prim.Native.Nat.{ℕ}
use native.Mathlib.Omega.{arith}
use lib.ListN.{length, replicate}
use Rattle.command.specs.Command.{Command}
use Rattle.geometry.specs.declared.Geometry.{Geometry}
use Rattle.steps.proofs.Computing.{computing, does, both}
use Rattle.demand.specs.Free.{digit, some_in, free_from, is_free}
use Rattle.demand.specs.Order.{fresh_word, way_at, how_many, first_of, is_order, place_of}
use Rattle.demand.specs.Demand.{
  fresh,
  events,
  end,
  struck_out,
  own_answers,
  accepted,
  refused,
  verdict_of,
  verdicts,
  domain_at,
  each,
  lines,
  is_own,
  bits,
  is_pair,
  pairs,
  Seen,
  seen,
  seen_in,
  Indistinguishable,
}

-- ---- two sets of four ways under Tree-PLRU

abbrev tree : Geometry
tree = record { sets = 2; ways = 4; rule = 0 }

-- Domain 0 gets ways 0 and 2. Domain 1 asks for way 2, for ways 1 and 3, whose root is domain 0's too, and for way 3. Then both work: domain 0 stores
-- to line 0, loads lines 2, 1, 4 and 2 again and flushes line 4; domain 1 loads and flushes line 0.
abbrev steps : List Command
steps =
    does 0 16 (both 5) ∷ does 1 16 (both 4) ∷ does 1 16 (both 10) ∷ does 1 16 (both 8) ∷ does 0 2 0 ∷ does 1 1 0 ∷ does 0 1 128 ∷ does 0 1 64
    ∷ does 0 1 256 ∷ does 1 3 0 ∷ does 0 1 128 ∷ does 0 3 256 ∷ []

-- Domain 0 sees its answers, the three verdicts, its record, its ways 0 and 2 of each set, and node 0 of each word.
abbrev seen_by_zero : Seen
seen_by_zero = record {
  answers = (6 ∷ 0 ∷ 0 ∷ []) ∷ (1 ∷ 2 ∷ []) ∷ (1 ∷ 0 ∷ []) ∷ (1 ∷ 2 ∷ []) ∷ (2 ∷ 2 ∷ 0 ∷ 1 ∷ []) ∷ (0 ∷ 0 ∷ []) ∷ (4 ∷ 2 ∷ 0 ∷ []) ∷ [];
  verdicts = refused 8 ∷ refused 9 ∷ accepted ∷ [];
  domain = record { hit = 5; fill = 5; counts = record { hits = 1; misses = 4; evicted = 1; written = 1; flushed = 1; fills = 4; dropped = 0 } };
  lines = ((1 ∷ 0 ∷ 1 ∷ []) ∷ [] ∷ (0 ∷ 0 ∷ 2 ∷ []) ∷ [] ∷ []) ∷ ((0 ∷ 0 ∷ 0 ∷ []) ∷ [] ∷ (1 ∷ 0 ∷ 0 ∷ []) ∷ [] ∷ []) ∷ [];
  bits = ((1 ∷ []) ∷ [] ∷ [] ∷ [] ∷ []) ∷ ((0 ∷ []) ∷ [] ∷ [] ∷ [] ∷ []) ∷ [];
  pairs = replicate 2 (replicate 4 (replicate 4 []));
}

-- ---- one set of two ways under NRU: domain 0 gets way 0 and stores to line 0

abbrev nru : Geometry
nru = record { sets = 1; ways = 2; rule = 1 }

abbrev brief : List Command
brief = does 0 16 (both 1) ∷ does 0 2 0 ∷ []

abbrev seen_briefly : Seen
seen_briefly = record {
  answers = (6 ∷ 0 ∷ 0 ∷ []) ∷ (1 ∷ 0 ∷ []) ∷ [];
  verdicts = [];
  domain = record { hit = 1; fill = 1; counts = record { hits = 0; misses = 1; evicted = 0; written = 0; flushed = 0; fills = 1; dropped = 0 } };
  lines = ((1 ∷ 1 ∷ 0 ∷ []) ∷ [] ∷ []) ∷ [];
  bits = ((0 ∷ []) ∷ [] ∷ []) ∷ [];
  pairs = replicate 1 (replicate 2 (replicate 2 []));
}

-- ---- one set of four ways under true LRU: domain 0 gets ways 0 and 2, domain 1 gets ways 1 and 3, and both use them in turn

abbrev lru : Geometry
lru = record { sets = 1; ways = 4; rule = 2 }

abbrev turns : List Command
turns =
    does 0 16 (both 5) ∷ does 1 16 (both 10) ∷ does 0 1 0 ∷ does 1 1 0 ∷ does 0 1 64 ∷ does 1 1 64 ∷ does 0 1 0 ∷ does 1 1 0 ∷ []

-- Domain 0 sees that its way 2 stands before its way 0, and no other pair.
abbrev seen_in_turn : Seen
seen_in_turn = record {
  answers = (6 ∷ 0 ∷ 0 ∷ []) ∷ (1 ∷ 2 ∷ []) ∷ (1 ∷ 0 ∷ []) ∷ (0 ∷ 2 ∷ []) ∷ [];
  verdicts = accepted ∷ [];
  domain = record { hit = 5; fill = 5; counts = record { hits = 1; misses = 2; evicted = 0; written = 0; flushed = 0; fills = 2; dropped = 0 } };
  lines = ((1 ∷ 0 ∷ 1 ∷ []) ∷ [] ∷ (1 ∷ 0 ∷ 0 ∷ []) ∷ [] ∷ []) ∷ [];
  bits = replicate 1 (replicate 4 []);
  pairs =
      (
      ((false ∷ []) ∷ [] ∷ (false ∷ []) ∷ [] ∷ []) ∷ replicate 4 [] ∷ ((true ∷ []) ∷ [] ∷ (false ∷ []) ∷ [] ∷ []) ∷ replicate 4 [] ∷ []
      ) ∷ [];
}

-- The words at the end, of the whole run and of the struck-out one: domain 1's touches change the order, and not that of ways 0 and 2.
abbrev words_after : List Command → List ℕ
words_after cs = (end lru cs (fresh lru)).tables.words

-- ---- computed

pub computed : (seen_in tree 0 steps ≡ seen_by_zero) × (seen_in nru 0 brief ≡ seen_briefly) × (length (struck_out 0 steps) ≡ 10)
unfolding seen_in seen bits is_own pairs is_pair lines each domain_at verdicts verdict_of own_answers struck_out end events fresh is_free free_from some_in digit
    is_order place_of way_at how_many first_of fresh_word computing
computed = (refl, refl, refl)

pub computed_order : (seen_in lru 0 turns ≡ seen_in_turn) × (words_after turns ≡ 0x0123 ∷ []) × (words_after (struck_out 0 turns) ≡ 0x1302 ∷ [])
unfolding seen_in seen bits is_own pairs is_pair lines each domain_at verdicts verdict_of own_answers struck_out end events fresh is_free free_from some_in digit
    is_order place_of way_at how_many first_of fresh_word computing
computed_order = (refl, refl, refl)

-- A list can be told from another: here from one without any of the domain's own steps.
pub told_apart : Indistinguishable tree 0 steps [] → ⊥
unfolding seen_in seen own_answers events
told_apart same =
    let seven : ◌≡◌ {A = ℕ} 7 0 = ap (λ (s : Seen). length s.answers) (sym computed.0 ∙ same.same) in
    omega arith
