-- The theorem is neither empty nor slack, and false of the touch that Tree-PLRU had before: examples/locked-lines.txt, computed.
use mathlib.Core.Path.{◌≡◌, refl}
use mathlib.Core.Bool.{true, false, cond, ◌&&◌, false≢true}
use mathlib.Core.List.{List, [], ◌∷◌}
use Prim.Native.Nat.{ℕ, ◌+◌, ◌*◌}
use native.Mathlib.Omega.{arith}
use Rattle.waymap.specs.Bits.{Bits, bit, word}
use Rattle.tree.specs.Tree as Tree
use Rattle.replacement.specs.Rule.{Rule, tree}
use Rattle.row.specs.Row.{Row, access, hit_way}
use Rattle.sweep.specs.Clean.{cleaned}
use Rattle.policy.specs.declared.Maps.{Maps}
use Rattle.command.specs.Command.{Command}
use Rattle.command.specs.declared.Answer.{Answer}
use Rattle.command.specs.declared.Answer.TheVariants.{Evict}
use Rattle.domains.specs.Domains.{domain_of}
use Rattle.geometry.specs.declared.Geometry.{Geometry}
use Rattle.steps.specs.Tables.{row_at}
use Rattle.steps.specs.Step.{State}
use Rattle.steps.specs.Run.{answers_of, finally}
use Rattle.steps.specs.Fresh.{fresh}
use Rattle.steps.proofs.Computing.{computing, does, both}
use Rattle.isolation.specs.StruckOut.{answers_to, own_answers, number_of}
use Rattle.locking.specs.Locked.{locked, locked_in, is_locked}
use Rattle.locking.specs.Locking.{Answered, Stands, Unspent, strike, rest}

-- one set of eight ways under Tree-PLRU
abbrev small : Geometry
small = record { sets = 1; ways = 8; rule = 0 }

-- Domain 3 gets ways 0 to 3, fills them from way 3 down with lines 0 to 3, and leaves ways 0 and 3 out of its fill map: lines 0 and 3 are locked.
abbrev past : List Command
past =
    does 3 16 (both 15) ∷ does 3 1 0 ∷ does 3 1 64 ∷ does 3 1 128 ∷ does 3 1 192 ∷ does 3 16 (15 + 65536 * 6) ∷ []

-- It loads lines 1, 3 and 4, stores to line 0, and loads lines 5, 0 and 3.
abbrev further : List Command
further = does 3 1 64 ∷ does 3 1 192 ∷ does 3 1 256 ∷ does 3 2 0 ∷ does 3 1 320 ∷ does 3 1 0 ∷ does 3 1 192 ∷ []

abbrev then : State
then = finally small past (fresh small)

-- ---- not empty: lines are locked, what the theorem asks for is met, and steps are struck out

record Locks : Type 0 where
  lines : (is_locked small 3 then 0 ≡ true) × (is_locked small 3 then 64 ≡ false) × (is_locked small 3 then 128 ≡ false) × (is_locked small 3 then 192 ≡ true)
  way : locked_in small 3 then 192 0 ≡ true
  answers : answers_of small further then
      ≡ (0 ∷ 2 ∷ []) ∷ (0 ∷ 0 ∷ []) ∷ (2 ∷ 1 ∷ 2 ∷ 0 ∷ []) ∷ (0 ∷ 3 ∷ []) ∷ (2 ∷ 2 ∷ 1 ∷ 0 ∷ []) ∷ (0 ∷ 3 ∷ []) ∷ (0 ∷ 0 ∷ []) ∷ []
  left : rest small 3 then further ≡ does 3 1 64 ∷ does 3 1 256 ∷ does 3 1 320 ∷ []
  left_answers : own_answers small 3 (rest small 3 then further) then ≡ (0 ∷ 2 ∷ []) ∷ (2 ∷ 1 ∷ 2 ∷ 0 ∷ []) ∷ (2 ∷ 2 ∷ 1 ∷ 0 ∷ []) ∷ []

-- the list has no policy change, no flush, and no refusal
stands : Stands small 3 (is_locked small 3 then) further then
unfolding Answered
stands = record {
  unchanged = (none, (none, (none, (none, (none, (none, (none, tt)))))));
  unflushed = (none, (none, (none, (none, (none, (none, (none, tt)))))));
}
  where
    none : {A : Type 0} → false ≡ true → A
    none e = absurd (false≢true e)

unspent : Unspent small 3 further then
unfolding Answered number_of computing
unspent = (fine, (fine, (fine, (fine, (fine, (fine, (fine, tt)))))))
  where
    fine : {A : Type 0} → A → ◌≡◌ {A = ℕ} 0 7 → ⊥
    fine a e = omega (arith, e)

-- ---- not slack: what the theorem leaves out does differ

-- the dirty mark of a locked line, and the hits: four less
record Differs : Type 0 where
  dirty : bit (row_at 8 0 (finally small further then).tables).dirty 3 ≡ true
  clean : bit (row_at 8 0 (finally small (rest small 3 then further) then).tables).dirty 3 ≡ false
  hits : (domain_of (finally small further then).domains 3).counts.hits ≡ 5
  fewer : (domain_of (finally small (rest small 3 then further) then).domains 3).counts.hits ≡ 1

-- ---- false of the touch of before, which turned the free nodes on the path to any way

turning : ℕ → Bits → ℕ → Bits → Bits
turning W m w b i = cond (Tree.free W m i && Tree.under W i w) (Tree.under W (Tree.left i) w) (b i)

abbrev earlier : Rule
earlier = record {
  victim = (tree 8).victim;
  before = (tree 8).before;
  touch = λ map w x. word 64 (turning 8 (bit map) w (bit x));
  reset = (tree 8).reset;
  fresh = (tree 8).fresh;
  shares = (tree 8).shares;
  Cell = ℕ;
  view = (tree 8).view;
  own = (tree 8).own;
  writes = (tree 8).writes;
  part = (tree 8).part;
}

-- a set after loads by tag
loads : Rule → Maps → List ℕ → Row → Row
loads R p [] r = r
loads R p (t ∷ ts) r = loads R p ts (access R p t false r).row

-- the same steps on the one set, under a rule: lines 0 to 3 are loaded and two of them locked; then some loads, and a load of line 4
abbrev all : Maps
all = record { hit = 15; fill = 15 }

abbrev inner : Maps
inner = record { hit = 15; fill = 6 }

abbrev start : Row
start = record { tags = 0 ∷ 0 ∷ 0 ∷ 0 ∷ 0 ∷ 0 ∷ 0 ∷ 0 ∷ []; valid = 0; dirty = 0; word = 0 }

abbrev after : Rule → List ℕ → Answer
after R ts = (access R inner 4 false (loads R inner ts (cleaned R all inner (loads R all (0 ∷ 1 ∷ 2 ∷ 3 ∷ []) start)))).answer

-- Under the rule as it is, way 1 is evicted with a load of the locked line 3 before and without it. Under the earlier one the load of line 3 has way 2
-- evicted, whose line was used last: what it answers to another step depends on the access to a locked line.
record Steered : Type 0 where
  with_it : after (tree 8) (1 ∷ 3 ∷ []) ≡ Evict 1 2 false
  without_it : after (tree 8) (1 ∷ []) ≡ Evict 1 2 false
  earlier_with : after earlier (1 ∷ 3 ∷ []) ≡ Evict 2 1 false
  earlier_without : after earlier (1 ∷ []) ≡ Evict 1 2 false

-- ---- false of tables that no run reaches: a line that is there twice is hit in its lowest way, locked or not

abbrev twice : Row
twice = record { tags = 5 ∷ 5 ∷ []; valid = 3; dirty = 0; word = 0 }

record Twice : Type 0 where
  lock : locked (record { hit = 3; fill = 1 }) twice 1 ≡ true
  hit : hit_way twice 3 5 ≡ 0

-- ---- computed

computed : Locks × Differs × Steered × Twice
unfolding turning loads locked locked_in is_locked strike answers_to own_answers computing
computed = (
  record { lines = (refl, refl, refl, refl); way = refl; answers = refl; left = refl; left_answers = refl },
  record { dirty = refl; clean = refl; hits = refl; fewer = refl },
  record { with_it = refl; without_it = refl; earlier_with = refl; earlier_without = refl },
  record { lock = refl; hit = refl },
)

locks : Locks
locks = computed.0

differs : Differs
differs = computed.1

steered : Steered
steered = computed.2

lent_twice : Twice
lent_twice = computed.3
