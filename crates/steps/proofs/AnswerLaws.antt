-- What a step can answer.
use mathlib.Core.Path.{◌≡◌, refl, sym, ap, ◌∙◌}
use mathlib.Core.Bool.{Bool, true, false, ◌&&◌}
use mathlib.Core.List.{List}
use Prim.Native.Nat.{ℕ, ◌*◌, ◌≤◌}
use native.Mathlib.Nat.{le_trans, le_of_eq, mul_comm}
use native.Mathlib.Omega.{arith}
use lib.Dec.{eqb, ltb}
use lib.ListN.{length, get_or, drop, length-take}
use borrow.Author.Tests.{eqb-true, eqb-false}
use Rattle.waymap.specs.Bits.{bit, any}
use Rattle.waymap.proofs.Booleans.{cases}
use Rattle.waymap.proofs.WayLaws.{count_le}
use Rattle.replacement.specs.Rule.{Rule}
use Rattle.row.specs.Row as Row
use Rattle.row.specs.Row.{Row}
use Rattle.policy.specs.Policy.{as_read, new_maps}
use Rattle.policy.specs.declared.Maps.{Maps}
use Rattle.sweep.specs.Clean.{moved, dropped, dropped_dirty}
use Rattle.command.specs.Answer.{answer_of}
use Rattle.command.specs.declared.Answer.TheVariants.{Refused}
use Rattle.command.specs.Kind.{Kind, access, flush, policy, unknown, kind_of}
use Rattle.domains.specs.Domains.{domain_of, policies}
use Rattle.verdict.specs.Refusal.{refusal}
use Rattle.geometry.specs.Geometry.{max_sets}
use Rattle.geometry.specs.declared.Geometry.{Geometry}
use Rattle.geometry.proofs.GeometryLaws.{rows_bound}
use Rattle.steps.specs.Tables.{Tables, lengths, row_at, total}
use Rattle.steps.specs.Step.{State, Outcome, answers, on_set, row_effect, use_line, dropped_by, change_policy, drops_of, step_by, decided, step}
use Rattle.steps.specs.Statements.{changed, turned_down, PolicyWord, RefusedStays, NoRefusalZero, PolicyAnswer, DropsMost}
use Rattle.steps.proofs.TotalLaws.{total_le}
use Rattle.steps.proofs.DropLaws.{row_lines_most}

-- ---- no refusal has number 0, and only a policy change answers word 6

-- the words of an access and of a flush are below both
module _ (p : Maps) (tag : ℕ) (r : Row) where
  access_word : (R : Rule) (store : Bool) → get_or (answer_of (Row.access R p tag store r).answer) 0 0 ≤ 5
  unfolding Row.access Row.access_by Row.hit_at Row.fill_at Row.evict_at
  access_word R store = by (Row.is_hit r p.hit tag) (any (length r.tags) (bit p.fill)) (any (length r.tags) (Row.vacant r p.fill))
    where
      by : (hit some room : Bool) → get_or (answer_of (Row.access_by hit some room R p tag store r).answer) 0 0 ≤ 5
      by true some room = omega arith
      by false false room = omega arith
      by false true true = omega arith
      by false true false = omega arith

  flush_word : get_or (answer_of (Row.flush p tag r).answer) 0 0 ≤ 5
  unfolding Row.flush Row.flush_at
  flush_word = by (Row.is_hit r p.hit tag)
    where
      by : (hit : Bool) → get_or (answer_of (Row.flush_at hit (Row.hit_way r p.hit tag) r).answer) 0 0 ≤ 5
      by true = omega arith
      by false = omega arith

not_low : (n : ℕ) {word : ℕ} → word ≤ 5 → 6 ≤ n → word ≡ n → ⊥
not_low n h k e = omega arith

-- of the steps that no verdict turns down only unknown kinds answer it, with 4, and they move nothing
done_by : (y : Kind) (g : Geometry) (d arg : ℕ) (s : State) → get_or (step_by y g d arg s).answer 0 0 ≡ 7
    → step_by y g d arg s ≡ answers (Refused 4) s
unfolding step_by use_line on_set row_effect change_policy
done_by (access store) g d arg s e = absurd (not_low 7 (access_word _ _ _ _ store) (omega arith) e)
done_by flush g d arg s e = absurd (not_low 7 (flush_word _ _ _) (omega arith) e)
done_by policy g d arg s e = absurd (omega (arith, e))
done_by unknown g d arg s e = refl

-- a step that answers word 7 leaves the state
pub refused_stays : RefusedStays
unfolding step decided
refused_stays g d kind arg s e =
    cases (eqb number 0)
    (λ t. rw t (ap (λ (o : Outcome). o.state) (done_by (kind_of kind) g d arg s (rw t at e))))
    (λ t. rw t)
  where
    number : ℕ
    number =
        refusal g (lengths s.tables) (policies g.ways s.domains) (domain_of s.domains d).counts (drops_of g d arg s) d kind arg

pub no_refusal_zero : NoRefusalZero
unfolding step decided
no_refusal_zero g c s e =
    cases (eqb number 0)
    (λ t. let done = rw t at e in
    let four = done_by (kind_of c.kind) g c.domain c.argument s (ap (λ (l : List ℕ). get_or l 0 0) done) in
    let z = ap (λ (l : List ℕ). get_or l 1 0) (sym (ap (λ (o : Outcome). o.answer) four) ∙ done) in
    omega (arith, z))
    (λ t. let z : number ≡ 0 = cc (rw t at e) in eqb-false number 0 t z)
  where
    number : ℕ
    number =
        refusal g (lengths s.tables) (policies g.ways s.domains) (domain_of s.domains c.domain).counts
        (drops_of g c.domain c.argument s) c.domain c.kind c.argument

-- of the steps that no verdict turns down only a policy change answers word 6
six_by : (kind : ℕ) (g : Geometry) (d arg : ℕ) (s : State) → get_or (step_by (kind_of kind) g d arg s).answer 0 0 ≡ 6 → kind ≡ 16
unfolding kind_of step_by use_line on_set row_effect
six_by kind g d arg s e =
    cases (ltb kind 3)
    (λ a. absurd (not_low 6 (access_word _ _ _ _ (eqb kind 2)) (omega arith) (rw a at e)))
    (λ a. cases (eqb kind 3)
    (λ b. absurd (not_low 6 (flush_word _ _ _) (omega arith) (rw (a, b) at e)))
    (λ b. cases (eqb kind 16)
    (λ c. eqb-true kind 16 c)
    (λ c. absurd (omega (arith, rw (a, b, c) at e)))))

pub policy_word : PolicyWord
unfolding step decided
policy_word g d kind arg s e =
    cases (eqb number 0)
    (λ t. six_by kind g d arg s (rw t at e))
    (λ t. absurd (omega (arith, rw t at e)))
  where
    number : ℕ
    number =
        refusal g (lengths s.tables) (policies g.ways s.domains) (domain_of s.domains d).counts (drops_of g d arg s) d kind arg

-- ---- what a policy change answers

pub policy_answer : PolicyAnswer
unfolding step decided kind_of step_by change_policy
policy_answer g d arg s =
    cases (eqb number 0) (λ t. rw t (changed _ _)) (λ t. rw t (turned_down number (eqb-false number 0 t)))
  where
    number : ℕ
    number = refusal g (lengths s.tables) (policies g.ways s.domains) (domain_of s.domains d).counts (drops_of g d arg s) d 16 arg

-- ---- how many lines a policy change can drop

-- in a set no more than it has ways
row_drops : (W i : ℕ) (old new : Maps) (t : Tables) → (dropped old new (row_at W i t) ≤ W) × (dropped_dirty old new (row_at W i t) ≤ W)
unfolding dropped dropped_dirty row_at
row_drops W i old new t =
    let r : Row = row_at W i t in
    let short : length r.tags ≤ W = omega (arith, length-take W (drop (i * W) t.tags)) in (
      row_lines_most W i (moved old new) t,
      le_trans (count_le (length r.tags) (λ (w : ℕ). moved old new w && bit r.valid w && bit r.dirty w)) short,
    )

-- in all no more than there are lines: "drop counts, now up to 65,536", whatever the tables hold
pub drops_most : DropsMost
unfolding step decided kind_of step_by change_policy dropped_by
drops_most g d arg s l n m e =
    cases (eqb number 0)
    (λ t. let first : n ≡ lines (dropped old new) = cc (rw t at e) in
    let second : m ≡ lines (dropped_dirty old new) = cc (rw t at e) in (
      le_trans (le_of_eq first) (few (dropped old new) (λ i. (row_drops g.ways i old new s.tables).0)),
      le_trans (le_of_eq second) (few (dropped_dirty old new) (λ i. (row_drops g.ways i old new s.tables).1)),
    ))
    (λ t. let z : ◌≡◌ {A = ℕ} 7 6 = cc (rw t at e) in absurd (omega arith))
  where
    number : ℕ
    number = refusal g (lengths s.tables) (policies g.ways s.domains) (domain_of s.domains d).counts (drops_of g d arg s) d 16 arg

    old : Maps
    old = policies g.ways s.domains d

    new : Maps
    new = as_read g.ways (new_maps arg)

    lines : (Row → ℕ) → ℕ
    lines f = total g.ways g.sets f s.tables

    few : (f : Row → ℕ) → ((i : ℕ) → f (row_at g.ways i s.tables) ≤ g.ways) → lines f ≤ max_sets * 16
    few f h =
        le_trans (total_le g.ways g.sets g.ways f s.tables (λ i k. h i))
        (le_trans (le_of_eq (mul_comm g.ways g.sets)) (rows_bound g l))
