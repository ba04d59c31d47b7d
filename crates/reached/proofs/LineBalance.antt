-- Lines in and lines out of an access or a flush: it keeps the balance of every domain.
use mathlib.Core.Path.{◌≡◌, refl, sym, ap, ◌∙◌}
use mathlib.Core.Bool.{Bool, true, false}
use Prim.Native.Nat.{ℕ, ◌+◌, ◌≤◌, ◌<◌}
use native.Mathlib.Omega.{arith}
use lib.Dec.{eqb}
use lib.ListN.{length}
use borrow.Author.Tests.{eqb-true, eqb-false}
use Rattle.waymap.specs.Bits.{bit}
use Rattle.waymap.proofs.Booleans.{cases, not_both}
use Rattle.replacement.specs.Rule.{Rule, rule_of}
use Rattle.row.specs.Row.{Row, Effect, lines_in}
use Rattle.row.proofs.LineLaws.{access_leaves, flush_leaves}
use Rattle.row.specs.Statements.{came, went}
use Rattle.row.proofs.LinesLaws.{came_one, lines_same, access_lines, flush_lines}
use Rattle.policy.specs.declared.Maps.{Maps}
use Rattle.command.specs.declared.Answer.{Answer}
use Rattle.command.specs.declared.Answer.TheVariants.{Hit, Fill, Evict, Pass, Flush, Absent, Policy, Refused}
use Rattle.domains.specs.Domains.{domain_of, policies, counted}
use Rattle.domains.specs.declared.Counts.{Counts}
use Rattle.domains.specs.declared.Domain.{Domain}
use Rattle.domains.proofs.CountLaws.{unspent}
use Rattle.verdict.specs.Refusal.{use_refusal}
use Rattle.verdict.proofs.RefusalLaws.{not_full}
use Rattle.geometry.specs.Geometry.{within}
use Rattle.geometry.specs.Address.{set_of, tag_of}
use Rattle.geometry.specs.Inside.{Limited}
use Rattle.geometry.specs.declared.Geometry.{Geometry}
use Rattle.geometry.proofs.GeometryLaws.{limited}
use Rattle.steps.specs.Tables.{row_at, total}
use Rattle.steps.specs.Step.{State, row_effect, use_line}
use Rattle.steps.specs.Inside.{line_work}
use Rattle.steps.proofs.SetLaws.{row_long}
use Rattle.steps.proofs.TotalLaws.{total_ext, total_one}
use Rattle.steps.proofs.StateLaws.{line_domain, line_domain_other, line_policy, line_row, line_row_other}
use Rattle.steps.specs.Statements.{Kept}
use Rattle.steps.proofs.RunLaws.{inside, worked_long}
use Rattle.reached.specs.Reached.{Separate}
use Rattle.reached.specs.Balance.{held, Balanced}
use Rattle.reached.specs.Inside.{Unowned, Empty, FillsFit}
use Rattle.reached.proofs.SeparateLaws.{policy_cut, rule}

-- ---- what an answer adds to the counts: lines in are fills, and lines out are evicted or flushed

module _ (c : Counts) where
  counted_in : (a : Answer) → (counted a c).fills ≡ c.fills + came a
  unfolding counted
  counted_in (Hit w) = omega arith
  counted_in (Fill w) = refl
  counted_in (Evict w tag dirty) = refl
  counted_in Pass = omega arith
  counted_in (Flush w dirty) = omega arith
  counted_in Absent = omega arith
  counted_in (Policy dropped dirty) = omega arith
  counted_in (Refused n) = omega arith

  counted_out : (a : Answer)
      → (counted a c).evicted + (counted a c).flushed + (counted a c).dropped ≡ c.evicted + c.flushed + c.dropped + went a
  unfolding counted
  counted_out (Hit w) = omega arith
  counted_out (Fill w) = omega arith
  counted_out (Evict w tag dirty) = omega arith
  counted_out Pass = omega arith
  counted_out (Flush w dirty) = omega arith
  counted_out Absent = omega arith
  counted_out (Policy dropped dirty) = omega arith
  counted_out (Refused n) = omega arith

-- ---- an access or a flush

module _ (g : Geometry) (limits : within g ≡ true) (s : State) (kept : Kept g limits s) (apart : Separate g (policies g.ways s.domains))
    (e : ℕ) (k : e < 16) (arg : ℕ) (flushes store : Bool) where
  l : Limited g
  l = limited g limits

  abbrev R : Rule
  R = rule_of g.rule g.ways

  abbrev policy : ℕ → Maps
  policy = policies g.ways s.domains

  abbrev set : ℕ
  set = set_of g arg

  here : set < g.sets
  here = inside g limits s kept e k arg

  abbrev row : Row
  row = row_at g.ways (set_of g arg) s.tables

  abbrev x : Effect
  x = line_work flushes (rule_of g.rule g.ways) store (policies g.ways s.domains e) (tag_of g arg) (row_at g.ways (set_of g arg) s.tables)

  long : length x.row.tags ≡ g.ways
  long = worked_long g limits s kept e k arg flushes store

  wide : length row.tags ≡ g.ways
  wide = row_long g kept.whole.shaped set here

  abbrev after : State
  after = (use_line g (line_work flushes (rule_of g.rule g.ways) store) e arg s).state

  -- on the row: outside the domain's hit map nothing, inside it lines in and lines out
  row_leaves : (w : ℕ) → w < g.ways → bit (policy e).hit w ≡ false → bit x.row.valid w ≡ bit row.valid w
  row_leaves w h f = pick flushes
    where
      pick : (b : Bool) → bit (line_work b R store (policy e) (tag_of g arg) row).row.valid w ≡ bit row.valid w
      pick true = (flush_leaves _ _ (rule g l) l.most_ways (policy e) (policy_cut g.ways s.domains e) (tag_of g arg) row wide w h f).valid
      pick false = (access_leaves _ _ (rule g l) l.most_ways (policy e) (policy_cut g.ways s.domains e) (tag_of g arg) row wide store w h f).valid

  row_lines : lines_in (bit (policy e).hit) row + came x.answer ≡ lines_in (bit (policy e).hit) x.row + went x.answer
  row_lines = pick flushes
    where
      pick : (b : Bool) → lines_in (bit (policy e).hit) row + came (line_work b R store (policy e) (tag_of g arg) row).answer
          ≡ lines_in (bit (policy e).hit) (line_work b R store (policy e) (tag_of g arg) row).row
          + went (line_work b R store (policy e) (tag_of g arg) row).answer
      pick true = flush_lines _ _ (rule g l) l.most_ways (policy e) (policy_cut g.ways s.domains e) (tag_of g arg) row wide
      pick false = access_lines _ _ (rule g l) l.most_ways (policy e) (policy_cut g.ways s.domains e) (tag_of g arg) row wide store

  -- of another domain's lines it changes none
  row_other : (d : ℕ) → d < 16 → (d ≡ e → ⊥) → lines_in (bit (policy d).hit) x.row ≡ lines_in (bit (policy d).hit) row
  row_other d low n =
      lines_same (bit (policy d).hit) x.row row (long ∙ sym wide)
      (λ w h t. row_leaves w (rw wide at h) (not_both (bit (policy d).hit w) (bit (policy e).hit w) (apart.ways_apart d e low k n w) t))

  -- the lines held, by the policies that stay
  held_after : (d : ℕ) → held g d after ≡ total g.ways g.sets (lines_in (bit (policy d).hit)) after.tables
  unfolding held use_line row_effect
  held_after d =
      ap (λ (p : Maps). total g.ways g.sets (lines_in (bit p.hit)) after.tables)
      (line_policy g s kept.whole e k set here x long d)

  rows_stay : (f : Row → ℕ) (i : ℕ) → i < g.sets → (i ≡ set → ⊥) → f (row_at g.ways i after.tables) ≡ f (row_at g.ways i s.tables)
  unfolding use_line row_effect
  rows_stay f i h n = ap f (line_row_other g s kept.whole e k set here x long i n)

  row_after_lem : row_at g.ways set after.tables ≡ x.row
  unfolding use_line row_effect
  row_after_lem = line_row g s kept.whole e k set here x long

  counts_after : (domain_of after.domains e).counts ≡ counted x.answer (domain_of s.domains e).counts
  unfolding use_line row_effect
  counts_after = ap (λ (y : Domain). y.counts) (line_domain g s kept.whole e k set here x long)

  -- its own balance
  own_balanced : Balanced g e s → Balanced g e after
  unfolding Balanced held
  own_balanced b =
      let c = (domain_of s.domains e).counts in
      let f : Row → ℕ = lines_in (bit (policy e).hit) in
      let moved = total_one g.ways g.sets f after.tables s.tables set here (rows_stay f) in
      rw (counts_after, held_after e)
      (omega (arith, rw row_after_lem at moved, row_lines, counted_in c x.answer, counted_out c x.answer))

  -- another's
  other_balanced : (d : ℕ) → d < 16 → (d ≡ e → ⊥) → Balanced g d s → Balanced g d after
  unfolding Balanced held use_line row_effect
  other_balanced d low n b =
      rw (line_domain_other g s kept.whole e k set here x long d n, held_after d, same) b
    where
      f : Row → ℕ
      f = lines_in (bit (policy d).hit)

      same : total g.ways g.sets (lines_in (bit (policy d).hit)) after.tables ≡ held g d s
      same =
          total_ext g.ways g.sets f f after.tables s.tables
          (λ i h. cases (eqb i set)
          (λ t. rw (eqb-true i set t, row_after_lem) (row_other d low n))
          (λ t. rows_stay f i h (eqb-false i set t)))

  -- every domain's
  pub line_balanced : ((d : ℕ) → d < 16 → Balanced g d s) → (d : ℕ) → d < 16 → Balanced g d after
  line_balanced b d low =
      cases (eqb d e)
      (λ t. rw (eqb-true d e t) (own_balanced (b e k)))
      (λ t. other_balanced d low (eqb-false d e t) (b d low))

  -- fills still fit, where there was room for one more
  pub line_fills : ((d : ℕ) → d < 16 → FillsFit d s) → use_refusal (policy e) (domain_of s.domains e).counts ≡ 0 → (d : ℕ) → d < 16 → FillsFit d after
  unfolding use_line row_effect
  line_fills b z d low =
      cases (eqb d e)
      (λ t. let c = (domain_of s.domains e).counts in
      rw (eqb-true d e t, counts_after)
      (omega (arith, counted_in c x.answer, came_one x.answer, (unspent c (not_full (policy e) c z)).fills, b e k)))
      (λ t. rw (line_domain_other g s kept.whole e k set here x long d (eqb-false d e t)) (b d low))

  -- ways that no domain holds stay empty
  pub line_empty : Empty g s → Empty g after
  unfolding use_line row_effect
  line_empty b w i hw hi none =
      let before : Unowned policy w = λ f low. ap (λ (p : Maps). bit p.hit w) (sym (line_policy g s kept.whole e k set here x long f)) ∙ none f low in
      cases (eqb i set)
      (λ t. rw (eqb-true i set t, row_after_lem) (row_leaves w hw (before e k) ∙ b w set hw here before))
      (λ t. rw (line_row_other g s kept.whole e k set here x long i (eqb-false i set t)) (b w i hw hi before))
