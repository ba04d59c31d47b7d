-- That no domain has a line twice, in any run from a fresh cache.
use mathlib.Core.Path.{◌≡◌, refl, sym, subst, ◌∙◌}
use mathlib.Core.Bool.{Bool, true, false, cond, xor, false≢true}
use mathlib.Core.List.{List, [], ◌∷◌}
use Prim.Native.Nat.{ℕ, ◌≤◌, ◌<◌}
use native.Mathlib.Nat.{lt_of_lt_of_le}
use lib.Dec.{eqb, lit≤}
use lib.ListN.{length, get_or-replicate}
use lib.Seq.{get_or-set_same}
use borrow.Author.Tests.{eqb-true, eqb-false}
use Rattle.waymap.specs.Bits.{bit}
use Rattle.waymap.proofs.Booleans.{cases, not_both}
use Rattle.waymap.proofs.BitLaws.{bit_none}
use Rattle.replacement.specs.Rule.{Rule, rule_of}
use Rattle.lookup.specs.Lookup as Lookup
use Rattle.row.specs.Row.{Row, Effect, ways, is_hit, hit_way, hit_at, filled, fill_at, evict_at, access_by, access, flush_at, flush}
use Rattle.row.specs.View.{SameMatch, SameLine}
use Rattle.row.proofs.LineLaws.{line_match, put_bit, filled_other, access_leaves}
use Rattle.policy.specs.Policy.{as_read, new_maps}
use Rattle.policy.specs.declared.Maps.{Maps}
use Rattle.policy.proofs.ReadLaws.{cut_read}
use Rattle.sweep.specs.Clean.{moved, cleaned}
use Rattle.sweep.proofs.CleanLaws.{without_bit, clean_leaves}
use Rattle.command.specs.Command.{Command}
use Rattle.domains.specs.Domains.{policies}
use Rattle.geometry.specs.Geometry.{within}
use Rattle.geometry.specs.Address.{set_of, tag_of}
use Rattle.geometry.specs.Inside.{Limited}
use Rattle.geometry.specs.declared.Geometry.{Geometry}
use Rattle.geometry.proofs.GeometryLaws.{limited}
use Rattle.steps.specs.Tables.{row_at}
use Rattle.steps.specs.Step.{State, Outcome, row_effect, use_line, change_policy}
use Rattle.steps.specs.Run.{step_on, finally}
use Rattle.steps.specs.Fresh.{fresh_tables, fresh}
use Rattle.steps.specs.Inside.{line_work}
use Rattle.steps.proofs.SetLaws.{row_long}
use Rattle.steps.proofs.StateLaws.{line_policy, line_row, line_row_other, changed_policy, changed_policy_other, changed_row}
use Rattle.steps.proofs.DidLaws.{Did, turned_down, used, changed, did}
use Rattle.steps.specs.Statements.{Kept}
use Rattle.steps.proofs.RunLaws.{worked, worked_long, inside}
use Rattle.reached.proofs.SeparateLaws.{policy_cut}
use Rattle.locking.specs.Once.{Has, OnceIn, Once, NoLineTwice}
use Rattle.locking.proofs.RowLaws.{has_hit}
use Rattle.reached.specs.Reached.{Reached}
use Rattle.reached.proofs.Reached.{run_reached, step_reached, reached_kept, reached_separate}
use Rattle.locking.proofs.WordFits.{rule}

-- ---- one row

-- A row of which all was there before has no line twice if none was there twice.
onto : {hit other : ℕ} {r q : Row} → OnceIn other r → ((tag w : ℕ) → Has hit q tag w → Has other r tag w) → OnceIn hit q
onto once back tag v w a b = once tag v w (back tag v a) (back tag w b)

-- What a row has in a way, one with the same valid bit and tag there has too.
match_has : {hit tag w : ℕ} {r q : Row} → SameMatch q r w → Has hit q tag w → Has hit r tag w
match_has m a = record { in_map = a.in_map; is_valid = sym m.valid ∙ a.is_valid; has_tag = sym m.tag ∙ a.has_tag }

-- What a lookup misses is in no way of the hit map.
missed : (r : Row) (hit tag w : ℕ) → w < ways r → is_hit r hit tag ≡ false → Has hit r tag w → ⊥
missed r hit tag w h miss a = false≢true (sym miss ∙ has_hit hit tag r w h a)

-- ---- an access

module _ (p : Maps) (tag : ℕ) (r : Row) (few : ways r ≤ 16) (below : (v : ℕ) → bit p.hit v ≡ true → v < ways r) (R : Rule) (store : Bool) where
  module _ (w x : ℕ) where
    -- what is in another way than the filled one was there before
    filled_has : (t v : ℕ) → (w ≡ v → ⊥) → Has p.hit (filled R p.fill tag store w x r) t v → Has p.hit r t v
    filled_has t v n a = match_has (line_match (filled_other R p.fill tag store w x r v (lt_of_lt_of_le (below v a.in_map) few) n)) a

    -- what is in the filled way has the tag
    filled_tag : (t v : ℕ) → w ≡ v → Has p.hit (filled R p.fill tag store w x r) t v → t ≡ tag
    unfolding filled
    filled_tag t v e a = sym a.has_tag ∙ rw e (get_or-set_same r.tags v tag 0 (below v a.in_map))

    -- after a miss no other way has it
    filled_alone : is_hit r p.hit tag ≡ false → (t v u : ℕ) → w ≡ v → (w ≡ u → ⊥) → Has p.hit (filled R p.fill tag store w x r) t v
        → Has p.hit (filled R p.fill tag store w x r) t u → ⊥
    filled_alone miss t v u e n a b =
        missed r p.hit tag u (below u b.in_map) miss (subst (λ (y : ℕ). Has p.hit r y u) (filled_tag t v e a) (filled_has t u n b))

    -- so a fill after a miss leaves no line twice
    filled_once : is_hit r p.hit tag ≡ false → OnceIn p.hit r → OnceIn p.hit (filled R p.fill tag store w x r)
    filled_once miss once t v u a b =
        cases (eqb w v)
        (λ y. cases (eqb w u)
        (λ z. sym (eqb-true w v y) ∙ eqb-true w u z)
        (λ z. absurd (filled_alone miss t v u (eqb-true w v y) (eqb-false w u z) a b)))
        (λ y. cases (eqb w u)
        (λ z. absurd (filled_alone miss t u v (eqb-true w u z) (eqb-false w v y) b a))
        (λ z. once t v u (filled_has t v (eqb-false w v y) a) (filled_has t u (eqb-false w u z) b)))

  -- nor does any access of the domain itself, by its cases
  access_by_lem : OnceIn p.hit r → (found some room : Bool) → is_hit r p.hit tag ≡ found → OnceIn p.hit (access_by found some room R p tag store r).row
  unfolding access_by hit_at fill_at evict_at
  access_by_lem once true some room e = onto once (λ t v a. match_has (record { valid = refl; tag = refl }) a)
  access_by_lem once false false room e = once
  access_by_lem once false true true e = filled_once _ r.word e once
  access_by_lem once false true false e = filled_once _ (R.before p.fill r.word) e once

  own_access_once : OnceIn p.hit r → OnceIn p.hit (access R p tag store r).row
  unfolding access
  own_access_once once = access_by_lem once _ _ _ refl

-- ---- a flush and a change of policy

-- What is there afterwards is not gone, and was there before.
not_gone : (gone b : Bool) → cond gone false b ≡ true → (gone ≡ false) × (b ≡ true)
not_gone true b e = absurd (false≢true e)
not_gone false b e = (refl, e)

-- What a row has after a flush, whoever's it is, it had before.
flush_has : (p : Maps) (tag : ℕ) (r : Row) (hit t v : ℕ) → v < 16 → Has hit (flush p tag r).row t v → Has hit r t v
unfolding flush flush_at
flush_has p tag r hit t v low = by (is_hit r p.hit tag)
  where
    w : ℕ
    w = hit_way r p.hit tag

    by : (found : Bool) → Has hit (flush_at found w r).row t v → Has hit r t v
    by true a = record {
      in_map = a.in_map;
      is_valid = (not_gone (eqb w v) (bit r.valid v) (sym (put_bit w false r.valid v low) ∙ a.is_valid)).1;
      has_tag = a.has_tag;
    }
    by false a = a

-- A way that has not moved and is in the new map was in the old one.
was_in : (old new : Bool) → xor old new ≡ false → new ≡ true → old ≡ true
unfolding xor
was_in true new e f = refl
was_in false true e f = sym e
was_in false false e f = f

module _ (R : Rule) (old new : Maps) (r : Row) where
  -- a way that is valid after a change of policy has not moved
  unmoved : (hit t v : ℕ) → v < 16 → Has hit (cleaned R old new r) t v → moved old new v ≡ false
  unfolding cleaned
  unmoved hit t v low a = (not_gone (moved old new v) (bit r.valid v) (sym (without_bit (moved old new) r.valid v low) ∙ a.is_valid)).0

  -- so what the row has then it had before
  cleaned_has : (hit t v : ℕ) → v < 16 → Has hit (cleaned R old new r) t v → Has hit r t v
  cleaned_has hit t v low a = match_has (line_match (clean_leaves _ R (lit≤ tt) old new r v low (unmoved hit t v low a))) a

  -- and what it has in the new hit map it had in the old one
  changed_has : (t v : ℕ) → v < 16 → Has new.hit (cleaned R old new r) t v → Has old.hit r t v
  unfolding moved
  changed_has t v low a =
      let b = cleaned_has new.hit t v low a in
      record {
        in_map = was_in (bit old.hit v) (bit new.hit v) (unmoved new.hit t v low a) a.in_map;
        is_valid = b.is_valid;
        has_tag = b.has_tag;
      }

-- ---- every domain and every set

module _ (g : Geometry) (limits : within g ≡ true) where
  l : Limited g
  l = limited g limits

  abbrev R : Rule
  R = rule_of g.rule g.ways

  below_16 : {v : ℕ} → v < g.ways → v < 16
  below_16 h = lt_of_lt_of_le h l.most_ways

  module _ (s : State) (reached : Reached g s) (once : Once g s) where
    abbrev policy : ℕ → Maps
    policy = policies g.ways s.domains

    abbrev row : ℕ → Row
    row i = row_at g.ways i s.tables

    -- what holds in every state of a run
    kept : Kept g limits s
    kept = reached_kept g limits s reached

    long : (i : ℕ) → i < g.sets → length (row_at g.ways i s.tables).tags ≡ g.ways
    long i h = row_long g kept.whole.shaped i h

    -- a way of a map as read is one of the ways
    in_ways : (d v : ℕ) → bit (policy d).hit v ≡ true → v < g.ways
    in_ways d v t = (policy_cut g.ways s.domains d).within v t

    -- another domain's access leaves the lines in the domain's ways
    other_access_once : (d e : ℕ) → d < 16 → e < 16 → (d ≡ e → ⊥) → (tag : ℕ) (store : Bool) (i : ℕ) → i < g.sets
        → OnceIn (policy d).hit (access R (policy e) tag store (row i)).row
    other_access_once d e low k n tag store i h = onto (once d i low h) (λ t v a. match_has (line_match (left v a.in_map)) a)
      where
        left : (v : ℕ) → bit (policy d).hit v ≡ true → SameLine (access R (policy e) tag store (row i)).row (row i) v
        left v t =
            access_leaves _ _ (rule g limits).isolates l.most_ways (policy e) (policy_cut g.ways s.domains e) tag (row i) (long i h) store v
            (in_ways d v t)
            (not_both (bit (policy d).hit v) (bit (policy e).hit v) ((reached_separate g limits s reached).ways_apart d e low k n v) t)

    -- an access or a flush, the domain's own or another's, on a row and on the state
    work_once : (d e : ℕ) → d < 16 → e < 16 → (flushes store : Bool) (tag i : ℕ) → i < g.sets
        → OnceIn (policy d).hit (line_work flushes R store (policy e) tag (row i)).row
    work_once d e low k true store tag i h =
        onto (once d i low h) (λ t v a. flush_has (policy e) tag (row i) (policy d).hit t v (below_16 (in_ways d v a.in_map)) a)
    work_once d e low k false store tag i h =
        cases (eqb d e)
        (λ t. rw (eqb-true d e t)
        (own_access_once (policy e) tag (row i) (rw (long i h) l.most_ways) (λ v u. rw (long i h) (in_ways e v u)) R store (once e i k h)))
        (λ t. other_access_once d e low k (eqb-false d e t) tag store i h)

    line_once : (e : ℕ) → e < 16 → (arg : ℕ) (flushes store : Bool)
        → Once g (use_line g (line_work flushes R store) e arg s).state
    unfolding use_line row_effect
    line_once e k arg flushes store d i low h =
        rw (line_policy g s kept.whole e k (set_of g arg) in_range x x_long d)
        (cases (eqb i (set_of g arg))
        (λ t. rw (eqb-true i (set_of g arg) t, line_row g s kept.whole e k (set_of g arg) in_range x x_long)
        (work_once d e low k flushes store (tag_of g arg) (set_of g arg) in_range))
        (λ t. rw (line_row_other g s kept.whole e k (set_of g arg) in_range x x_long i (eqb-false i (set_of g arg) t)) (once d i low h)))
      where
        in_range : set_of g arg < g.sets
        in_range = inside g limits s kept e k arg

        x : Effect
        x = worked g limits s kept e k arg flushes store

        x_long : length x.row.tags ≡ g.ways
        x_long = worked_long g limits s kept e k arg flushes store

    -- a change of the domain's own policy and of another's on a row, and either on the state
    own_change_once : (e : ℕ) → e < 16 → (new : Maps) (i : ℕ) → i < g.sets
        → OnceIn (as_read g.ways new).hit (cleaned R (policy e) (as_read g.ways new) (row i))
    own_change_once e k new i h =
        onto (once e i k h)
        (λ t v a. changed_has R (policy e) (as_read g.ways new) (row i) t v (below_16 ((cut_read g.ways new).within v a.in_map)) a)

    other_change_once : (d e : ℕ) → d < 16 → (new : Maps) (i : ℕ) → i < g.sets → OnceIn (policy d).hit (cleaned R (policy e) new (row i))
    other_change_once d e low new i h =
        onto (once d i low h) (λ t v a. cleaned_has R (policy e) new (row i) (policy d).hit t v (below_16 (in_ways d v a.in_map)) a)

    change_once : (e : ℕ) → e < 16 → (arg : ℕ) → Once g (change_policy g e arg s).state
    change_once e k arg d i low h =
        rw (changed_row g e k arg s kept.whole i h)
        (cases (eqb d e)
        (λ t. rw (eqb-true d e t, changed_policy g e k arg s kept.whole) (own_change_once e k (new_maps arg) i h))
        (λ t. rw (changed_policy_other g e k arg s kept.whole d (eqb-false d e t)) (other_change_once d e low (as_read g.ways (new_maps arg)) i h)))

    -- No step of anybody gives a domain a line twice.
    pub once_step : (c : Command) → Once g (step_on g c s).state
    once_step c = by (did g limits c s kept.whole)
      where
        by : {o : Outcome} → Did g c s o → Once g o.state
        by (turned_down n h) = once
        by (used flushes store k h e z) = line_once c.domain k c.argument flushes store
        by (changed k h z) = change_once c.domain k c.argument

  -- in a fresh cache nothing is valid
  fresh_once : Once g (fresh g)
  unfolding fresh fresh_tables row_at
  fresh_once d i low h tag v w a b =
      absurd (false≢true (sym (rw (get_or-replicate {A = ℕ} g.sets i 0 0 h) (bit_none v)) ∙ a.is_valid))

  -- nor do any steps from a state that a run reaches
  once_from : (cs : List Command) (s : State) → Reached g s → Once g s → Once g (finally g cs s)
  unfolding finally
  once_from [] s reached once = once
  once_from (c ∷ cs) s reached once = once_from cs (step_on g c s).state (step_reached g c s reached) (once_step s reached once c)

-- No domain ever has a line twice.
pub once : NoLineTwice
unfolding finally
once g limits cs = once_from g limits cs (fresh g) (run_reached g []) (fresh_once g limits)

-- So it is in every state that a run reaches.
pub reached_once : (g : Geometry) → within g ≡ true → (s : State) → Reached g s → Once g s
reached_once g limits s reached = subst (Once g) (sym reached.is) (once g limits reached.past)
