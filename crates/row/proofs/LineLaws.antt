-- What the steps on a set do to one line: what they leave alone, and what they go by.
use mathlib.Core.Path.{◌≡◌, refl, sym, ap, ap₂, ◌∙◌}
use mathlib.Core.Bool.{Bool, true, false, cond, not, false≢true}
use mathlib.Core.List.{List, [], ◌∷◌}
use Prim.Native.Nat.{ℕ, zero, suc, pred, ◌≤◌, ◌<◌}
use native.Mathlib.Nat.{lt_of_lt_of_le}
use native.Mathlib.Omega.{arith}
use lib.Dec.{eqb}
use lib.ListN.{length, get_or, set, length-set}
use lib.Seq.{get_or-set_other}
use borrow.Author.Tests.{ne_eqb}
use Rattle.waymap.specs.Bits.{bit, any, put}
use Rattle.waymap.specs.Encoder.{encode}
use Rattle.waymap.proofs.Booleans.{cases, and_left}
use Rattle.waymap.proofs.WordLaws.{bit_word_in}
use Rattle.waymap.proofs.WayLaws.{any_ext}
use Rattle.waymap.proofs.EncoderLaws.{encode_ext, encode_found}
use Rattle.replacement.specs.Rule.{Rule}
use Rattle.replacement.specs.Isolates.{Isolates}
use Rattle.row.specs.Row.{Row, Effect, ways, is_hit, hit_way, hit_at, vacant, filled, fill_at, evict_at, access_by, access, flush_at, flush}
use Rattle.lookup.specs.Lookup as Lookup
use Rattle.lookup.proofs.LookupLaws.{hit_own}
use Rattle.row.proofs.LookLaws as LookLaws
use Rattle.policy.specs.Policy.{Cut}
use Rattle.row.specs.View.{SameMatch, SameLine, SameView, SameRead}
use Rattle.row.specs.Statements.{AccessLeaves, AccessKeeps, AccessStays, AccessAnswer, AccessAgrees, AccessView}
use Rattle.row.specs.Statements.{FlushSpares, FlushLeaves, FlushAnswer, FlushAgrees}
use Rattle.policy.specs.declared.Maps.{Maps}
use Rattle.command.specs.declared.Answer.TheVariants.{Hit, Fill, Evict, Pass, Flush}

-- ---- the way that a miss fills, under any rule: of ways 1, 2 and 3, of which way 3 is valid, way 2, by computing

filled_way : (R : Rule) → (access R (record { hit = 14; fill = 14 }) 9 false (record { tags = 5 ∷ 6 ∷ 7 ∷ 8 ∷ []; valid = 8; dirty = 0; word = 0 })).answer
    ≡ Fill 2
unfolding access access_by fill_at vacant Lookup.is_hit Lookup.matches any encode bit
filled_way R = refl

-- ---- one line

pub same_line : (r : Row) (w : ℕ) → SameLine r r w
same_line r w = record { valid = refl; dirty = refl; tag = refl }

pub line_trans : {r q s : Row} {w : ℕ} → SameLine r q w → SameLine q s w → SameLine r s w
line_trans a b = record { valid = a.valid ∙ b.valid; dirty = a.dirty ∙ b.dirty; tag = a.tag ∙ b.tag }

pub line_sym : {r q : Row} {w : ℕ} → SameLine r q w → SameLine q r w
line_sym a = record { valid = sym a.valid; dirty = sym a.dirty; tag = sym a.tag }

-- what a lookup compares of a line, and what an access reads of what a domain sees
pub line_match : {r q : Row} {w : ℕ} → SameLine r q w → SameMatch r q w
line_match a = record { valid = a.valid; tag = a.tag }

pub match_trans : {r q s : Row} {w : ℕ} → SameMatch r q w → SameMatch q s w → SameMatch r s w
match_trans a b = record { valid = a.valid ∙ b.valid; tag = a.tag ∙ b.tag }

pub match_sym : {r q : Row} {w : ℕ} → SameMatch r q w → SameMatch q r w
match_sym a = record { valid = sym a.valid; tag = sym a.tag }

pub view_read : {W : ℕ} {R : Rule} {p : Maps} {r q : Row} → Cut W p → SameView R p r q → SameRead R p r q
view_read c s = record { matches = λ w t. line_match (s.lines w t); marks = λ w t. (s.lines w (c.part w t)).dirty; own = s.own }

-- a map with one way put in or taken out, at each way
pub put_bit : (w : ℕ) (on : Bool) (map v : ℕ) → v < 16 → bit (put w on map) v ≡ cond (eqb w v) on (bit map v)
unfolding put
put_bit w on map v h = bit_word_in 16 (λ (u : ℕ). cond (eqb w u) on (bit map u)) v h

put_agrees : (w : ℕ) (on : Bool) (m n v : ℕ) → v < 16 → bit m v ≡ bit n v → bit (put w on m) v ≡ bit (put w on n) v
put_agrees w on m n v h e = put_bit w on m v h ∙ ap (λ (t : Bool). cond (eqb w v) on t) e ∙ sym (put_bit w on n v h)

put_other : (w : ℕ) (on : Bool) (m v : ℕ) → v < 16 → (w ≡ v → ⊥) → bit (put w on m) v ≡ bit m v
put_other w on m v h n = put_bit w on m v h ∙ rw (ne_eqb w v n)

-- a tag stored, at each way
set_agrees : (xs ys : List ℕ) (w t v : ℕ) → length xs ≡ length ys → get_or xs v 0 ≡ get_or ys v 0 → get_or (set xs w t) v 0 ≡ get_or (set ys w t) v 0
set_agrees [] [] w t v l e = refl
set_agrees [] (y ∷ ys) w t v l e = absurd (omega arith)
set_agrees (x ∷ xs) [] w t v l e = absurd (omega arith)
set_agrees (x ∷ xs) (y ∷ ys) zero t zero l e = refl
set_agrees (x ∷ xs) (y ∷ ys) zero t (suc v) l e = e
set_agrees (x ∷ xs) (y ∷ ys) (suc w) t zero l e = e
set_agrees (x ∷ xs) (y ∷ ys) (suc w) t (suc v) l e = set_agrees xs ys w t v (ap pred l) e

-- ---- a filled way

module _ (R : Rule) (fill tag : ℕ) (store : Bool) (w x : ℕ) (r : Row) where
  pub filled_other : (v : ℕ) → v < 16 → (w ≡ v → ⊥) → SameLine (filled R fill tag store w x r) r v
  unfolding filled
  filled_other v h n = record {
    valid = put_other w true r.valid v h n;
    dirty = put_other w store r.dirty v h n;
    tag = get_or-set_other r.tags w v tag 0 (λ e. n (sym e));
  }

  filled_agrees : (q : Row) (y v : ℕ) → v < 16 → length r.tags ≡ length q.tags → SameLine r q v
      → SameLine (filled R fill tag store w x r) (filled R fill tag store w y q) v
  unfolding filled
  filled_agrees q y v h l e = record {
    valid = put_agrees w true r.valid q.valid v h e.valid;
    dirty = put_agrees w store r.dirty q.dirty v h e.dirty;
    tag = set_agrees r.tags q.tags w tag v l e.tag;
  }

-- ---- a hit

module _ (R : Rule) (fill : ℕ) (store : Bool) (w : ℕ) (r : Row) where
  pub hit_other : (v : ℕ) → v < 16 → (w ≡ v → ⊥) → SameLine (hit_at R fill store w r).row r v
  unfolding hit_at
  hit_other v h n = record { valid = refl; dirty = cases store (λ t. rw t (put_other w true r.dirty v h n)) (λ t. rw t); tag = refl }

  hit_agrees : (q : Row) (v : ℕ) → v < 16 → SameLine r q v → SameLine (hit_at R fill store w r).row (hit_at R fill store w q).row v
  unfolding hit_at
  hit_agrees q v h e = record {
    valid = e.valid;
    dirty = cases store (λ t. rw t (put_agrees w true r.dirty q.dirty v h e.dirty)) (λ t. rw t e.dirty);
    tag = e.tag;
  }

-- ---- an access by its cases, on two rows for which its tests come out alike

pub access_cases : (R : Rule) (p : Maps) (tag : ℕ) (store : Bool) (r q : Row) (P : Effect → Effect → Type 0)
    → is_hit r p.hit tag ≡ is_hit q p.hit tag → any (ways r) (bit p.fill) ≡ any (ways q) (bit p.fill)
    → any (ways r) (vacant r p.fill) ≡ any (ways q) (vacant q p.fill)
    → (is_hit r p.hit tag ≡ true → P (hit_at R p.fill store (hit_way r p.hit tag) r) (hit_at R p.fill store (hit_way q p.hit tag) q))
    → P (record { answer = Pass; row = r }) (record { answer = Pass; row = q })
    → (any (ways r) (vacant r p.fill) ≡ true → P (fill_at R p.fill tag store r) (fill_at R p.fill tag store q))
    → (any (ways r) (bit p.fill) ≡ true → any (ways r) (vacant r p.fill) ≡ false → P (evict_at R p.fill tag store r) (evict_at R p.fill tag store q))
    → P (access R p tag store r) (access R p tag store q)
unfolding access access_by
access_cases R p tag store r q P e f g hit pass fill evict =
    rw (← e, ← f, ← g)
    (cases (is_hit r p.hit tag)
    (λ t. rw t (hit t))
    (λ t. rw t
    (cases (any (ways r) (bit p.fill))
    (λ u. rw u (cases (any (ways r) (vacant r p.fill)) (λ v. rw v (fill v)) (λ v. rw v (evict u v))))
    (λ u. rw u pass))))

module _ {W : ℕ} {R : Rule} (I : Isolates W R) (few : W ≤ 16) (p : Maps) (c : Cut W p) (tag : ℕ) where
  -- ---- the ways that an access or a flush works on are the domain's

  module _ (r : Row) (long : length r.tags ≡ W) where
    own_hit : is_hit r p.hit tag ≡ true → bit p.hit (hit_way r p.hit tag) ≡ true
    own_hit = hit_own r.tags r.valid p.hit tag

    vacant_fill : any (ways r) (vacant r p.fill) ≡ true → bit p.fill (encode (ways r) (vacant r p.fill)) ≡ true
    unfolding vacant
    vacant_fill e =
        let w = encode (ways r) (vacant r p.fill) in
        and_left (bit p.fill w) (not (bit r.valid w)) (encode_found (ways r) (vacant r p.fill) e).1

    victim_fill : any (ways r) (bit p.fill) ≡ true → bit p.fill (R.victim p.fill r.word) ≡ true
    victim_fill e = (I.victim_in p.fill r.word (rw long at e)).1

    -- a way of a map is no way outside it
    apart : (map w v : ℕ) → bit map w ≡ true → bit map v ≡ false → w ≡ v → ⊥
    apart map w v a b e = false≢true (sym b ∙ ap (bit map) (sym e) ∙ a)

    -- an access leaves the lines outside the hit map alone
    access_leaves_in : (store : Bool) (v : ℕ) → v < W → bit p.hit v ≡ false → SameLine (access R p tag store r).row r v
    unfolding fill_at evict_at
    access_leaves_in store v h b =
        access_cases R p tag store r r (λ e f. SameLine e.row r v) refl refl refl
        (λ t. hit_other R p.fill store (hit_way r p.hit tag) r v low (apart p.hit (hit_way r p.hit tag) v (own_hit t) b))
        (same_line r v)
        (λ t. filled_other R p.fill tag store (encode (ways r) (vacant r p.fill)) r.word r v low
        (apart p.hit (encode (ways r) (vacant r p.fill)) v (c.part _ (vacant_fill t)) b))
        (λ t u. filled_other R p.fill tag store (R.victim p.fill r.word) (R.before p.fill r.word) r v low
        (apart p.hit (R.victim p.fill r.word) v (c.part _ (victim_fill t)) b))
      where
        low : v < 16
        low = lt_of_lt_of_le h few

    -- outside the fill map it leaves valid bits and tags: there it only hits
    access_keeps_in : (store : Bool) (v : ℕ) → v < W → bit p.fill v ≡ false → SameMatch (access R p tag store r).row r v
    unfolding hit_at fill_at evict_at
    access_keeps_in store v h b =
        access_cases R p tag store r r (λ e f. SameMatch e.row r v) refl refl refl
        (λ t. record { valid = refl; tag = refl })
        (line_match (same_line r v))
        (λ t. line_match (filled_other R p.fill tag store (encode (ways r) (vacant r p.fill)) r.word r v low
        (apart p.fill (encode (ways r) (vacant r p.fill)) v (vacant_fill t) b)))
        (λ t u. line_match (filled_other R p.fill tag store (R.victim p.fill r.word) (R.before p.fill r.word) r v low
        (apart p.fill (R.victim p.fill r.word) v (victim_fill t) b)))
      where
        low : v < 16
        low = lt_of_lt_of_le h few

    -- nor does it change the cells that the fill map does not write
    access_stays_in : (store : Bool) (x : R.Cell) → R.writes p.fill x ≡ false → R.view (access R p tag store r).row.word x ≡ R.view r.word x
    unfolding hit_at fill_at evict_at filled
    access_stays_in store x b =
        access_cases R p tag store r r (λ e f. R.view e.row.word x ≡ R.view r.word x) refl refl refl
        (λ t. I.touch_stays p.fill (hit_way r p.hit tag) r.word x b)
        refl
        (λ t. I.touch_stays p.fill (encode (ways r) (vacant r p.fill)) r.word x b)
        (λ t u. I.touch_stays p.fill (R.victim p.fill r.word) (R.before p.fill r.word) x b ∙ I.before_stays p.fill r.word x b)

    -- a flush leaves every line that it does not hit, and so those outside the hit map
    flush_spares_in : (v : ℕ) → v < W → (is_hit r p.hit tag ≡ true → hit_way r p.hit tag ≡ v → ⊥) → SameLine (flush p tag r).row r v
    unfolding flush flush_at
    flush_spares_in v h n =
        cases (is_hit r p.hit tag)
        (λ t. rw t (record {
          valid = put_other (hit_way r p.hit tag) false r.valid v (lt_of_lt_of_le h few) (n t);
          dirty = put_other (hit_way r p.hit tag) false r.dirty v (lt_of_lt_of_le h few) (n t);
          tag = refl;
        }))
        (λ t. rw t (same_line r v))

    flush_leaves_in : (v : ℕ) → v < W → bit p.hit v ≡ false → SameLine (flush p tag r).row r v
    flush_leaves_in v h b = flush_spares_in v h (λ t. apart p.hit (hit_way r p.hit tag) v (own_hit t) b)

    pub flush_word : (flush p tag r).row.word ≡ r.word
    unfolding flush flush_at
    flush_word = cases (is_hit r p.hit tag) (λ t. rw t) (λ t. rw t)

  -- ---- two rows of which the domain reads the same: the answers are the same, and what is alike stays alike

  module _ (r q : Row) (long_r : length r.tags ≡ W) (long_q : length q.tags ≡ W) (s : SameRead R p r q) where
    as_long : ways r ≡ ways q
    as_long = long_r ∙ sym long_q

    vacant_same : (w : ℕ) → vacant r p.fill w ≡ vacant q p.fill w
    unfolding vacant
    vacant_same w = cases (bit p.fill w) (λ t. rw t (ap not (s.matches w (c.part w t)).valid)) (λ t. rw t)

    hit_same : is_hit r p.hit tag ≡ is_hit q p.hit tag
    hit_same = LookLaws.hit_same p.hit tag r q as_long s.matches

    way_same : hit_way r p.hit tag ≡ hit_way q p.hit tag
    way_same = LookLaws.way_same p.hit tag r q as_long s.matches

    fill_same : any (ways r) (bit p.fill) ≡ any (ways q) (bit p.fill)
    fill_same = ap (λ (n : ℕ). any n (bit p.fill)) as_long

    room_same : any (ways r) (vacant r p.fill) ≡ any (ways q) (vacant q p.fill)
    room_same = ap (λ (n : ℕ). any n (vacant r p.fill)) as_long ∙ any_ext (ways q) (λ w h. vacant_same w)

    room_way : encode (ways r) (vacant r p.fill) ≡ encode (ways q) (vacant q p.fill)
    room_way = ap (λ (n : ℕ). encode n (vacant r p.fill)) as_long ∙ encode_ext (ways q) _ _ (λ w h. vacant_same w)

    victim_same : R.victim p.fill r.word ≡ R.victim p.fill q.word
    victim_same = I.victim_own p.fill r.word q.word s.own

    by_cases : (store : Bool) (P : Effect → Effect → Type 0)
        → (is_hit r p.hit tag ≡ true → P (hit_at R p.fill store (hit_way r p.hit tag) r) (hit_at R p.fill store (hit_way q p.hit tag) q))
        → P (record { answer = Pass; row = r }) (record { answer = Pass; row = q })
        → (any (ways r) (vacant r p.fill) ≡ true → P (fill_at R p.fill tag store r) (fill_at R p.fill tag store q))
        → (any (ways r) (bit p.fill) ≡ true → any (ways r) (vacant r p.fill) ≡ false
        → P (evict_at R p.fill tag store r) (evict_at R p.fill tag store q))
        → P (access R p tag store r) (access R p tag store q)
    by_cases store P = access_cases R p tag store r q P hit_same fill_same room_same

    access_answer_in : (store : Bool) → (access R p tag store r).answer ≡ (access R p tag store q).answer
    unfolding hit_at fill_at evict_at
    access_answer_in store =
        by_cases store (λ e f. e.answer ≡ f.answer)
        (λ t. ap Hit way_same)
        refl
        (λ t. ap Fill room_way)
        (λ t u. let w : ℕ = R.victim p.fill r.word in
        let mine = victim_fill r long_r t in
        rw (← victim_same) (ap₂ (λ (x : ℕ) (b : Bool). Evict w x b) (s.matches w (c.part w mine)).tag (s.marks w mine)))

    access_agrees_in : (store : Bool) (v : ℕ) → v < W → SameLine r q v → SameLine (access R p tag store r).row (access R p tag store q).row v
    unfolding fill_at evict_at
    access_agrees_in store v h e =
        by_cases store (λ a b. SameLine a.row b.row v)
        (λ t. rw (← way_same) (hit_agrees R p.fill store (hit_way r p.hit tag) r q v low e))
        e
        (λ t. rw (← room_way) (filled_agrees R p.fill tag store (encode (ways r) (vacant r p.fill)) r.word r q q.word v low as_long e))
        (λ t u. rw (← victim_same)
        (filled_agrees R p.fill tag store (R.victim p.fill r.word) (R.before p.fill r.word) r q
        (R.before p.fill q.word) v low as_long e))
      where
        low : v < 16
        low = lt_of_lt_of_le h few

    access_view_in : (store : Bool) (x : R.Cell) → R.view r.word x ≡ R.view q.word x
        → R.view (access R p tag store r).row.word x ≡ R.view (access R p tag store q).row.word x
    unfolding hit_at fill_at evict_at filled
    access_view_in store x e =
        by_cases store (λ a b. R.view a.row.word x ≡ R.view b.row.word x)
        (λ t. rw (← way_same) (I.touch_agrees p.fill (hit_way r p.hit tag) r.word q.word x s.own e))
        e
        (λ t. rw (← room_way) (I.touch_agrees p.fill (encode (ways r) (vacant r p.fill)) r.word q.word x s.own e))
        (λ t u. rw (← victim_same)
        (I.touch_agrees p.fill (R.victim p.fill r.word) (R.before p.fill r.word) (R.before p.fill q.word) x
        (λ y o. I.before_agrees p.fill r.word q.word y s.own (s.own y o))
        (I.before_agrees p.fill r.word q.word x s.own e)))

    -- a flush reads the dirty mark of the way that it hits too
    flush_answer_in : (is_hit r p.hit tag ≡ true → bit r.dirty (hit_way r p.hit tag) ≡ bit q.dirty (hit_way r p.hit tag))
        → (flush p tag r).answer ≡ (flush p tag q).answer
    unfolding flush flush_at
    flush_answer_in mark =
        rw (← hit_same, ← way_same)
        (cases (is_hit r p.hit tag) (λ t. rw t (ap (Flush (hit_way r p.hit tag)) (mark t))) (λ t. rw t))

    flush_agrees_in : (v : ℕ) → v < W → SameLine r q v → SameLine (flush p tag r).row (flush p tag q).row v
    unfolding flush flush_at
    flush_agrees_in v h e =
        rw (← hit_same, ← way_same)
        (cases (is_hit r p.hit tag)
        (λ t. rw t (record {
          valid = put_agrees (hit_way r p.hit tag) false r.valid q.valid v (lt_of_lt_of_le h few) e.valid;
          dirty = put_agrees (hit_way r p.hit tag) false r.dirty q.dirty v (lt_of_lt_of_le h few) e.dirty;
          tag = e.tag;
        }))
        (λ t. rw t e))

-- ---- the same, as stated

pub access_leaves : AccessLeaves
access_leaves W R = access_leaves_in

pub access_keeps : AccessKeeps
access_keeps W R = access_keeps_in

pub access_stays : AccessStays
access_stays W R = access_stays_in

pub access_answer : AccessAnswer
access_answer W R = access_answer_in

pub access_agrees : AccessAgrees
access_agrees W R = access_agrees_in

pub access_view : AccessView
access_view W R = access_view_in

pub flush_spares : FlushSpares
flush_spares W R = flush_spares_in

pub flush_leaves : FlushLeaves
flush_leaves W R = flush_leaves_in

pub flush_answer : FlushAnswer
flush_answer W R = flush_answer_in

pub flush_agrees : FlushAgrees
flush_agrees W R = flush_agrees_in

-- ---- a row keeps its length

pub access_long : (R : Rule) (p : Maps) (tag : ℕ) (store : Bool) (r : Row) → length (access R p tag store r).row.tags ≡ length r.tags
unfolding hit_at fill_at evict_at filled
access_long R p tag store r =
    access_cases R p tag store r r (λ e f. length e.row.tags ≡ length r.tags) refl refl refl
    (λ t. refl) refl
    (λ t. length-set r.tags (encode (ways r) (vacant r p.fill)) tag)
    (λ t u. length-set r.tags (R.victim p.fill r.word) tag)

pub flush_long : (p : Maps) (tag : ℕ) (r : Row) → length (flush p tag r).row.tags ≡ length r.tags
unfolding flush flush_at
flush_long p tag r = cases (is_hit r p.hit tag) (λ t. rw t) (λ t. rw t)
