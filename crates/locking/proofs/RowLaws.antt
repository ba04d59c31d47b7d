-- One set: an access to a locked line hits it and steers nothing, and rows that differ in the dirty marks of locked lines alone stay so.
use mathlib.Core.Path.{◌≡◌, refl, sym, ap, ◌∙◌}
use mathlib.Core.Bool.{Bool, true, false, not, ◌&&◌, and-false, true≢false, false≢true}
use Prim.Native.Nat.{ℕ, ◌^◌, ◌≤◌, ◌<◌}
use native.Mathlib.Nat.{lt_of_lt_of_le}
use lib.Dec.{eqb}
use lib.ListN.{length, get_or}
use borrow.Author.Tests.{eqb-true, eq-eqb, not-true}
use Rattle.waymap.specs.Bits.{bit}
use Rattle.waymap.proofs.Booleans.{cases, and_left, and_right}
use Rattle.waymap.proofs.WayLaws.{any_at}
use Rattle.replacement.specs.Rule.{Rule}
use Rattle.replacement.specs.Isolates.{SameOwn}
use Rattle.replacement.specs.Laws.{Laws}
use Rattle.lookup.specs.Lookup as Lookup
use Rattle.lookup.proofs.LookupLaws.{hit_own, hit_valid, hit_tag}
use Rattle.row.specs.Row.{Row, is_hit, hit_way, hit_at, access_by, access, flush}
use Rattle.row.specs.View.{SameMatch, SameLine, SameRead}
use Rattle.row.proofs.LookLaws as LookLaws
use Rattle.row.proofs.LineLaws.{
  line_match,
  match_trans,
  match_sym,
  hit_other,
  access_keeps,
  access_answer,
  access_agrees,
  access_view,
  flush_spares,
  flush_word,
  flush_answer,
  flush_agrees,
}
use Rattle.policy.specs.declared.Maps.{Maps}
use Rattle.policy.specs.Policy.{Cut}
use Rattle.command.specs.declared.Answer.TheVariants.{Hit}
use Rattle.locking.specs.Once.{Has, OnceIn}
use Rattle.locking.specs.Locked.{locked, SameUnlocked}

-- ---- what locked says

pub record IsLocked (p : Maps) (r : Row) (w : ℕ) : Type 0 where
  pub in_hit : bit p.hit w ≡ true
  pub out_fill : bit p.fill w ≡ false
  pub is_valid : bit r.valid w ≡ true

pub locked_is : (p : Maps) (r : Row) (w : ℕ) → locked p r w ≡ true → IsLocked p r w
unfolding locked
locked_is p r w e =
    let both = and_left (bit p.hit w && not (bit p.fill w)) (bit r.valid w) e in
    record {
      in_hit = and_left (bit p.hit w) (not (bit p.fill w)) both;
      out_fill = not-true (bit p.fill w) (and_right (bit p.hit w) (not (bit p.fill w)) both);
      is_valid = and_right (bit p.hit w && not (bit p.fill w)) (bit r.valid w) e;
    }

pub is_locked_lem : (p : Maps) (r : Row) (w : ℕ) → IsLocked p r w → locked p r w ≡ true
unfolding locked
is_locked_lem p r w i = rw (i.in_hit, i.out_fill, i.is_valid)

-- a way of the fill map is not locked
pub filled_free : (p : Maps) (r : Row) (w : ℕ) → bit p.fill w ≡ true → locked p r w ≡ false
unfolding locked
filled_free p r w e = rw (e, and-false (bit p.hit w))

-- it goes by the maps and the valid bit alone
pub locked_same : (p : Maps) (r q : Row) (w : ℕ) → bit r.valid w ≡ bit q.valid w → locked p r w ≡ locked p q w
unfolding locked
locked_same p r q w e = ap (λ (b : Bool). bit p.hit w && not (bit p.fill w) && b) e

-- ---- a lookup hits a way that is valid with the tag, and where no line is twice it hits no other

module _ (hit tag : ℕ) (r : Row) where
  pub hit_has : is_hit r hit tag ≡ true → Has hit r tag (hit_way r hit tag)
  hit_has e = record {
    in_map = hit_own r.tags r.valid hit tag e;
    is_valid = hit_valid r.tags r.valid hit tag e;
    has_tag = hit_tag r.tags r.valid hit tag e;
  }

  pub has_hit : (w : ℕ) → w < length r.tags → Has hit r tag w → is_hit r hit tag ≡ true
  unfolding Lookup.is_hit Lookup.matches
  has_hit w h s =
      any_at (length r.tags) (Lookup.matches r.tags r.valid hit tag) w h
      (rw (s.in_map, s.is_valid, s.has_tag) (eq-eqb tag tag refl))

  pub hits_only : OnceIn hit r → (w : ℕ) → w < length r.tags → Has hit r tag w → hit_way r hit tag ≡ w
  hits_only once w h s = once tag (hit_way r hit tag) w (hit_has (has_hit w h s)) s

-- ---- the domain's access to a locked line

module _ {W : ℕ} {R : Rule} (laws : Laws W R) (few : W ≤ 16) (p : Maps) (c : Cut W p) (r : Row) (long : length r.tags ≡ W) (once : OnceIn p.hit r)
    (w : ℕ) (lock : locked p r w ≡ true) (store : Bool) where
  abbrev tag : ℕ
  tag = get_or r.tags w 0

  is : IsLocked p r w
  is = locked_is p r w lock

  has : Has p.hit r tag w
  has = record { in_map = is.in_hit; is_valid = is.is_valid; has_tag = refl }

  short : w < length r.tags
  short = rw long (c.within w is.in_hit)

  -- it is a hit of that way
  locked_access : access R p tag store r ≡ hit_at R p.fill store w r
  unfolding access access_by
  locked_access = rw (has_hit p.hit tag r w short has, hits_only p.hit tag r once w short has)

  pub locked_answer : (access R p tag store r).answer ≡ Hit w
  unfolding hit_at
  locked_answer = rw locked_access

  -- and leaves all but the line's own dirty mark
  pub locked_steers : (q : Row) → r.word < 2 ^ 64 → SameUnlocked R p r q → SameUnlocked R p (access R p tag store r).row q
  unfolding hit_at
  locked_steers q fits s =
      rw locked_access (record {
        matches = λ v t. record { valid = (s.matches v t).valid; tag = (s.matches v t).tag };
        marks = λ v t free.
            (hit_other R p.fill store w r v (lt_of_lt_of_le (c.within v t) few)
            (λ e. true≢false (sym lock ∙ ap (locked p r) e ∙ locked_same p r (hit_at R p.fill store w r).row v refl ∙ free))).dirty
            ∙ s.marks v t (locked_same p r (hit_at R p.fill store w r).row v refl ∙ free);
        own = λ x t. ap (λ (y : ℕ). R.view y x) (laws.touch_outside p.fill w r.word fits is.out_fill) ∙ s.own x t;
      })

-- ---- two rows that are the same but for the dirty marks of locked lines

module _ {W : ℕ} {R : Rule} (laws : Laws W R) (few : W ≤ 16) (p : Maps) (c : Cut W p) (r q : Row) (long_r : length r.tags ≡ W)
    (long_q : length q.tags ≡ W) (s : SameUnlocked R p r q) where
  -- an access reads the same of them
  read : SameRead R p r q
  read = record { matches = s.matches; marks = λ w t. s.marks w (c.part w t) (filled_free p r w t); own = s.own }

  -- a line that is not locked is the same
  line : (w : ℕ) → bit p.hit w ≡ true → locked p r w ≡ false → SameLine r q w
  line w t free = record { valid = (s.matches w t).valid; dirty = s.marks w t free; tag = (s.matches w t).tag }

  -- Rows made of them are the same but for those marks too, if lines that are not locked stay the same, and locked ones stay.
  made : (a b : Row) → ((w : ℕ) → bit p.hit w ≡ true → SameLine r q w → SameLine a b w)
      → ((w : ℕ) → IsLocked p r w → SameMatch a r w × SameMatch b q w) → SameOwn R p.fill a.word b.word → SameUnlocked R p a b
  made a b free stays own = record {
    matches = λ w t.
        cases (locked p r w)
        (λ k. let is = stays w (locked_is p r w k) in match_trans is.0 (match_trans (s.matches w t) (match_sym is.1)))
        (λ k. line_match (free w t (line w t k)));
    marks = λ w t u.
        cases (locked p r w)
        (λ k. absurd (false≢true (sym u ∙ locked_same p a r w (stays w (locked_is p r w k)).0.valid ∙ k)))
        (λ k. (free w t (line w t k)).dirty);
    own = own;
  }

  module _ (tag : ℕ) where
    pub own_access : (store : Bool)
        → ((access R p tag store r).answer ≡ (access R p tag store q).answer) × SameUnlocked R p (access R p tag store r).row (access R p tag store q).row
    own_access store = (
      access_answer _ _ laws.isolates few p c tag r q long_r long_q read store,
      made (access R p tag store r).row (access R p tag store q).row
          (λ w t e. access_agrees _ _ laws.isolates few p c tag r q long_r long_q read store w (c.within w t) e)
          (λ w k. (
            access_keeps _ _ laws.isolates few p c tag r long_r store w (c.within w k.in_hit) k.out_fill,
            access_keeps _ _ laws.isolates few p c tag q long_q store w (c.within w k.in_hit) k.out_fill,
          ))
          (λ x t. access_view _ _ laws.isolates few p c tag r q long_r long_q read store x (s.own x t)),
    )

    -- a flush that hits no locked line
    pub own_flush : (is_hit r p.hit tag ≡ true → locked p r (hit_way r p.hit tag) ≡ false)
        → ((flush p tag r).answer ≡ (flush p tag q).answer) × SameUnlocked R p (flush p tag r).row (flush p tag q).row
    own_flush free = (
      flush_answer _ _ laws.isolates few p c tag r q long_r long_q read
          (λ t. s.marks (hit_way r p.hit tag) (hit_own r.tags r.valid p.hit tag t) (free t)),
      made (flush p tag r).row (flush p tag q).row
          (λ w t e. flush_agrees _ _ laws.isolates few p c tag r q long_r long_q read w (c.within w t) e)
          (λ w k. (
            line_match (flush_spares _ _ laws.isolates few p c tag r long_r w (c.within w k.in_hit) (misses w k)),
            line_match (flush_spares _ _ laws.isolates few p c tag q long_q w (c.within w k.in_hit) (misses_too w k)),
          ))
          (λ x t.
          ap (λ (y : ℕ). R.view y x) (flush_word laws.isolates few p c tag r long_r) ∙ s.own x t
          ∙ ap (λ (y : ℕ). R.view y x) (sym (flush_word laws.isolates few p c tag q long_q))),
    )
      where
        misses : (w : ℕ) → IsLocked p r w → is_hit r p.hit tag ≡ true → hit_way r p.hit tag ≡ w → ⊥
        misses w k t e = false≢true (sym (free t) ∙ ap (locked p r) e ∙ is_locked_lem p r w k)

        misses_too : (w : ℕ) → IsLocked p r w → is_hit q p.hit tag ≡ true → hit_way q p.hit tag ≡ w → ⊥
        misses_too w k t e =
            misses w k (LookLaws.hit_same p.hit tag r q (long_r ∙ sym long_q) s.matches ∙ t)
            (LookLaws.way_same p.hit tag r q (long_r ∙ sym long_q) s.matches ∙ e)

  -- rows of which all lines of the domain stay
  pub around : (a b : Row) → ((w : ℕ) → bit p.hit w ≡ true → SameLine a r w) → ((w : ℕ) → bit p.hit w ≡ true → SameLine b q w)
      → SameOwn R p.fill a.word b.word → SameUnlocked R p a b
  around a b left right own =
      made a b
      (λ w t e. record {
        valid = (left w t).valid ∙ e.valid ∙ sym (right w t).valid;
        dirty = (left w t).dirty ∙ e.dirty ∙ sym (right w t).dirty;
        tag = (left w t).tag ∙ e.tag ∙ sym (right w t).tag;
      })
      (λ w k. (line_match (left w k.in_hit), line_match (right w k.in_hit))) own
