-- What a change of policy does to one line: what it cleans, what it leaves alone, and what its drops go by.
use Rattle.std.proofs.Common.{◌≡◌, ℕ, ◌+◌, ◌<◌, ◌≤◌, Bool, true, false, cond, ◌&&◌, length, sym, refl, ◌∙◌, ap₂, true≢false, lt_of_lt_of_le}
use mathlib.Core.Bool.{xor}
use Rattle.waymap.specs.Bits.{Bits, bit, digit}
use Rattle.waymap.proofs.Booleans.{cases}
use Rattle.waymap.proofs.WordLaws.{bit_word_in}
use Rattle.waymap.proofs.WayLaws.{count_ext, count_sum}
use Rattle.replacement.specs.Rule.{Rule}
use Rattle.policy.specs.declared.Maps.{Maps}
use Rattle.row.specs.Row.{Row, lines_in}
use Rattle.row.specs.View.{SameLine}
use Rattle.row.proofs.LineLaws.{line_trans, line_sym}
use Rattle.row.proofs.LinesLaws.{lines_same}
use Rattle.sweep.specs.Clean.{moved, without, dropped, dropped_dirty, cleaned}
use Rattle.sweep.specs.Statements.{CleanGone, CleanLeaves, CleanAgrees, DropsSame, CleanOwn}
use Rattle.sweep.proofs.TagLaws.{wiped_length, wiped_at}

pub without_bit : (gone : Bits) (map v : ℕ) → v < 16 → bit (without gone map) v ≡ cond (gone v) false (bit map v)
unfolding without
without_bit gone map v h = bit_word_in 16 (λ (w : ℕ). cond (gone w) false (bit map w)) v h

-- a way that moves comes out the same whatever was in it; another way stays
pub clean_gone : CleanGone
unfolding cleaned
clean_gone W R few old new r q v h t =
    let low : v < 16 = lt_of_lt_of_le h few in
    record {
      valid = without_bit (moved old new) r.valid v low ∙ rw t (sym (without_bit (moved old new) q.valid v low ∙ rw t));
      dirty = without_bit (moved old new) r.dirty v low ∙ rw t (sym (without_bit (moved old new) q.dirty v low ∙ rw t));
      tag = wiped_at (moved old new) r.tags v ∙ rw t (sym (wiped_at (moved old new) q.tags v ∙ rw t));
    }

pub clean_leaves : CleanLeaves
unfolding cleaned
clean_leaves W R few old new r v h t =
    let low : v < 16 = lt_of_lt_of_le h few in
    record {
      valid = without_bit (moved old new) r.valid v low ∙ rw t;
      dirty = without_bit (moved old new) r.dirty v low ∙ rw t;
      tag = wiped_at (moved old new) r.tags v ∙ rw t;
    }

pub clean_agrees : CleanAgrees
clean_agrees W R few old new r q v h e =
    cases (moved old new v)
    (λ t. clean_gone W R few old new r q v h t)
    (λ t. line_trans (clean_leaves W R few old new r v h t) (line_trans e (line_sym (clean_leaves W R few old new q v h t))))

-- the drops go by the lines in the ways that move
pub drops_same : DropsSame
unfolding dropped lines_in
drops_same W R few old new r q long_r long_q e =
    rw (long_r, long_q)
    (count_ext W (λ w h. cases (moved old new w) (λ t. rw t (e w h t).valid) (λ t. rw t)))

module _ {W : ℕ} (R : Rule) (few : W ≤ 16) (old new : Maps) (r q : Row) (long_r : length r.tags ≡ W) (long_q : length q.tags ≡ W) where
  pub dirty_drops_same : ((v : ℕ) → v < W → moved old new v ≡ true → SameLine r q v) → dropped_dirty old new r ≡ dropped_dirty old new q
  unfolding dropped_dirty
  dirty_drops_same e =
      rw (long_r, long_q)
      (count_ext W (λ w h. cases (moved old new w) (λ t. rw t (ap₂ ◌&&◌ (e w h t).valid (e w h t).dirty)) (λ t. rw t)))

-- ---- a row keeps its length

pub clean_long : (R : Rule) (old new : Maps) (r : Row) → length (cleaned R old new r).tags ≡ length r.tags
unfolding cleaned
clean_long R old new r = wiped_length (moved old new) r.tags

-- ---- the lines in some ways

module _ {W : ℕ} (R : Rule) (few : W ≤ 16) (old new : Maps) (r : Row) (long : length r.tags ≡ W) where
  -- in ways that do not move there are as many as before
  pub clean_lines : (map : Bits) → ((w : ℕ) → w < W → map w ≡ true → moved old new w ≡ false) → lines_in map (cleaned R old new r) ≡ lines_in map r
  clean_lines map apart =
      lines_same map (cleaned R old new r) r (clean_long R old new r)
      (λ w h t. let k : w < W = rw long at h in (clean_leaves W R few old new r w k (apart w k t)).valid)

-- Where the ways that are gained have no line, the lines of the old hit map are those of the new one and those that were dropped.
pub clean_own : CleanOwn
unfolding lines_in dropped cleaned moved xor
clean_own W R few old new r long gained =
    rw (clean_long R old new r, long)
    (count_sum W (λ (w : ℕ). bit new.hit w && bit (cleaned R old new r).valid w) (λ (w : ℕ). moved old new w && bit r.valid w)
    (λ (w : ℕ). bit old.hit w && bit r.valid w)
    (λ w h. each w h))
  where
    -- way by way, by whether the old map has it, the new one has it, and it is valid
    by : (o n v : Bool) → (o ≡ false → n ≡ true → v ≡ false) → digit (n && cond (xor o n) false v) + digit (xor o n && v) ≡ digit (o && v)
    by true true true f = refl
    by true true false f = refl
    by true false true f = refl
    by true false false f = refl
    by false true true f = absurd (true≢false (f refl refl))
    by false true false f = refl
    by false false v f = refl

    each : (w : ℕ) → w < W
        → digit (bit new.hit w && bit (cleaned R old new r).valid w) + digit (moved old new w && bit r.valid w)
        ≡ digit (bit old.hit w && bit r.valid w)
    each w h =
        rw (without_bit (moved old new) r.valid w (lt_of_lt_of_le h few))
        (by (bit old.hit w) (bit new.hit w) (bit r.valid w) (gained w h))
