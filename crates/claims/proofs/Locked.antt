-- Locked lines, point by point, and back.
use mathlib.Core.Path.{◌≡◌, refl, sym, ap}
use mathlib.Core.Bool.{Bool, true, false, not, ◌&&◌}
use mathlib.Core.List.{List, [], ◌∷◌}
use Prim.Native.Nat.{ℕ}
use lib.Dec.{eqb}
use lib.ListN.{get_or}
use borrow.Author.Tests.{eqb-true, eq-eqb}
use Rattle.waymap.specs.Bits.{bit}
use Rattle.waymap.proofs.Booleans.{and_left, and_right}
use Rattle.command.specs.Command.{Command}
use Rattle.policy.specs.declared.Maps.{Maps}
use Rattle.row.specs.Row.{Row}
use Rattle.domains.specs.Domains.{policies}
use Rattle.geometry.specs.Address.{set_of, tag_of}
use Rattle.geometry.specs.declared.Geometry.{Geometry}
use Rattle.steps.specs.Tables.{row_at}
use Rattle.steps.specs.Step.{State}
use Rattle.steps.specs.Run.{answers_of, finally}
use Rattle.steps.specs.Fresh.{fresh}
use Rattle.purge.specs.Purge.{belongs}
use Rattle.isolation.specs.StruckOut.{answers_to, own_answers, number_of}
use Rattle.locking.specs.Once.{NoLineTwice}
use Rattle.locking.specs.Locked.{locked, locked_in, is_locked, same_line}
use Rattle.locking.specs.Locking.{changes, flushes, accesses, Answered, Stands, Unspent, Unsteered, LockedLines}
use Rattle.locking.proofs.Locking.{locking}
use Rattle.locking.proofs.OnceLaws.{once}
use Rattle.claims.specs.Points.{EachAnswer}
use Rattle.claims.specs.Locked.{Lock, Leaves, NoSeven, Unmoved, Locks, Locking, Twice}
use Rattle.claims.proofs.Points.{each_answer, all_answered}

-- ---- a locked line

not_true : (b : Bool) → not b ≡ true → b ≡ false
not_true true e = sym e
not_true false e = refl

module _ (g : Geometry) (d : ℕ) (s : State) (address w : ℕ) where
  abbrev p : Maps
  p = policies g.ways s.domains d

  abbrev r : Row
  r = row_at g.ways (set_of g address) s.tables

  lock : locked_in g d s address w ≡ true → Lock g d s address w
  unfolding locked_in locked
  lock t =
      let is = and_left (bit p.hit w && not (bit p.fill w) && bit r.valid w) (eqb (get_or r.tags w 0) (tag_of g address)) t in
      let maps = and_left (bit p.hit w && not (bit p.fill w)) (bit r.valid w) is in
      record {
        hit = and_left (bit p.hit w) (not (bit p.fill w)) maps;
        fill = not_true (bit p.fill w) (and_right (bit p.hit w) (not (bit p.fill w)) maps);
        valid = and_right (bit p.hit w && not (bit p.fill w)) (bit r.valid w) is;
        tag = eqb-true (get_or r.tags w 0) (tag_of g address)
            (and_right (bit p.hit w && not (bit p.fill w) && bit r.valid w) (eqb (get_or r.tags w 0) (tag_of g address)) t);
      }

  locked_in_lem : Lock g d s address w → locked_in g d s address w ≡ true
  unfolding locked_in locked
  locked_in_lem l = rw (l.hit, l.fill, l.valid, eq-eqb (get_or r.tags w 0) (tag_of g address) l.tag)

-- ---- what the list leaves alone

module _ (g : Geometry) (d : ℕ) (cs : List Command) (s : State) where
  abbrev unaccepted : List ℕ → Type 0
  unaccepted a = number_of a ≡ 0 → ⊥

  abbrev not_seven : List ℕ → Type 0
  not_seven a = number_of a ≡ 7 → ⊥

  stands : (at : ℕ → Bool) → Leaves g d at cs s → Stands g d at cs s
  stands at l = record {
    unchanged = all_answered g (changes d) unaccepted cs s l.no_change;
    unflushed = all_answered g (flushes d at) unaccepted cs s l.no_flush;
  }

  leaves : (at : ℕ → Bool) → Stands g d at cs s → Leaves g d at cs s
  leaves at l = record {
    no_change = each_answer g (changes d) unaccepted cs s l.unchanged;
    no_flush = each_answer g (flushes d at) unaccepted cs s l.unflushed;
  }

  unspent : NoSeven g d cs s → Unspent g d cs s
  unspent = all_answered g (belongs d) not_seven cs s

  no_seven : Unspent g d cs s → NoSeven g d cs s
  no_seven = each_answer g (belongs d) not_seven cs s

  -- ---- what the accesses do not move

  unmoved : Unsteered g d cs s → Unmoved g d cs s
  unfolding own_answers
  unmoved u =
      let c = u.counts_same in
      record {
        answers = cc u.answers_same;
        hit_map = cc (ap (λ (m : Maps). m.hit) u.maps_same);
        fill_map = cc (ap (λ (m : Maps). m.fill) u.maps_same);
        hits = cc c.hits;
        misses = cc c.misses;
        evicted = cc c.evicted;
        written = cc c.written;
        flushed = cc c.flushed;
        fills = cc c.fills;
        dropped = cc c.dropped;
        valid = λ i w h t. cc ((u.sets_same i h).matches w t).valid;
        tags = λ i w h t. cc ((u.sets_same i h).matches w t).tag;
        dirty = λ i w h t n. cc ((u.sets_same i h).marks w t n);
        cells = λ i h x t. cc ((u.sets_same i h).own x t);
      }

  unsteered : Unmoved g d cs s → Unsteered g d cs s
  unfolding own_answers
  unsteered u = record {
    answers_same = u.answers;
    maps_same = λ i. record { hit = u.hit_map i; fill = u.fill_map i };
    counts_same = record {
      hits = u.hits;
      misses = u.misses;
      evicted = u.evicted;
      written = u.written;
      flushed = u.flushed;
      fills = u.fills;
      dropped = u.dropped;
    };
    sets_same = λ i h. record {
      matches = λ w t. record { valid = u.valid i w h t; tag = u.tags i w h t };
      marks = λ w t n. u.dirty i w h t n;
      own = u.cells i h;
    };
  }

-- ---- the theorem, and back

pub locks : LockedLines → Locking
locks claim g limits d low past cs =
    let s = finally g past (fresh g) in
    let one = claim g limits d low past cs in
    record {
      stays = λ address w l k.
          let then = lock g d (finally g cs s) address w (one.stays address w (locked_in_lem g d s address w l) (stands g d cs s (same_line address) k)) in
          record { hit = cc (l.hit, then.hit); fill = cc (l.fill, then.fill); valid = cc (l.valid, then.valid); tag = cc (l.tag, then.tag) };
      hit = λ address w l k n xs ys c e t.
          cc (each_answer g (accesses d (same_line address)) (λ (a : List ℕ). a ≡ 0 ∷ w ∷ []) cs s
          (one.hits address w (locked_in_lem g d s address w l) (stands g d cs s (same_line address) k) (unspent g d cs s n)) xs ys c e t);
      unmoved = λ k n. unmoved g d cs s (one.unsteered (stands g d cs s (is_locked g d s) k) (unspent g d cs s n));
    }

pub locks_back : Locking → LockedLines
locks_back said g limits d low past cs =
    let s = finally g past (fresh g) in
    let one = said g limits d low past cs in
    record {
      stays = λ address w t k.
          locked_in_lem g d (finally g cs s) address w (one.stays address w (lock g d s address w t) (leaves g d cs s (same_line address) k));
      hits = λ address w t k n.
          all_answered g (accesses d (same_line address)) (λ (a : List ℕ). a ≡ 0 ∷ w ∷ []) cs s
          (one.hit address w (lock g d s address w t) (leaves g d cs s (same_line address) k) (no_seven g d cs s n));
      unsteered = λ k n. unsteered g d cs s (one.unmoved (leaves g d cs s (is_locked g d s) k) (no_seven g d cs s n));
    }

pub locking_holds : Locking
locking_holds = locks locking

-- ---- no line twice

pub twice : NoLineTwice → Twice
twice claim g limits cs d i tag v w low h a b c x y z =
    claim g limits cs d i low h tag v w (record { in_map = a; is_valid = b; has_tag = c }) (record { in_map = x; is_valid = y; has_tag = z })

pub twice_back : Twice → NoLineTwice
twice_back said g limits cs d i low h tag v w p q =
    said g limits cs d i tag v w low h p.in_map p.is_valid p.has_tag q.in_map q.is_valid q.has_tag

pub once_holds : Twice
once_holds = twice once
