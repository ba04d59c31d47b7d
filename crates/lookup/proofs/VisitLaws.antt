-- The ways of the hit map, visited one by one.
use mathlib.Core.Path.{◌≡◌, refl, sym, ap, ◌∙◌}
use mathlib.Core.Bool.{Bool, true, false, not, ◌&&◌, and-true, and-false}
use mathlib.Core.List.{List}
use Prim.Native.Nat.{ℕ, suc, ◌+◌, ◌-◌, ◌^◌, ◌≤◌, ◌<◌}
use native.Mathlib.Nat.{lt_of_le_of_lt}
use native.Mathlib.Omega.{arith}
use lib.Dec.{eqb, leb, ltb}
use lib.Bits.{bit_and, and_le_l}
use lib.ListN.{length, get_or}
use borrow.Author.Tests.{eqb-true, eqb-false, ne_eqb, ltb-true, ltb-false, lt-ltb, leb-true, leb-false, le-leb, lt-leb}
use Rattle.waymap.specs.Bits.{bit, word, lowest, count}
use Rattle.waymap.proofs.Booleans.{cases, and_left, and_right}
use Rattle.waymap.proofs.BitLaws.{bit_none}
use Rattle.waymap.proofs.WordLaws.{bit_high}
use Rattle.waymap.proofs.WayLaws.{lowest_is, lowest_none, count_ext}
use Rattle.waymap.proofs.MapLaws.{cut_bit}
use Rattle.waymap.proofs.LowestLaws.{lowest_in, lowest_least, rest_bit, rest_lt, rest_count}
use Rattle.waymap.proofs.MemberLaws.{count_split, count_same, members_length}
use Rattle.lookup.specs.Lookup.{matches, hit_way, visits, visited}

-- What is left of the hit map as read, `mine`: its ways from some way on. No way below that one is hit.
pub record Left (tags : List ℕ) (valid hit tag mine left : ℕ) : Type 0 where
  pub small : hit < 2 ^ 16
  pub read : (w : ℕ) → bit mine w ≡ (bit hit w && ltb w (length tags))
  pub left_lt : left < 2 ^ 16
  pub from : ℕ
  pub is : (w : ℕ) → bit left w ≡ (bit mine w && leb from w)
  pub none : (w : ℕ) → w < from → matches tags valid hit tag w ≡ false

-- at first all its ways are left
pub left_begin : (tags : List ℕ) (valid hit tag : ℕ) {all : ℕ} → hit < 2 ^ 16 → all ≡ word 16 (λ (w : ℕ). ltb w (length tags))
    → Left tags valid hit tag (bit_and hit all) (bit_and hit all)
left_begin tags valid hit tag {all} h e = record {
  small = h;
  read = λ w. cut_bit 16 (length tags) hit w h e;
  left_lt = lt_of_le_of_lt (and_le_l hit all) h;
  from = 0;
  is = λ w. sym (rw (le-leb 0 w (omega arith)) (and-true (bit (bit_and hit all) w)));
  none = λ w k. absurd (omega arith);
}

module _ {tags : List ℕ} {valid hit tag mine left : ℕ} (l : Left tags valid hit tag mine left) where
  -- of the tags' ways, one that is not left is not hit
  missed : (w : ℕ) → w < length tags → bit left w ≡ false → matches tags valid hit tag w ≡ false
  unfolding matches
  missed w k e = cases (ltb w l.from) (λ t. l.none w (ltb-true w l.from t)) (λ t. rw (unmapped (ltb-false w l.from t)))
    where
      unread : l.from ≤ w → bit mine w ≡ false
      unread h =
          let all : (bit mine w && leb l.from w) ≡ false = sym (l.is w) ∙ e in
          sym (and-true (bit mine w)) ∙ (rw (le-leb l.from w h) at all)

      unmapped : l.from ≤ w → bit hit w ≡ false
      unmapped h =
          let all : (bit hit w && ltb w (length tags)) ≡ false = sym (l.read w) ∙ unread h in
          sym (and-true (bit hit w)) ∙ (rw (lt-ltb w (length tags) k) at all)

  -- and no more are left than there are
  pub left_few : count 16 (bit left) ≤ count 16 (bit mine)
  left_few =
      let kept : count 16 (bit left) ≡ count 16 (λ (w : ℕ). bit mine w && leb l.from w) = count_ext 16 (λ w k. l.is w) in
      omega (arith, kept, count_split 16 (bit mine) (λ (w : ℕ). leb l.from w))

  -- how many ways of the map as read are visited
  visited_is : count 16 (λ (w : ℕ). bit mine w && leb w (hit_way tags valid hit tag)) ≡ visited tags valid hit tag
  unfolding visited visits
  visited_is =
      let h = hit_way tags valid hit tag in
      count_same 16 (length tags) (λ (w : ℕ). bit mine w && leb w h) (λ (w : ℕ). bit hit w && leb w h) (λ w. rw (l.read w)
      (cases (ltb w 16)
      (λ t. rw t (turn (bit hit w) (ltb w (length tags)) (leb w h)))
      (λ t. rw (bit_high 16 hit w l.small (ltb-false w 16 t)))))
      ∙ sym (members_length (length tags) (λ (w : ℕ). bit hit w && leb w h))
    where
      turn : (a b c : Bool) → (a && b && c && true) ≡ (a && c && b)
      turn true true c = refl
      turn true false c = sym (and-false c)
      turn false b c = refl

  -- Where none is left, none is hit, and all are visited.
  pub end_way : left ≡ 0 → length tags ≡ hit_way tags valid hit tag
  unfolding hit_way
  end_way e = sym (lowest_none (length tags) (matches tags valid hit tag) (λ w k. missed w k (rw e (bit_none w))))

  pub end_visited : left ≡ 0 → count 16 (bit mine) ≡ visited tags valid hit tag
  end_visited e = count_ext 16 (λ w k. rw (l.read w) (within w)) ∙ visited_is
    where
      within : (w : ℕ) → (bit hit w && ltb w (length tags)) ≡ (bit hit w && ltb w (length tags) && leb w (hit_way tags valid hit tag))
      within w =
          cases (ltb w (length tags))
          (λ t. rw (t, le-leb w (hit_way tags valid hit tag) (omega (arith, end_way e, ltb-true w (length tags) t))) (sym (and-true (bit hit w && true))))
          (λ t. rw (t, and-false (bit hit w)))

  -- Else the lowest is next.
  module _ {way : ℕ} (some : left ≡ 0 → ⊥) (low : way ≡ lowest 16 (bit left)) where
    next_in : (bit mine way && leb l.from way) ≡ true
    next_in = sym (l.is way) ∙ lowest_in 16 _ _ l.left_lt some low

    from_le : l.from ≤ way
    from_le = leb-true l.from way (and_right (bit mine way) (leb l.from way) next_in)

    next_mapped : (bit hit way && ltb way (length tags)) ≡ true
    next_mapped = sym (l.read way) ∙ and_left (bit mine way) (leb l.from way) next_in

    pub next_lt : way < length tags
    next_lt = ltb-true way (length tags) (and_right (bit hit way) (ltb way (length tags)) next_mapped)

    -- it is hit where it is valid with the tag
    pub next_matches : {at is : Bool} → at ≡ (bit valid way && eqb (get_or tags way 0) tag) → at ≡ is → matches tags valid hit tag way ≡ is
    unfolding matches
    next_matches e t = rw (and_left (bit hit way) (ltb way (length tags)) next_mapped) (sym e ∙ t)

    -- and no lower one is
    below : (w : ℕ) → w < way → matches tags valid hit tag w ≡ false
    below w k = missed w (omega (arith, next_lt)) (lowest_least 16 _ _ l.left_lt some low w k)

    pub next_way : matches tags valid hit tag way ≡ true → way ≡ hit_way tags valid hit tag
    unfolding hit_way
    next_way t = sym (lowest_is (length tags) (matches tags valid hit tag) way next_lt below t)

    -- after it, the ways above it are left
    rest_is : (w : ℕ) → bit (bit_and left (left - 1)) w ≡ (bit mine w && leb (suc way) w)
    rest_is w =
        rest_bit 16 _ _ l.left_lt some low w
        ∙ cases (leb (suc way) w)
        (λ t. let above : suc way ≤ w = leb-true (suc way) w t in
        rw (ne_eqb way w (λ e. omega arith), and-true (bit left w), t, l.is w, le-leb l.from w (omega (arith, from_le))))
        (λ t. let under : w < suc way = leb-false (suc way) w t in
        rw (t, and-false (bit mine w))
        (cases (eqb way w)
        (λ e. rw (e, and-false (bit left w)))
        (λ e. rw (lowest_least 16 _ _ l.left_lt some low w (omega (arith, eqb-false way w e))))))

    pub left_turned : matches tags valid hit tag way ≡ false → Left tags valid hit tag mine (bit_and left (left - 1))
    left_turned miss = record {
      small = l.small;
      read = l.read;
      left_lt = rest_lt 16 l.left_lt some low;
      from = suc way;
      is = rest_is;
      none = λ w k. cases (eqb w way) (λ t. rw (eqb-true w way t) miss) (λ t. below w (omega (arith, eqb-false w way t)));
    }

    pub left_less : count 16 (bit (bit_and left (left - 1))) < count 16 (bit left)
    left_less = omega (arith, rest_count 16 _ _ l.left_lt some low)

    -- those visited, and those that are left, are all
    visited_left : count 16 (bit mine) ≡ count 16 (λ (w : ℕ). bit mine w && leb w way) + count 16 (bit (bit_and left (left - 1)))
    visited_left =
        count_split 16 (bit mine) (λ (w : ℕ). leb w way)
        ∙ ap (λ (k : ℕ). count 16 (λ (w : ℕ). bit mine w && leb w way) + k)
        (count_ext 16 (λ w k. ap (λ (t : Bool). bit mine w && t) (above w) ∙ sym (rest_is w)))
      where
        above : (w : ℕ) → not (leb w way) ≡ leb (suc way) w
        above w =
            cases (leb w way)
            (λ t. rw t (sym (lt-leb (suc way) w (omega (arith, leb-true w way t)))))
            (λ t. rw t (sym (le-leb (suc way) w (leb-false w way t))))

    pub next_visited : matches tags valid hit tag way ≡ true
        → count 16 (bit mine) - count 16 (bit (bit_and left (left - 1))) ≡ visited tags valid hit tag
    next_visited t =
        let here : count 16 (λ (w : ℕ). bit mine w && leb w way) ≡ visited tags valid hit tag =
        ap (λ (h : ℕ). count 16 (λ (w : ℕ). bit mine w && leb w h)) (next_way t) ∙ visited_is in
        omega (arith, visited_left, here)
