-- What the chosen domain sees at the end is what the theorem `isolation` compares.
use mathlib.Core.Path.{◌≡◌, refl, sym, ap, ap₂, subst, ◌∙◌}
use mathlib.Core.Bool.{Bool, true, cond, ◌&&◌, true≢false}
use mathlib.Core.List.{List, [], ◌∷◌}
use Prim.Native.Nat.{ℕ, zero, suc, ◌+◌, ◌*◌, ◌<◌}
use native.Mathlib.Omega.{arith}
use lib.Dec.{eqb, ltb}
use lib.ListN.{get_or, drop}
use lib.Seq.{get_or-drop, get_or-take}
use borrow.Author.Tests.{eq-eqb, eqb-true, lt-ltb}
use Rattle.waymap.specs.Bits.{bit}
use Rattle.waymap.specs.Bits as Bits
use Rattle.waymap.specs.Ways.{Sized}
use Rattle.waymap.proofs.Booleans.{cases, and_left, and_right}
use Rattle.waymap.proofs.BitLaws.{digit_at}
use Rattle.replacement.specs.Rule.{rule_of, bit64}
use Rattle.replacement.specs.Isolates.{SameOwn}
use Rattle.policy.specs.declared.Maps.{Maps}
use Rattle.policy.specs.Policy.{Cut}
use Rattle.domains.specs.Domains.{domain_of, maps_of, policies}
use Rattle.geometry.specs.Geometry.{within}
use Rattle.geometry.specs.declared.Geometry.{Geometry}
use Rattle.steps.specs.Tables.{Tables, row_at}
use Rattle.steps.specs.Step.{State}
use Rattle.steps.specs.Statements.{Kept}
use Rattle.isolation.specs.StruckOut.{SameTo}
use Rattle.reached.proofs.SeparateLaws.{policy_cut}
use Rattle.demand.specs.Free.{digit, is_free}
use Rattle.demand.specs.Order.{is_order, place_of}
use Rattle.demand.specs.Demand.{domain_at, each, lines, is_own, bits, is_pair, pairs, WellFormed}
use Rattle.demand.proofs.FreeLaws.{free_is}
use Rattle.demand.proofs.OrderLaws.{before_is}

-- ---- numbers, lists and bits

pub each_ext : {A : Type 0} (n : ℕ) (f g : ℕ → A) → ((i : ℕ) → i < n → f i ≡ g i) → each n f ≡ each n g
unfolding each
each_ext zero f g e = refl
each_ext (suc n) f g e = ap₂ ◌∷◌ (e 0 (omega arith)) (each_ext n (λ (i : ℕ). f (suc i)) (λ (i : ℕ). g (suc i)) (λ i h. e (suc i) (omega arith)))

-- a digit is 1 where the bit is set, and bits that are the same are the same digits
one_bit : (x i : ℕ) → eqb (digit x i) 1 ≡ bit x i
unfolding digit bit
one_bit x i = refl

same_digit : (x y i : ℕ) → bit x i ≡ bit y i → digit x i ≡ digit y i
unfolding digit
same_digit x y i e = digit_at x i ∙ ap Bits.digit e ∙ sym (digit_at y i)

-- the tag of way w in a set's row stands at place s × W + w
tag_at : (W s w : ℕ) (t : Tables) → w < W → get_or (row_at W s t).tags w 0 ≡ get_or t.tags (s * W + w) 0
unfolding row_at
tag_at W s w t h = get_or-take W (drop (s * W) t.tags) w 0 h ∙ get_or-drop (s * W) t.tags w 0

-- ---- own replacement bits

own_digit : (rule W : ℕ) → rule < 3 → Sized W → (fill x y i : ℕ) → i < W → SameOwn (rule_of rule W) fill x y
    → cond (eqb rule 1) (eqb (digit fill i) 1) (eqb rule 0 && is_free W fill i) ≡ true → digit x i ≡ digit y i
unfolding bit64
own_digit zero W h z fill x y i k same e =
    let seen = same i (sym (free_is W z fill i) ∙ e) in
    same_digit x y i (rw (lt-ltb i 64 (omega (arith, z.most))) at seen)
own_digit (suc zero) W h z fill x y i k same e =
    let seen = same i (sym (one_bit fill i) ∙ e) in
    same_digit x y i (rw (lt-ltb i 64 (omega (arith, z.most))) at seen)
own_digit (suc (suc zero)) W h z fill x y i k same e = absurd (true≢false (sym e))
own_digit (suc (suc (suc r))) W h z fill x y i k same e = absurd (omega arith)

-- ---- the relative order of fill ways

own_pair : (rule W fill x y v w : ℕ) → v < W → w < W → SameOwn (rule_of rule W) fill x y
    → (eqb rule 2 && (eqb (digit fill v) 1 && eqb (digit fill w) 1)) ≡ true
    → ltb (place_of W x v) (place_of W x w) ≡ ltb (place_of W y v) (place_of W y w)
own_pair rule W fill x y v w h k same e =
    let two : rule ≡ 2 = eqb-true rule 2 (and_left (eqb rule 2) (eqb (digit fill v) 1 && eqb (digit fill w) 1) e) in
    let both = ap₂ ◌&&◌ (sym (one_bit fill v)) (sym (one_bit fill w)) ∙ and_right (eqb rule 2) (eqb (digit fill v) 1 && eqb (digit fill w) 1) e in
    before_is W x v w h k ∙ subst (λ (r : ℕ). SameOwn (rule_of r W) fill x y) two same (v, w) both ∙ sym (before_is W y v w h k)

-- ---- two ends

module _ (g : Geometry) (limits : within g ≡ true) (d : ℕ) where
  -- a run's stored maps are as they are read
  stored : (s : State) → Kept g limits s → policies g.ways s.domains d ≡ maps_of (domain_at d s)
  unfolding policies domain_at domain_of
  stored s kept = kept.as_stored d

  module _ (a b : State) (kept : Kept g limits a) (same : SameTo g d a b) where
    pub domain_same : domain_at d a ≡ domain_at d b
    unfolding domain_at domain_of
    domain_same = same.domain

    -- one way of one set
    line_same : (s w : ℕ) → s < g.sets → w < g.ways → eqb (digit (domain_at d a).hit w) 1 ≡ true
        → ◌≡◌ {A = List ℕ}
        (digit (get_or a.tables.valid s 0) w ∷ digit (get_or a.tables.dirty s 0) w ∷ get_or a.tables.tags (s * g.ways + w) 0 ∷ [])
        (digit (get_or b.tables.valid s 0) w ∷ digit (get_or b.tables.dirty s 0) w ∷ get_or b.tables.tags (s * g.ways + w) 0 ∷ [])
    unfolding row_at
    line_same s w h k e =
        let mine : bit (policies g.ways a.domains d).hit w ≡ true =
        ap (λ (m : Maps). bit m.hit w) (stored a kept) ∙ sym (one_bit (domain_at d a).hit w) ∙ e in
        let line = (same.sets s h).lines w mine in
        λ i. same_digit (get_or a.tables.valid s 0) (get_or b.tables.valid s 0) w line.valid i
        ∷ same_digit (get_or a.tables.dirty s 0) (get_or b.tables.dirty s 0) w line.dirty i
        ∷ (sym (tag_at g.ways s w a.tables k) ∙ line.tag ∙ tag_at g.ways s w b.tables k) i ∷ []

    pub lines_same : lines g d a ≡ lines g d b
    unfolding lines
    lines_same =
        rw (← domain_same)
        (each_ext g.sets _ _ (λ s h.
        each_ext g.ways _ _ (λ w k.
        cases (eqb (digit (domain_at d a).hit w) 1) (λ t. rw t (line_same s w h k t)) (λ t. rw t))))

    bit_same : Sized g.ways → g.rule < 3 → (s i : ℕ) → s < g.sets → i < g.ways → is_own g (domain_at d a).fill i ≡ true
        → digit (get_or a.tables.words s 0) i ≡ digit (get_or b.tables.words s 0) i
    unfolding row_at is_own
    bit_same z r s i h k e =
        own_digit g.rule g.ways r z (domain_at d a).fill (get_or a.tables.words s 0) (get_or b.tables.words s 0) i k
        (rw (stored a kept) at (same.sets s h).own) e

    pub bits_same : Sized g.ways → g.rule < 3 → bits g d a ≡ bits g d b
    unfolding bits
    bits_same z r =
        rw (← domain_same)
        (each_ext g.sets _ _ (λ s h.
        each_ext g.ways _ _ (λ i k.
        cases (is_own g (domain_at d a).fill i) (λ t. rw t (ap (λ (n : ℕ). n ∷ []) (bit_same z r s i h k t))) (λ t. rw t))))

    pair_same : (s v w : ℕ) → s < g.sets → v < g.ways → w < g.ways → is_pair g (domain_at d a).fill v w ≡ true
        → ltb (place_of g.ways (get_or a.tables.words s 0) v) (place_of g.ways (get_or a.tables.words s 0) w)
        ≡ ltb (place_of g.ways (get_or b.tables.words s 0) v) (place_of g.ways (get_or b.tables.words s 0) w)
    unfolding row_at is_pair
    pair_same s v w h k l e =
        own_pair g.rule g.ways (domain_at d a).fill (get_or a.tables.words s 0) (get_or b.tables.words s 0) v w k l
        (rw (stored a kept) at (same.sets s h).own) e

    pub pairs_same : pairs g d a ≡ pairs g d b
    unfolding pairs
    pairs_same =
        rw (← domain_same)
        (each_ext g.sets _ _ (λ s h.
        each_ext g.ways _ _ (λ v k.
        each_ext g.ways _ _ (λ w l.
        cases (is_pair g (domain_at d a).fill v w) (λ t. rw t (ap (λ (b : Bool). b ∷ []) (pair_same s v w h k l t))) (λ t. rw t)))))

  -- ---- what is compared is there

  pub is_well_formed : (s : State) → Kept g limits s
      → (g.rule ≡ 2 → (i : ℕ) → i < g.sets → is_order g.ways (get_or s.tables.words i 0) ≡ true) → WellFormed g d s
  is_well_formed s kept hold = record {
    tags_long = kept.whole.shaped.tags_long;
    valid_long = kept.whole.shaped.valid_long;
    dirty_long = kept.whole.shaped.dirty_long;
    words_long = kept.whole.shaped.words_long;
    sixteen = kept.whole.sixteen;
    hit_within = λ w e. cut.within w (set_at (domain_at d s).hit w e);
    fill_part = λ w e. digit_one (domain_at d s).hit w (cut.part w (set_at (domain_at d s).fill w e));
    orders = hold;
  }
    where
      cut : Cut g.ways (maps_of (domain_at d s))
      cut = rw (stored s kept) at (policy_cut g.ways s.domains d)

      set_at : (x w : ℕ) → digit x w ≡ 1 → bit x w ≡ true
      set_at x w e = sym (one_bit x w) ∙ eq-eqb (digit x w) 1 e

      digit_one : (x w : ℕ) → bit x w ≡ true → digit x w ≡ 1
      digit_one x w e = eqb-true (digit x w) 1 (one_bit x w ∙ e)
