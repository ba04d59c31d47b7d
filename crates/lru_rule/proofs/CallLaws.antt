-- What the calls write: the words that the loops make are the words of the rule's orders.
use mathlib.Core.Path.{◌≡◌, refl, sym, ap, ap₂, fun_ext, ◌∙◌}
use mathlib.Core.Bool.{Bool, true, false, cond, not, xor}
use mathlib.Core.List.{[], ◌∷◌, ◌++◌, append-nil}
use Prim.Native.Nat.{ℕ, ◌+◌, ◌-◌, ◌^◌, ◌≤◌, ◌<◌}
use native.Mathlib.Omega.{arith}
use lib.Dec.{eqb}
use lib.Bits.{bit_xor, xor_lt}
use lib.ListN.{length}
use borrow.Author.Tests.{eqb-true, eq-eqb, lt-ltb}
use Rattle.waymap.specs.Bits.{Bits, bit, word, digit, reaches}
use Rattle.waymap.specs.Ways.{is_ways, takes}
use Rattle.waymap.proofs.Booleans.{cases, and_left}
use Rattle.waymap.proofs.MapLaws.{reach_below}
use Rattle.waymap.proofs.BitLaws.{bit_xor_lem, bit_not}
use Rattle.waymap.proofs.WordLaws.{from_bits}
use Rattle.waymap.proofs.WordLaws as WordLaws
use Rattle.waymap.proofs.NumberLaws as NumberLaws
use Rattle.lru_rule.specs.Lru.{Order, places, word_of, times, fresh, order, written, kept, others}
use Rattle.lru_rule.specs.Lru.{joined, touched, touch, changes, aged, reset, last, victim, own}
use Rattle.lru_rule.specs.Inside.{rank, lifted}
use Rattle.lru_rule.specs.Calls.{ahead, victim_of, touch_of, change_of, reset_of, own_of}
use Rattle.lru_rule.specs.Statements.{Below, ChangeResets, SameResets}
use Rattle.lru_rule.proofs.OrderLaws.{eqb_sym, times_append, below_head, below_tail, below_kept, each_long, fresh_each}
use Rattle.lru_rule.proofs.BeforeLaws.{not_first}
use Rattle.lru_rule.proofs.LruLaws.{aged_each, touch_outside}
use Rattle.lru_rule.proofs.FallingLaws.{kept_nothing, kept_wider}
use Rattle.lru_rule.proofs.LiftLaws.{rank_lt, lifted_word}
use Rattle.lru_rule.proofs.PlaceLaws.{places_below, places_word, word_lt, order_each, each_sixteen}

-- ---- parts of orders

-- tests that agree below n keep the same ways
kept_ext : (n : ℕ) {p q : Bits} (o : Order) → Below n o → ((w : ℕ) → w < n → p w ≡ q w) → kept p o ≡ kept q o
unfolding kept
kept_ext n [] b e = refl
kept_ext n (v ∷ o) b e = rw (e v (below_head n v o b), kept_ext n o (below_tail n v o b) e)

-- of a way that stands once, that way alone is kept
kept_none : (w : ℕ) (o : Order) → times w o ≡ 0 → kept (eqb w) o ≡ []
unfolding kept times
kept_none w [] e = refl
kept_none w (v ∷ o) e = let other = not_first v w o e in rw (eqb_sym w v, other.0, kept_none w o other.1)

kept_one : (w : ℕ) (o : Order) → times w o ≡ 1 → kept (eqb w) o ≡ w ∷ []
unfolding kept times
kept_one w [] e = absurd (omega arith)
kept_one w (v ∷ o) e =
    let once : digit (eqb v w) + times w o ≡ 1 = e in
    cases (eqb v w)
    (λ t. let rest : digit true + times w o ≡ 1 = rw t at once in
    rw (eqb_sym w v, t, kept_none w o (omega arith)) (ap (λ (i : ℕ). i ∷ []) (eqb-true v w t)))
    (λ t. let rest : digit false + times w o ≡ 1 = rw t at once in
    rw (eqb_sym w v, t, kept_one w o (omega arith)))

-- the ways of a word that are not in a map
other_ways : (W x map : ℕ) → map < 2 ^ 16 → kept (bit (2 ^ 16 - 1 - map)) (places W x) ≡ kept (others (bit map)) (places W x)
other_ways W x map h = kept_ext 16 (places W x) (places_below W x) (λ w k. bit_not 16 map w h ∙ rw (lt-ltb w 16 k))

-- ---- an order put before another is the word of both

ahead_word : (o q : Order) → Below 16 o → Below 16 q → length (o ++ q) ≤ 16 → ahead o (word_of q) ≡ word_of (o ++ q)
unfolding ahead word_of
ahead_word [] q b c h = refl
ahead_word (v ∷ o) q b c h =
    rw (ahead_word o q (below_tail 16 v o b) c (omega arith)) (omega (arith, word_lt 15 (o ++ q) both (omega arith)))
  where
    both : Below 16 (o ++ q)
    both w k = times_append w o q ∙ rw (below_tail 16 v o b w k, c w k)

alone_word : (o : Order) → Below 16 o → length o ≤ 16 → ahead o 0 ≡ word_of o
unfolding word_of times
alone_word o b h = ahead_word o [] b (λ w k. refl) (rw (append-nil o) h) ∙ ap word_of (append-nil o)

kept_short : (p : Bits) (o : Order) → length (kept p o) ≤ length o
unfolding kept
kept_short p [] = omega arith
kept_short p (v ∷ o) = cases (p v) (λ t. rw t (omega (arith, kept_short p o))) (λ t. rw t (omega (arith, kept_short p o)))

-- ---- the words of the rule's orders

module _ (W x : ℕ) (small : W ≤ 16) where
  read : places W (word_of (order W x)) ≡ order W x
  read = places_word W (order W x) (each_sixteen W small (order W x) (order_each W x)) (each_long W (order W x) (order_each W x))

  low : (p : Bits) → Below 16 (kept p (order W x))
  low p = below_kept 16 p (order W x) (each_sixteen W small (order W x) (order_each W x))

  pub victim_word : (m : Bits) → last 0 (kept m (places W (word_of (order W x)))) ≡ victim W m x
  unfolding victim
  victim_word m = ap (λ (o : Order). last 0 (kept m o)) read

  pub own_word : (m : Bits) → ahead (kept m (places W (word_of (order W x)))) 0 ≡ own W m x
  unfolding own
  own_word m =
      ap (λ (o : Order). ahead (kept m o) 0) read
      ∙ alone_word (kept m (order W x)) (low m) (omega (arith, kept_short m (order W x), each_long W (order W x) (order_each W x)))

  -- a way of the cache has a place, and brought to the front from it the order is the touched one
  pub way_rank : (w : ℕ) → w < W → rank w (places W (word_of (order W x))) < W
  way_rank w h =
      let stands : times w (order W x) ≡ 1 = order_each W x w ∙ rw (lt-ltb w W h) in
      rw read (omega (arith, rank_lt w (order W x) (λ z. omega (arith, z, stands)), each_long W (order W x) (order_each W x)))

  pub touched_word : (m : Bits) (w : ℕ) → m w ≡ true → w < W
      → lifted w (rank w (places W (word_of (order W x)))) (word_of (order W x)) ≡ word_of (touched m w (order W x))
  unfolding touched joined word_of
  touched_word m w t h =
      let once : times w (order W x) ≡ 1 = order_each W x w ∙ rw (lt-ltb w W h) in
      ap (λ (o : Order). lifted w (rank w o) (word_of (order W x))) read
      ∙ lifted_word w (order W x) once (each_sixteen W small (order W x) (order_each W x))
      ∙ ap (λ (o : Order). word_of (o ++ kept (others (eqb w)) (order W x))) (sym (kept_one w (order W x) once))
      ∙ rw t

  pub kept_word : (map : ℕ) → map < 2 ^ 16 → kept (bit (2 ^ 16 - 1 - map)) (places W (word_of (order W x))) ≡ kept (others (bit map)) (order W x)
  kept_word map h = other_ways W (word_of (order W x)) map h ∙ ap (kept (others (bit map))) read

  pub aged_word : (moves : Bits) → ((w : ℕ) → W ≤ w → moves w ≡ false)
      → ahead (kept (others moves) (order W x)) (word_of (kept moves (fresh 16))) ≡ word_of (aged W moves (order W x))
  unfolding aged joined
  aged_word moves none =
      ap (λ (q : Order). ahead (kept (others moves) (order W x)) (word_of q)) fewer
      ∙ ahead_word (kept (others moves) (order W x)) (kept (others (others moves)) (fresh W)) (low (others moves)) back
      (omega (arith, each_long W (joined (others moves) (order W x) (fresh W)) (aged_each W moves x)))
    where
      sixteen : Below 16 (fresh W)
      sixteen = each_sixteen W small (fresh W) (fresh_each W)

      fewer : kept moves (fresh 16) ≡ kept (others (others moves)) (fresh W)
      fewer =
          let all : 16 ≡ 16 - W + W = omega arith in
          ap (λ (n : ℕ). kept moves (fresh n)) all ∙ kept_wider moves W (16 - W) none
          ∙ kept_ext 16 (fresh W) sixteen (λ w h. cases (moves w) (λ t. rw t) (λ t. rw t))

      back : Below 16 (kept (others (others moves)) (fresh W))
      back = below_kept 16 (others (others moves)) (fresh W) sixteen

-- ---- maps

-- the ways in exactly one of two maps
moved_is : (old new : ℕ) → bit (bit_xor old new) ≡ changes (bit old) (bit new)
unfolding changes
moved_is old new = fun_ext (λ w. bit_xor_lem old new w)

moved_word : (old new : ℕ) → old < 2 ^ 16 → new < 2 ^ 16 → bit_xor old new ≡ word 16 (changes (bit old) (bit new))
moved_word old new h k = from_bits 16 (xor_lt 16 old new h k) (λ i l. ap (λ (b : Bits). b i) (moved_is old new))

pub change_given : {tail : ℕ} (old new : ℕ) → old < 2 ^ 16 → new < 2 ^ 16 → tail ≡ ahead (kept (bit (bit_xor old new)) (fresh 16)) 0
    → record { ways = bit_xor old new; tail = tail } ≡ change_of old new
unfolding change_of
change_given old new h k e = λ i. record { ways = moved_word old new h k i; tail = (e ∙ is) i }
  where
    is : ahead (kept (bit (bit_xor old new)) (fresh 16)) 0 ≡ word_of (kept (changes (bit old) (bit new)) (fresh 16))
    is =
        ap (λ (b : Bits). ahead (kept b (fresh 16)) 0) (moved_is old new)
        ∙ alone_word (kept (changes (bit old) (bit new)) (fresh 16))
        (below_kept 16 (changes (bit old) (bit new)) (fresh 16) (each_sixteen 16 (omega arith) (fresh 16) (fresh_each 16)))
        (omega (arith, kept_short (changes (bit old) (bit new)) (fresh 16), each_long 16 (fresh 16) (fresh_each 16)))

-- ---- a call within the limits gives what the rule gives

module _ (W x map : ℕ) (t : takes W map ≡ true) where
  abbrev small : W ≤ 16
  small = (NumberLaws.takes_sized W map t).most

  pub victim_given : {r way : ℕ} → r ≡ word_of (order W x) → way ≡ last 0 (kept (bit map) (places W r)) → way ≡ victim_of W x map
  unfolding victim_of
  victim_given e f = rw t (f ∙ ap (λ (n : ℕ). last 0 (kept (bit map) (places W n))) e ∙ victim_word W x small (bit map))

  pub own_given : {r y : ℕ} → r ≡ word_of (order W x) → y ≡ ahead (kept (bit map) (places W r)) 0 → y ≡ own_of W x map
  unfolding own_of
  own_given e f = rw t (f ∙ ap (λ (n : ℕ). ahead (kept (bit map) (places W n)) 0) e ∙ own_word W x small (bit map))

  pub rank_given : (w : ℕ) {r : ℕ} → w < W → r ≡ word_of (order W x) → rank w (places W r) < W
  rank_given w h e = rw e (way_rank W x small w h)

  -- a touch outside the map, and inside
  pub untouched : (w : ℕ) → bit map w ≡ false → x ≡ touch_of W x map w
  unfolding touch_of
  untouched w e = rw t (sym (touch_outside W (bit map) w x e))

  pub touch_given : (w : ℕ) {r n y : ℕ} → map < 2 ^ 16 → bit map w ≡ true → r ≡ word_of (order W x)
      → n ≡ lifted w (rank w (places W r)) r → y ≡ cond (eqb n r) x n → y ≡ touch_of W x map w
  unfolding touch_of touch written
  touch_given w {r} {n} h e is f g =
      rw t (g ∙ ap₂ (λ (a b : ℕ). cond (eqb a b) x a) next is)
    where
      next : n ≡ word_of (touched (bit map) w (order W x))
      next = f ∙ ap (λ (k : ℕ). lifted w (rank w (places W k)) k) is ∙ touched_word W x small (bit map) w e (NumberLaws.takes_way W map t h w e)

  pub reset_given : (tail : ℕ) {r n y : ℕ} → map < 2 ^ 16 → r ≡ word_of (order W x) → n ≡ ahead (kept (bit (2 ^ 16 - 1 - map)) (places W r)) tail
      → y ≡ cond (eqb n r) x n → y ≡ reset_of W x (record { ways = map; tail = tail })
  unfolding reset_of
  reset_given tail {r} {n} h is f g =
      rw t (g ∙ ap₂ (λ (a b : ℕ). cond (eqb a b) x a) next is)
    where
      next : n ≡ ahead (kept (others (bit map)) (order W x)) tail
      next =
          f ∙ ap (λ (k : ℕ). ahead (kept (bit (2 ^ 16 - 1 - map)) (places W k)) tail) is
          ∙ ap (λ (o : Order). ahead o tail) (kept_word W x small map h)

-- ---- the two calls together are the rule's change of fill map

module _ (W old new : ℕ) (s : takes W old ≡ true) (t : takes W new ≡ true) (h : old < 2 ^ 16) (k : new < 2 ^ 16) where
  both : bit_xor old new < 2 ^ W
  both = xor_lt W old new (NumberLaws.takes_below W old s h) (NumberLaws.takes_below W new t k)

  change_takes : takes W (bit_xor old new) ≡ true
  unfolding takes
  change_takes = NumberLaws.takes_both W (bit_xor old new) (and_left (is_ways W) (not (reaches W old)) s) (reach_below W (bit_xor old new) both)

pub change_resets : ChangeResets
unfolding reset_of change_of reset written
change_resets W old new s t h k x =
    rw (← (moved_word old new h k), change_takes W old new s t h k) (ap (λ (n : ℕ). cond (eqb n (word_of (order W x))) x n) next)
  where
    moves : Bits
    moves = changes (bit old) (bit new)

    next : ahead (kept (others (bit (bit_xor old new))) (order W x)) (word_of (kept moves (fresh 16))) ≡ word_of (aged W moves (order W x))
    next =
        ap (λ (b : Bits). ahead (kept (others b) (order W x)) (word_of (kept moves (fresh 16)))) (moved_is old new)
        ∙ aged_word W x (NumberLaws.takes_sized W old s).most moves
        (λ w l. ap (λ (b : Bits). b w) (sym (moved_is old new)) ∙ WordLaws.bit_high W (bit_xor old new) w (both W old new s t h k) l)

-- a change that keeps the fill map leaves every word
kept_all : {p : Bits} (o : Order) → ((w : ℕ) → p w ≡ true) → kept p o ≡ o
unfolding kept
kept_all [] e = refl
kept_all (v ∷ o) e = rw (e v, kept_all o e)

pub same_resets : SameResets
unfolding reset changes aged joined written xor
same_resets W x m = rw (stays, eq-eqb (word_of (order W x)) (word_of (order W x)) refl)
  where
    none : (b : Bool) → xor b b ≡ false
    none true = refl
    none false = refl

    moves : Bits
    moves w = xor (m w) (m w)

    stays : kept (others moves) (order W x) ++ kept (others (others moves)) (fresh W) ≡ order W x
    stays =
        ap₂ (λ (o q : Order). o ++ q) (kept_all (order W x) (λ w. ap not (none (m w))))
        (kept_nothing (others (others moves)) W (λ w h. ap (λ (b : Bool). not (not b)) (none (m w))))
        ∙ append-nil (order W x)
