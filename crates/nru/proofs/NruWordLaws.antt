-- NRU on 64-bit words, and why the number of ways does not matter to it.
use mathlib.Core.Path.{◌≡◌, refl, sym, ap, ap₂, ◌∙◌}
use mathlib.Core.Bool.{Bool, true, false, cond, not, ◌&&◌, ◌||◌, and-true, and-false, and_comm, or_comm}
use Prim.Native.Nat.{ℕ, ◌-◌, ◌%◌, ◌^◌, ◌≤◌, ◌<◌}
use native.Mathlib.Nat.{lt_of_le_of_lt, lt_of_lt_of_le}
use native.Mathlib.Omega.{arith}
use lib.Dec.{eqb, ltb, lit≤}
use lib.Bits.{bit_and, bit_or, bit_xor, and_le_l, or_lt, xor_lt}
use borrow.Author.Tests.{eqb-true, ne_eqb, ltb-true, ltb-false, lt-ltb}
use Rattle.waymap.specs.Bits.{Bits, bit, word, any}
use Rattle.waymap.specs.Encoder.{encode}
use Rattle.waymap.proofs.Booleans.{cases, cleared, raised}
use Rattle.waymap.proofs.BitLaws.{bit_and_lem, bit_or_lem, bit_xor_lem, bit_not, bit_mod}
use Rattle.waymap.proofs.WordLaws.{word_lt, bit_word, word_ext, from_bits, bit_high}
use Rattle.waymap.proofs.WayLaws.{any_ext, any_bits, any_wider}
use Rattle.waymap.proofs.EncoderLaws.{encode_ext, encode_wider}
use Rattle.nru.specs.Nru.{before, victim, touch, changes, reset, fresh, own}
use Rattle.nru.specs.Calls.{victim_of, touch_of, change_of, reset_of, fresh_of, own_of}
use Rattle.nru.specs.Statements.{ChangeResets}

-- ---- the victim

-- the ways of the map whose bit is one
pub ones_bit : (map x i : ℕ) → i < 16 → bit (bit_and map (x % 65536)) i ≡ (bit map i && bit x i)
ones_bit map x i h = bit_and_lem map (x % 65536) i ∙ ap (λ (t : Bool). bit map i && t) (bit_mod x 16 i ∙ rw (lt-ltb i 16 h) (and-true (bit x i)))

ones_any : (map x : ℕ) → map < 2 ^ 16 → any 16 (λ (v : ℕ). bit map v && bit x v) ≡ not (eqb (bit_and map (x % 65536)) 0)
ones_any map x h =
    any_ext 16 (λ i k. sym (ones_bit map x i k)) ∙ any_bits 16 (bit_and map (x % 65536)) (lt_of_le_of_lt (and_le_l map (x % 65536)) h)

absorb : (a b : Bool) → (a && (a || b)) ≡ a
absorb true b = refl
absorb false b = refl

-- one of them is there
pub some_way : (map x : ℕ) → map < 2 ^ 16 → (bit_and map (x % 65536) ≡ 0 → ⊥)
    → encode 16 (bit (bit_and map (x % 65536))) ≡ victim 16 (bit map) (bit x)
unfolding victim before
some_way map x h e =
    encode_ext 16 _ _ (λ i k. ones_bit map x i k ∙ rw (ones_any map x h ∙ ap not (ne_eqb (bit_and map (x % 65536)) 0 e)))

pub some_word : (map x : ℕ) → map < 2 ^ 16 → x < 2 ^ 64 → (bit_and map (x % 65536) ≡ 0 → ⊥) → x ≡ word 64 (before 16 (bit map) (bit x))
unfolding before
some_word map x h k e = from_bits 64 k (λ i l. rw (ones_any map x h ∙ ap not (ne_eqb (bit_and map (x % 65536)) 0 e)))

-- none is there
pub no_way : (map x : ℕ) → map < 2 ^ 16 → bit_and map (x % 65536) ≡ 0 → encode 16 (bit map) ≡ victim 16 (bit map) (bit x)
unfolding victim before
no_way map x h e =
    encode_ext 16 _ _ (λ i k. rw (ones_any map x h ∙ ap (λ (n : ℕ). not (eqb n 0)) e) (sym (absorb (bit map i) (bit x i))))

pub no_word : (map x : ℕ) → map < 2 ^ 16 → x < 2 ^ 64 → bit_and map (x % 65536) ≡ 0 → bit_or x map ≡ word 64 (before 16 (bit map) (bit x))
unfolding before
no_word map x h k e =
    from_bits 64 (or_lt 64 x map k (lt_of_lt_of_le h (lit≤ tt)))
    (λ i l. rw (ones_any map x h ∙ ap (λ (n : ℕ). not (eqb n 0)) e) (bit_or_lem x map i ∙ or_comm (bit x i) (bit map i)))

-- the choice: `w` is what the encoder gives of the ways that the call looks at
module _ (map x : ℕ) (h : map < 2 ^ 16) (k : x < 2 ^ 64) where
  chosen : {w y : ℕ} → w ≡ victim 16 (bit map) (bit x) → y ≡ word 64 (before 16 (bit map) (bit x)) → record { way = w; word = y } ≡ victim_of x map
  unfolding victim_of
  chosen e f = ap₂ (λ (v z : ℕ). record { way = v; word = z }) e f

  pub some_chosen : {w : ℕ} → (bit_and map (x % 65536) ≡ 0 → ⊥) → w ≡ encode 16 (bit (bit_and map (x % 65536)))
      → record { way = w; word = x } ≡ victim_of x map
  some_chosen e is = chosen (is ∙ some_way map x h e) (some_word map x h k e)

  pub none_chosen : {w : ℕ} → bit_and map (x % 65536) ≡ 0 → w ≡ encode 16 (bit map) → record { way = w; word = bit_or x map } ≡ victim_of x map
  none_chosen e is = chosen (is ∙ no_way map x h e) (no_word map x h k e)

-- ---- the number of ways

module _ (W map x : ℕ) (small : W ≤ 16) (h : map < 2 ^ W) where
  outside : (p : Bits) (i : ℕ) → W ≤ i → (bit map i && p i) ≡ false
  outside p i k = rw (bit_high W map i h k)

  found_width : any 16 (λ (v : ℕ). bit map v && bit x v) ≡ any W (λ (v : ℕ). bit map v && bit x v)
  found_width = any_wider W 16 (λ (v : ℕ). bit map v && bit x v) small (outside (bit x))

  before_width : (i : ℕ) → before 16 (bit map) (bit x) i ≡ before W (bit map) (bit x) i
  unfolding before
  before_width i = ap (λ (t : Bool). cond t (bit x i) (bit map i || bit x i)) found_width

  -- of a map of W ways the call gives what the rule gives with W ways
  pub choice_width : victim_of x map ≡ record { way = victim W (bit map) (bit x); word = word 64 (before W (bit map) (bit x)) }
  unfolding victim_of victim
  choice_width = ap₂ (λ (w y : ℕ). record { way = w; word = y }) way_is (word_ext 64 (λ i l. before_width i))
    where
      way_is : victim 16 (bit map) (bit x) ≡ victim W (bit map) (bit x)
      way_is =
          encode_ext 16 _ _ (λ i k. ap (λ (t : Bool). bit map i && t) (before_width i))
          ∙ encode_wider W 16 (λ (w : ℕ). bit map w && before W (bit map) (bit x) w) small (outside (before W (bit map) (bit x)))

-- ---- touch, change of fill map, fresh

-- the map of the touched way, if the map has it
touched_bit : (map way i : ℕ) → map < 2 ^ 16 → bit (bit_and map (word 16 (λ (w : ℕ). eqb way w))) i ≡ (bit map way && eqb way i)
touched_bit map way i h =
    bit_and_lem map (word 16 (λ (w : ℕ). eqb way w)) i ∙ ap (λ (t : Bool). bit map i && t) (bit_word 16 (λ (w : ℕ). eqb way w) i)
    ∙ cases (eqb way i)
    (λ t. rw (t, eqb-true way i t)
    (cases (ltb i 16) (λ u. rw u) (λ u. rw (bit_high 16 map i h (ltb-false i 16 u)))))
    (λ t. rw (t, and-false (ltb i 16), and-false (bit map i), and-false (bit map way)))

pub touch_word : (map way x : ℕ) {one : ℕ} → map < 2 ^ 16 → x < 2 ^ 64 → one ≡ word 16 (λ (w : ℕ). eqb way w)
    → bit_and x (2 ^ 64 - 1 - bit_and map one) ≡ touch_of x map way
unfolding touch_of touch
touch_word map way x {one} h k e =
    from_bits 64 (lt_of_le_of_lt (and_le_l x (2 ^ 64 - 1 - bit_and map one)) k)
    (λ i l.
    bit_and_lem x (2 ^ 64 - 1 - bit_and map one) i
    ∙ ap (λ (t : Bool). bit x i && t)
    (bit_not 64 (bit_and map one) i (lt_of_le_of_lt (and_le_l map one) (lt_of_lt_of_le h (lit≤ tt)))
    ∙ rw (lt-ltb i 64 l, e, touched_bit map way i h))
    ∙ cleared (bit map way && eqb way i) (bit x i))

-- the ways in exactly one of two maps
pub change_word : (old new : ℕ) → old < 2 ^ 16 → new < 2 ^ 16 → bit_xor old new ≡ change_of old new
unfolding change_of changes
change_word old new h k = from_bits 16 (xor_lt 16 old new h k) (λ i l. bit_xor_lem old new i)

pub reset_word : (x ways : ℕ) → x < 2 ^ 64 → ways < 2 ^ 64 → bit_or x ways ≡ reset_of x ways
unfolding reset_of
reset_word x ways h k = from_bits 64 (or_lt 64 x ways h k) (λ i l. bit_or_lem x ways i ∙ raised (bit ways i) (bit x i))

-- the two calls together are the rule's change of fill map
pub change_resets : ChangeResets
unfolding reset_of reset changes
change_resets old new x h k = word_ext 64 (λ i l. ap (λ (t : Bool). cond t true (bit x i)) (moved i))
  where
    moved : (i : ℕ) → bit (change_of old new) i ≡ changes (bit old) (bit new) i
    moved i = ap (λ (n : ℕ). bit n i) (sym (change_word old new h k)) ∙ bit_xor_lem old new i

-- the bits of the map's ways
pub own_word : (map x : ℕ) → x < 2 ^ 64 → bit_and x map ≡ own_of x map
unfolding own_of own
own_word map x h =
    from_bits 64 (lt_of_le_of_lt (and_le_l x map) h) (λ i l. bit_and_lem x map i ∙ and_comm (bit x i) (bit map i))

-- the first W bits, as a word of 16 bits and of 64
pub fresh_word_lem : (W : ℕ) → W ≤ 16 → fresh_of W ≡ word 64 (fresh W)
unfolding fresh_of fresh
fresh_word_lem W small =
    from_bits 64 (lt_of_lt_of_le (word_lt 16 (λ (w : ℕ). ltb w W)) (lit≤ tt))
    (λ i l. bit_word 16 (λ (w : ℕ). ltb w W) i
    ∙ cases (ltb i W) (λ t. rw (t, lt-ltb i 16 (omega (arith, ltb-true i W t)))) (λ t. rw (t, and-false (ltb i 16))))
