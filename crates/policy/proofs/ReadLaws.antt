-- Policies as read: what masking and joining maps gives.
use mathlib.Core.Path.{◌≡◌, sym, ap, ◌∙◌}
use mathlib.Core.Bool.{Bool, true, false, ◌&&◌, and-false}
use Prim.Native.Nat.{ℕ, ◌^◌, ◌<◌}
use native.Mathlib.Nat.{lt_of_le_of_lt}
use lib.Dec.{ltb}
use lib.Bits.{bit_and, and_le_l}
use borrow.Author.Tests.{ltb-true, le-ltb}
use Rattle.waymap.specs.Bits.{Bits, bit, word, reaches}
use Rattle.waymap.proofs.Booleans.{and_left, and_right}
use Rattle.waymap.proofs.BitLaws.{bit_and_lem}
use Rattle.waymap.proofs.WordLaws.{word_lt, bit_word, bit_word_in, from_bits, high_none}
use Rattle.waymap.proofs.MapLaws.{cut_bit, reach_below}
use Rattle.policy.specs.Policy.{as_read, Cut}
use Rattle.policy.specs.declared.Maps.{Maps}

-- a map cut to the first ways
hit_is : (W hit : ℕ) {all : ℕ} → hit < 2 ^ 16 → all ≡ word 16 (λ (w : ℕ). ltb w W) → bit_and hit all ≡ word 16 (λ (w : ℕ). bit hit w && ltb w W)
hit_is W hit {all} h e =
    from_bits 16 (lt_of_le_of_lt (and_le_l hit all) h)
    (λ i k. cut_bit 16 W hit i h e)

pub read_is : (W hit fill : ℕ) {all : ℕ} → hit < 2 ^ 16 → fill < 2 ^ 16 → all ≡ word 16 (λ (w : ℕ). ltb w W)
    → record { hit = bit_and hit all; fill = bit_and fill (bit_and hit all) } ≡ as_read W (record { hit = hit; fill = fill })
unfolding as_read
read_is W hit fill {all} h k e = λ j. record { hit = hit_is W hit h e j; fill = cut j }
  where
    cut : bit_and fill (bit_and hit all) ≡ word 16 (λ (w : ℕ). bit fill w && (bit hit w && ltb w W))
    cut =
        from_bits 16 (lt_of_le_of_lt (and_le_l fill (bit_and hit all)) k)
        (λ i l. bit_and_lem fill (bit_and hit all) i
        ∙ ap (λ (t : Bool). bit fill i && t)
        (ap (λ (x : ℕ). bit x i) (hit_is W hit h e) ∙ bit_word_in 16 (λ (w : ℕ). bit hit w && ltb w W) i l))

-- ---- as read, no map reaches the number of ways
pub hit_below : (W : ℕ) (p : Maps) → (as_read W p).hit < 2 ^ W
unfolding as_read
hit_below W p =
    high_none 16 W (word 16 (λ (w : ℕ). bit p.hit w && ltb w W)) (word_lt 16 (λ (w : ℕ). bit p.hit w && ltb w W))
    (λ i h. bit_word 16 (λ (w : ℕ). bit p.hit w && ltb w W) i ∙ rw (le-ltb i W h, and-false (bit p.hit i)) (and-false (ltb i 16)))

pub fill_below : (W : ℕ) (p : Maps) → (as_read W p).fill < 2 ^ W
unfolding as_read
fill_below W p =
    high_none 16 W (word 16 (λ (w : ℕ). bit p.fill w && (bit p.hit w && ltb w W)))
    (word_lt 16 (λ (w : ℕ). bit p.fill w && (bit p.hit w && ltb w W)))
    (λ i h. bit_word 16 (λ (w : ℕ). bit p.fill w && (bit p.hit w && ltb w W)) i
    ∙ rw (le-ltb i W h, and-false (bit p.hit i), and-false (bit p.fill i)) (and-false (ltb i 16)))

pub hit_small : (W : ℕ) (p : Maps) → (as_read W p).hit < 2 ^ 16
unfolding as_read
hit_small W p = word_lt 16 (λ (w : ℕ). bit p.hit w && ltb w W)

pub fill_small : (W : ℕ) (p : Maps) → (as_read W p).fill < 2 ^ 16
unfolding as_read
fill_small W p = word_lt 16 (λ (w : ℕ). bit p.fill w && (bit p.hit w && ltb w W))

pub fill_within : (W : ℕ) (p : Maps) → reaches W (as_read W p).fill ≡ false
fill_within W p = reach_below W (as_read W p).fill (fill_below W p)

-- ---- as read, the fill map is part of the hit map, and both are within the ways

pub cut_read : (W : ℕ) (p : Maps) → Cut W (as_read W p)
unfolding as_read
cut_read W p = record { part = part; within = within }
  where
    hits : Bits
    hits = λ w. bit p.hit w && ltb w W

    fills : Bits
    fills = λ w. bit p.fill w && (bit p.hit w && ltb w W)

    part : (w : ℕ) → bit (word 16 fills) w ≡ true → bit (word 16 hits) w ≡ true
    part w e =
        let all : (ltb w 16 && fills w) ≡ true = sym (bit_word 16 fills w) ∙ e in
        bit_word 16 hits w ∙ rw (and_left (ltb w 16) (fills w) all, and_right (bit p.fill w) (hits w) (and_right (ltb w 16) (fills w) all))

    within : (w : ℕ) → bit (word 16 hits) w ≡ true → w < W
    within w e =
        ltb-true w W (and_right (bit p.hit w) (ltb w W) (and_right (ltb w 16) (hits w) (sym (bit_word 16 hits w) ∙ e)))

-- a way of the hit map as read is one of the sixteen, and of the map itself
pub read_hit : (W : ℕ) (p : Maps) (w : ℕ) → bit (as_read W p).hit w ≡ true → (w < 16) × (bit p.hit w ≡ true)
unfolding as_read
read_hit W p w e =
    let hits : Bits = λ v. bit p.hit v && ltb v W in
    let all : (ltb w 16 && hits w) ≡ true = sym (bit_word 16 hits w) ∙ e in
    (ltb-true w 16 (and_left (ltb w 16) (hits w) all), and_left (bit p.hit w) (ltb w W) (and_right (ltb w 16) (hits w) all))
