-- A policy argument: when number 5 turns it down, and what it says when not.
use mathlib.Core.Path.{◌≡◌, refl, sym, ap, ◌∙◌}
use mathlib.Core.Bool.{Bool, true, false, not, ◌&&◌, ◌||◌, and-true, or-true, true≢false}
use Prim.Native.Nat.{ℕ, ◌-◌, ◌/◌, ◌%◌, ◌^◌, ◌<◌}
use native.Mathlib.Nat.{lt_of_le_of_lt, mod-lt}
use native.Mathlib.Omega.{arith}
use lib.Dec.{eqb, leb, ltb}
use lib.Bits.{bit_and, and_le_l}
use borrow.Author.Tests.{ne_eqb, lt-ltb, ltb-false, le-leb, not-true, not-false}
use Rattle.waymap.specs.Bits.{bit, word, any, reaches}
use Rattle.waymap.proofs.Booleans.{cases, or_none}
use Rattle.waymap.proofs.WordLaws.{from_bits}
use Rattle.waymap.proofs.BitLaws.{bit_and_lem, bit_not}
use Rattle.waymap.proofs.WayLaws.{any_ext, any_bits, any_none, none_at}
use Rattle.policy.specs.Policy.{as_read, new_maps, bad_argument}
use Rattle.policy.specs.declared.Maps.{Maps}
use Rattle.policy.specs.Statements.{GoodMaps}

-- ---- number 5

-- a map has a way outside another where masking leaves something
pub outside_is : (fill hit : ℕ) → fill < 2 ^ 16 → hit < 2 ^ 16
    → any 16 (λ (w : ℕ). bit fill w && not (bit hit w)) ≡ not (eqb (bit_and fill (2 ^ 16 - 1 - hit)) 0)
outside_is fill hit f h =
    any_ext 16 (λ i k. sym (bit_and_lem fill (2 ^ 16 - 1 - hit) i ∙ ap (λ (t : Bool). bit fill i && t) (bit_not 16 hit i h ∙ rw (lt-ltb i 16 k))))
    ∙ any_bits 16 (bit_and fill (2 ^ 16 - 1 - hit)) (lt_of_le_of_lt (and_le_l fill (2 ^ 16 - 1 - hit)) f)

-- a way of the fill map is a way of the hit map, which stays within the ways
inside : (f h l : Bool) → (f && not h) ≡ false → (h && l) ≡ false → (f && l) ≡ false
inside true true l p q = q
inside true false l p q = absurd (true≢false p)
inside false h l p q = refl

module _ (W arg : ℕ) {p : Maps} (e : p ≡ new_maps arg) where
  pub bad_hit : not (reaches W p.hit) ≡ false → true ≡ bad_argument W arg
  unfolding bad_argument
  bad_hit r = rw (← e, not-false (reaches W p.hit) r)

  module _ (f : p.fill < 2 ^ 16) (h : p.hit < 2 ^ 16) where
    pub bad_fill : (bit_and p.fill (2 ^ 16 - 1 - p.hit) ≡ 0 → ⊥) → true ≡ bad_argument W arg
    unfolding bad_argument
    bad_fill n =
        rw (← e, outside_is p.fill p.hit f h, ne_eqb (bit_and p.fill (2 ^ 16 - 1 - p.hit)) 0 n, or-true (reaches W p.hit))

    pub bad_high : not (reaches W p.hit) ≡ true → bit_and p.fill (2 ^ 16 - 1 - p.hit) ≡ 0 → not (eqb (arg / 4294967296) 0) ≡ bad_argument W arg
    unfolding bad_argument
    bad_high r z = rw (← e, outside_is p.fill p.hit f h, z, not-true (reaches W p.hit) r)

-- an argument that is not bad has its fill map within the ways
pub good_fill : (W arg : ℕ) → bad_argument W arg ≡ false → reaches W (new_maps arg).fill ≡ false
unfolding bad_argument reaches
good_fill W arg e = any_none 16 {p = λ (w : ℕ). bit (new_maps arg).fill w && leb W w} outside
  where
    maps : (reaches W (new_maps arg).hit || any 16 (λ (w : ℕ). bit (new_maps arg).fill w && not (bit (new_maps arg).hit w))) ≡ false
    maps =
        (or_none (reaches W (new_maps arg).hit || any 16 (λ (w : ℕ). bit (new_maps arg).fill w && not (bit (new_maps arg).hit w)))
        (not (eqb (arg / 4294967296) 0)) e).0

    both : (reaches W (new_maps arg).hit ≡ false) × (any 16 (λ (w : ℕ). bit (new_maps arg).fill w && not (bit (new_maps arg).hit w)) ≡ false)
    both = or_none (reaches W (new_maps arg).hit) (any 16 (λ (w : ℕ). bit (new_maps arg).fill w && not (bit (new_maps arg).hit w))) maps

    outside : (i : ℕ) → i < 16 → (bit (new_maps arg).fill i && leb W i) ≡ false
    outside i k =
        inside (bit (new_maps arg).fill i) (bit (new_maps arg).hit i) (leb W i)
        (none_at 16 (λ (w : ℕ). bit (new_maps arg).fill w && not (bit (new_maps arg).hit w)) i both.1 k)
        (none_at 16 (λ (w : ℕ). bit (new_maps arg).hit w && leb W w) i both.0 k)

gone : (b : Bool) → (b && true) ≡ false → b ≡ (b && false)
gone true e = e
gone false e = refl

held : (f h : Bool) → (f && not h) ≡ false → f ≡ (f && h)
held true true e = refl
held true false e = e
held false h e = refl

-- an argument that is not bad says maps that read as they are
pub good_maps : GoodMaps
unfolding as_read bad_argument reaches new_maps
good_maps W arg e = λ i. record { hit = hit_is i; fill = fill_is i }
  where
    hit : ℕ
    hit = arg % 65536

    fill : ℕ
    fill = arg / 65536 % 65536

    out : ℕ → Bool
    out w = bit fill w && not (bit hit w)

    maps : (any 16 (λ (w : ℕ). bit hit w && leb W w) || any 16 out) ≡ false
    maps = (or_none (any 16 (λ (w : ℕ). bit hit w && leb W w) || any 16 out) (not (eqb (arg / 4294967296) 0)) e).0

    both : (any 16 (λ (w : ℕ). bit hit w && leb W w) ≡ false) × (any 16 out ≡ false)
    both = or_none (any 16 (λ (w : ℕ). bit hit w && leb W w)) (any 16 out) maps

    -- a way of the hit map is below W, and a way of the fill map is in the hit map
    hit_at : (w : ℕ) → w < 16 → bit hit w ≡ (bit hit w && ltb w W)
    hit_at w h =
        cases (ltb w W)
        (λ t. rw (t, and-true (bit hit w)))
        (λ t. rw t (gone (bit hit w) (rw (le-leb W w (ltb-false w W t)) at (none_at 16 (λ (v : ℕ). bit hit v && leb W v) w both.0 h))))

    fill_at : (w : ℕ) → w < 16 → bit fill w ≡ (bit fill w && (bit hit w && ltb w W))
    fill_at w h = rw (← hit_at w h) (held (bit fill w) (bit hit w) (none_at 16 out w both.1 h))

    hit_is : word 16 (λ (w : ℕ). bit hit w && ltb w W) ≡ hit
    hit_is = sym (from_bits 16 (mod-lt arg (omega arith)) hit_at)

    fill_is : word 16 (λ (w : ℕ). bit fill w && (bit hit w && ltb w W)) ≡ fill
    fill_is = sym (from_bits 16 (mod-lt (arg / 65536) (omega arith)) fill_at)
