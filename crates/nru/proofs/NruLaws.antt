-- NRU, for every number W of ways: the victim lies in the map, and choice and word go by the map's own bits.
use mathlib.Core.Path.{◌≡◌, refl, ap₂}
use mathlib.Core.Bool.{Bool, true, false, cond, ◌&&◌, ◌||◌, and-false}
use Prim.Native.Nat.{ℕ, ◌<◌}
use lib.Dec.{eqb}
use borrow.Author.Tests.{eqb-true}
use Rattle.waymap.specs.Bits.{Bits, bit, word, any}
use Rattle.waymap.specs.Encoder.{encode}
use Rattle.waymap.proofs.Booleans.{cases, and_left}
use Rattle.waymap.proofs.WayLaws.{any_ext, any_found, any_at}
use Rattle.waymap.proofs.EncoderLaws.{encode_ext, encode_found}
use Rattle.nru.specs.Nru.{before, victim, touch}
use Rattle.nru.specs.Statements.{VictimIn}

-- Case I of document 01, for 8 ways, by computing. "NRU, map 6, word 0": by job 8 of document 02 "way 2, bits 1 and 0", those of ways 1 and 2 after its touch.
pub case_i : (victim 8 (bit 6) (bit 0) ≡ 2) × (word 64 (touch (bit 6) 2 (before 8 (bit 6) (bit 0))) ≡ 2)
unfolding victim before touch bit any encode word
case_i = (refl, refl)

-- two words agree on the ways of a map
abbrev Agree : ℕ → Bits → Bits → Bits → Type 0
Agree W m b c = (w : ℕ) → w < W → m w ≡ true → b w ≡ c w

-- the word before the touch has a bit that is one in the map
ready : (W : ℕ) (m b : Bits) → any W m ≡ true → any W (λ (w : ℕ). m w && before W m b w) ≡ true
unfolding before
ready W m b e =
    cases (any W (λ (v : ℕ). m v && b v))
    (λ t. let r : (i : ℕ) × (i < W) × ((m i && b i) ≡ true) = any_found W (λ (v : ℕ). m v && b v) t in
    any_at W (λ (w : ℕ). m w && before W m b w) r.0 r.1 (rw t r.2))
    (λ t. let r : (i : ℕ) × (i < W) × (m i ≡ true) = any_found W m e in
    any_at W (λ (w : ℕ). m w && before W m b w) r.0 r.1 (rw (t, r.2)))

pub victim_in : VictimIn
unfolding victim
victim_in W m b e =
    let r = encode_found W (λ (w : ℕ). m w && before W m b w) (ready W m b e) in
    (r.0, and_left (m (victim W m b)) (before W m b (victim W m b)) r.1)

found_agrees : (W : ℕ) (m : Bits) {b c : Bits} → Agree W m b c → any W (λ (v : ℕ). m v && b v) ≡ any W (λ (v : ℕ). m v && c v)
found_agrees W m e = any_ext W (λ i h. cases (m i) (λ t. rw t (e i h t)) (λ t. rw t))

pub before_agrees : (W : ℕ) (m : Bits) {b c : Bits} (i : ℕ) → Agree W m b c → b i ≡ c i → before W m b i ≡ before W m c i
unfolding before
before_agrees W m i e q = ap₂ (λ (a t : Bool). cond a t (m i || t)) (found_agrees W m e) q

pub victim_agrees : (W : ℕ) (m : Bits) {b c : Bits} → Agree W m b c → victim W m b ≡ victim W m c
unfolding victim
victim_agrees W m e = encode_ext W _ _ (λ i h. cases (m i) (λ t. rw t (before_agrees W m i e (e i h t))) (λ t. rw t))

-- outside the map no bit moves
pub before_stays : (W : ℕ) (m b : Bits) (i : ℕ) → m i ≡ false → before W m b i ≡ b i
unfolding before
before_stays W m b i e = rw e (cases (any W (λ (v : ℕ). m v && b v)) (λ t. rw t) (λ t. rw t))

pub touch_stays : (m : Bits) (w : ℕ) (b : Bits) (i : ℕ) → m i ≡ false → touch m w b i ≡ b i
unfolding touch
touch_stays m w b i e =
    cases (eqb w i)
    (λ t. rw (eqb-true w i t, e))
    (λ t. rw (t, and-false (m w)))
