-- Adding up the lines of one set after another: what was added and what is left make the whole.
use Rattle.std.proofs.Common.{◌≡◌, ℕ, ◌+◌, ◌%◌, ◌^◌, ◌<◌, ◌≤◌, ◌&&◌, List, length, get_or, drop, sym, ap, ◌∙◌, add-zero, add_assoc, mod-lt, mod-eq_of_lt, zero-add, add-one, arith, drop_of_length-le, drop-cons, pow_pos}
use native.Mathlib.Nat.{mod-add-mod}
use Rattle.waymap.specs.Bits.{bit, count}
use Rattle.sweep.specs.Number.{lines_among}

pub record Adding (map : ℕ) (valid : List ℕ) (lines set : ℕ) : Type 0 where
  pub within : set ≤ length valid
  pub small : lines < 2 ^ 64
  pub is : (lines + lines_among (bit map) (drop set valid)) % 2 ^ 64 ≡ lines_among (bit map) valid % 2 ^ 64

pub begin : (map : ℕ) (valid : List ℕ) → Adding map valid 0 0
begin map valid = record { within = omega arith; small = pow_pos 64; is = ap (λ (n : ℕ). n % 2 ^ 64) (zero-add (lines_among (bit map) valid)) }

pub turned : {map : ℕ} {valid : List ℕ} {lines set more next : ℕ} → Adding map valid lines set → set < length valid
    → more ≡ count 16 (λ (w : ℕ). bit map w && bit (get_or valid set 0) w) → next ≡ (lines + more) % 2 ^ 64 → Adding map valid next (set + 1)
unfolding lines_among
turned {map} {valid} {lines} {set} {more} {next} a h m n = record {
  within = omega arith;
  small = rw n (mod-lt (lines + more) (pow_pos 64));
  is =
      ap (λ (x : ℕ). (x + rest) % 2 ^ 64) n ∙ mod-add-mod (lines + more) (2 ^ 64) rest
      ∙ ap (λ (x : ℕ). x % 2 ^ 64) (add_assoc lines more rest ∙ ap (λ (x : ℕ). lines + x) left) ∙ a.is;
}
  where
    rest : ℕ
    rest = lines_among (bit map) (drop (set + 1) valid)

    left : more + lines_among (bit map) (drop (set + 1) valid) ≡ lines_among (bit map) (drop set valid)
    left = rw (m, add-one set, drop-cons valid set 0 h)

pub end : {map : ℕ} {valid : List ℕ} {lines set : ℕ} → Adding map valid lines set → length valid ≤ set → lines ≡ lines_among (bit map) valid % 2 ^ 64
unfolding lines_among
end {map} {valid} {lines} {set} a h =
    let all = a.is in
    let whole : (lines + 0) % 2 ^ 64 ≡ lines_among (bit map) valid % 2 ^ 64 = rw (drop_of_length-le valid h) at all in
    sym (mod-eq_of_lt a.small) ∙ ap (λ (x : ℕ). x % 2 ^ 64) (sym (add-zero lines)) ∙ whole
