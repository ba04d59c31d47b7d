-- A change of policy worked out once is, on each set, what the rules say of it.
use Rattle.std.proofs.Common.{◌≡◌, ℕ, ◌-◌, ◌^◌, ◌<◌, ◌≤◌, Bool, true, false, not, ◌&&◌, ltb, ap, ◌∙◌, ap₂, lt_of_lt_of_le, lt_of_le_of_lt, ltb-false, ltb-true, lt-ltb}
use mathlib.Core.Path.{fun_ext}
use mathlib.Core.Bool.{xor, and-true, and-false}
use lib.Bits.{bit_and, bit_xor, and_le_l, xor_lt}
use Rattle.waymap.specs.Bits.{Bits, bit, word, count}
use Rattle.waymap.proofs.Booleans.{cases, cleared}
use Rattle.waymap.proofs.BitLaws.{bit_and_lem, bit_xor_lem, bit_not}
use Rattle.waymap.proofs.WordLaws.{bit_word, from_bits, bit_high}
use Rattle.waymap.proofs.WayLaws.{count_wider}
use Rattle.replacement.specs.Rule.{rule_of}
use Rattle.replacement.specs.Calls.{in_limits}
use Rattle.replacement.specs.Change.{change_of, change_by}
use Rattle.replacement.specs.declared.Change.{Change}
use Rattle.replacement.proofs.CallLaws.{change_resets}
use Rattle.policy.specs.Policy.{as_read}
use Rattle.policy.specs.declared.Maps.{Maps}
use Rattle.policy.proofs.ReadLaws as ReadLaws
use Rattle.row.specs.Row.{Row, ways, lines_in}
use Rattle.command.specs.declared.Answer.TheVariants.{Policy}
use Rattle.row.proofs.RuleLaws.{most_ways}
use Rattle.sweep.specs.Clean.{moved, without, wiped, drop_ways, dropped, dropped_dirty, cleaned, clean}
use Rattle.sweep.specs.Sweep.{sweep_of, drops, swept_lines, sweep_by}
use Rattle.sweep.specs.Statements.{SweepCleans}

pub without_is : (gone map : ℕ) → gone < 2 ^ 16 → map < 2 ^ 16 → bit_and map (2 ^ 16 - 1 - gone) ≡ without (bit gone) map
unfolding without
without_is gone map g h =
    from_bits 16 (lt_of_le_of_lt (and_le_l map (2 ^ 16 - 1 - gone)) h)
    (λ i k. bit_and_lem map (2 ^ 16 - 1 - gone) i ∙ ap (λ (t : Bool). bit map i && t) (bit_not 16 gone i g ∙ rw (lt-ltb i 16 k)) ∙ cleared (bit gone i) (bit map i))

pub moved_bits : (old new : Maps) → bit (bit_xor old.hit new.hit) ≡ moved old new
unfolding moved
moved_bits old new = fun_ext (λ w. bit_xor_lem old.hit new.hit w)

-- ways beyond the number of ways do not move
moved_within : (W : ℕ) (old new : Maps) → old.hit < 2 ^ W → new.hit < 2 ^ W → (i : ℕ) → W ≤ i → moved old new i ≡ false
unfolding moved xor
moved_within W old new h k i l = rw (bit_high W old.hit i h l, bit_high W new.hit i k l)

-- the ways whose lines are dropped, without those that other domains hold
pub drop_ways_is : (old new : Maps) (held : ℕ) → old.hit < 2 ^ 16 → new.hit < 2 ^ 16
    → bit_and (bit_xor old.hit new.hit) (2 ^ 16 - 1 - bit_and new.hit held) ≡ word 16 (drop_ways old new (bit held))
unfolding drop_ways moved
drop_ways_is old new held h k =
    let taken : ℕ = bit_and new.hit held in
    let all : ℕ = bit_xor old.hit new.hit in
    let small : all < 2 ^ 16 = xor_lt 16 old.hit new.hit h k in
    from_bits 16 (lt_of_le_of_lt (and_le_l all (2 ^ 16 - 1 - taken)) small)
    (λ i l.
    bit_and_lem all (2 ^ 16 - 1 - taken) i
    ∙ ap₂ ◌&&◌ (bit_xor_lem old.hit new.hit i)
    (bit_not 16 taken i (lt_of_le_of_lt (and_le_l new.hit held) k) ∙ rw (lt-ltb i 16 l) (ap not (bit_and_lem new.hit held i))))

-- they are within the number of ways
pub drop_beyond : (W : ℕ) (old new : Maps) (held : Bits) (i : ℕ) → W ≤ i → drop_ways (as_read W old) (as_read W new) held i ≡ false
unfolding drop_ways
drop_beyond W old new held i h = rw (moved_within W (as_read W old) (as_read W new) (ReadLaws.hit_below W old) (ReadLaws.hit_below W new) i h)

-- what is worked out from the maps as read
pub sweep_is : (W rule : ℕ) (old new : Maps) {was next : Maps} {change : Change} → was ≡ as_read W old → next ≡ as_read W new
    → change ≡ change_of W rule was.fill next.fill → record { gone = bit_xor was.hit next.hit; change = change } ≡ sweep_of W rule old new
unfolding sweep_of
sweep_is W rule old new e f g = rw (g, e, f) (ap (λ (n : ℕ). record { gone = n; change = change_of W rule (as_read W old).fill (as_read W new).fill }) gone_is)
  where
    small : (p : Maps) → (as_read W p).hit < 2 ^ 16
    small p = ReadLaws.hit_small W p

    gone_is : bit_xor (as_read W old).hit (as_read W new).hit ≡ word 16 (moved (as_read W old) (as_read W new))
    gone_is =
        from_bits 16 (xor_lt 16 (as_read W old).hit (as_read W new).hit (small old) (small new))
        (λ i h. ap (λ (f : Bits). f i) (moved_bits (as_read W old) (as_read W new)))

-- The work that was worked out once is, on a set of W ways, what the rules say of a change of policy.
module _ (rule : ℕ) (old new : Maps) (r : Row) (limits : in_limits (ways r) rule ≡ true) where
  abbrev W : ℕ
  W = ways r

  abbrev was : Maps
  was = as_read W old

  abbrev next : Maps
  next = as_read W new

  abbrev gone : ℕ
  gone = (as_read W (record { hit = (sweep_of W rule old new).gone; fill = 0 })).hit

  beyond : (i : ℕ) → W ≤ i → moved was next i ≡ false
  beyond = moved_within W was next (ReadLaws.hit_below W old) (ReadLaws.hit_below W new)

  -- the ways that are cleaned are those that move
  gone_is : bit gone ≡ moved was next
  unfolding as_read sweep_of
  gone_is = fun_ext (λ w.
      bit_word 16 (λ (v : ℕ). bit (word 16 (moved was next)) v && ltb v W) w
      ∙ rw (bit_word 16 (moved was next) w)
      (cases (ltb w W)
      (λ t. rw (t, lt-ltb w 16 (lt_of_lt_of_le (ltb-true w W t) (most_ways W rule limits))) (and-true (moved was next w)))
      (λ t. rw (t, beyond w (ltb-false w W t))
      (ap (λ (b : Bool). ltb w 16 && b) (and-false (ltb w 16 && false)) ∙ and-false (ltb w 16)))))

  counted : (f : Bits) → count 16 (λ (w : ℕ). bit gone w && f w) ≡ count W (λ (w : ℕ). moved was next w && f w)
  counted f =
      ap (λ (g : Bits). count 16 (λ (w : ℕ). g w && f w)) gone_is
      ∙ count_wider W 16 (λ (w : ℕ). moved was next w && f w) (most_ways W rule limits)
      (λ i h. rw (beyond i h))

  word_is : change_by (sweep_of W rule old new).change r.word ≡ (rule_of rule W).reset was.fill next.fill r.word
  unfolding sweep_of
  word_is =
      change_resets W rule r.word was.fill next.fill (ReadLaws.fill_small W old) (ReadLaws.fill_small W new) limits
      (ReadLaws.fill_within W old) (ReadLaws.fill_within W new)

  cleans : sweep_by (sweep_of W rule old new) r ≡ clean (rule_of rule W) was next r
  unfolding sweep_by drops swept_lines clean cleaned lines_in dropped dropped_dirty
  cleans = λ i. record {
    answer = Policy (counted (bit r.valid) i) (both i);
    row = record {
      tags = wiped (gone_is i) r.tags;
      valid = without (gone_is i) r.valid;
      dirty = without (gone_is i) r.dirty;
      word = word_is i;
    };
  }
    where
      both : count 16 (λ (w : ℕ). bit gone w && bit r.valid w && bit r.dirty w)
          ≡ count W (λ (w : ℕ). moved was next w && bit r.valid w && bit r.dirty w)
      both =
          ap (λ (g : Bits). count 16 (λ (w : ℕ). g w && bit r.valid w && bit r.dirty w)) gone_is
          ∙ count_wider W 16 (λ (w : ℕ). moved was next w && bit r.valid w && bit r.dirty w) (most_ways W rule limits)
          (λ i h. rw (beyond i h))

pub sweep_cleans : SweepCleans
sweep_cleans = cleans
