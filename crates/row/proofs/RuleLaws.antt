-- The replacement calls within the limits give what the rule gives.
use mathlib.Core.Path.{◌≡◌, ap}
use mathlib.Core.Bool.{true}
use Prim.Native.Nat.{ℕ, ◌≤◌, ◌<◌}
use native.Mathlib.Nat.{le_trans}
use native.Mathlib.Omega.{arith}
use lib.Dec.{lit≤}
use borrow.Author.Tests.{lt-ltb}
use Rattle.std.specs.Prelude.{Result, Ok}
use Rattle.nru.specs.declared.Choice.{Choice}
use Rattle.waymap.specs.Bits.{bit, any}
use Rattle.waymap.proofs.WayLaws.{any_at, any_found}
use Rattle.replacement.specs.Rule.{rule_of}
use Rattle.replacement.specs.Calls.{in_limits, victim_of, touch_of}
use Rattle.replacement.specs.Answer.{outcome_of, choice_of}
use Rattle.replacement.specs.declared.Refusal.{Refusal}
use Rattle.replacement.proofs.ReplyLaws.{result_injective, choice_injective}
use Rattle.replacement.proofs.CallLaws.{sized}
use Rattle.replacement.proofs.RuleLaws.{isolates}
use Rattle.policy.specs.Policy.{as_read}
use Rattle.policy.specs.declared.Maps.{Maps}
use Rattle.policy.proofs.ReadLaws.{fill_small, fill_within}
use Rattle.row.specs.Inside.{Usable, ChoiceOf}

-- the number of ways within the limits
pub most_ways : (W rule : ℕ) → in_limits W rule ≡ true → W ≤ 16
most_ways W rule e = (sized W rule e).most

-- a fill map as read
pub fill_usable : (W rule : ℕ) (p : Maps) {q : Maps} → q ≡ as_read W p → in_limits W rule ≡ true → Usable W rule q.fill
fill_usable W rule p e limits = record { limits = limits; within = rw e (fill_within W p); small = rw e (fill_small W p) }

-- a touch is not refused
pub touch_gives : {W rule fill way : ℕ} (x : ℕ) {r : Result ℕ Refusal} → Usable W rule fill → way < W → outcome_of x r ≡ touch_of W rule x fill way
    → r ≡ Ok ((rule_of rule W).touch fill way x)
unfolding touch_of
touch_gives {W} {rule} {fill} {way} x u h e = result_injective x x _ (Ok ((rule_of rule W).touch fill way x)) (rw (u.limits, u.within, lt-ltb way W h) at e)

-- a map that has a way below W has one below 16
within_16 : (W rule fill : ℕ) → in_limits W rule ≡ true → any W (bit fill) ≡ true → any 16 (bit fill) ≡ true
within_16 W rule fill limits e =
    let r : (i : ℕ) × (i < W) × (bit fill i ≡ true) = any_found W (bit fill) e in
    any_at 16 (bit fill) r.0 (omega (arith, r.1, most_ways W rule limits)) r.2

-- nor is a victim of a map that is not empty
pub victim_gives : {W rule fill : ℕ} (x : ℕ) {r : Result Choice Refusal} → Usable W rule fill → any W (bit fill) ≡ true
    → choice_of x r ≡ victim_of W rule x fill
    → r ≡ Ok (record { way = (rule_of rule W).victim fill x; word = (rule_of rule W).before fill x })
unfolding victim_of
victim_gives {W} {rule} {fill} x u full e =
    choice_injective x x _ (Ok (record { way = (rule_of rule W).victim fill x; word = (rule_of rule W).before fill x }))
    (rw (u.limits, u.within, within_16 W rule fill u.limits full) at e)

pub chosen_is : {W rule fill : ℕ} (x : ℕ) {c : Choice} → Usable W rule fill → any W (bit fill) ≡ true
    → c ≡ record { way = (rule_of rule W).victim fill x; word = (rule_of rule W).before fill x } → ChoiceOf W rule fill x c
chosen_is {W} {rule} {fill} x {c} u full e =
    let way : c.way ≡ (rule_of rule W).victim fill x = ap (λ (d : Choice). d.way) e in
    record {
      way_is = way;
      way_lt = rw way ((isolates rule W (le_trans (most_ways W rule u.limits) (lit≤ tt))).victim_in fill x full).0;
      word_is = ap (λ (d : Choice). d.word) e;
    }
