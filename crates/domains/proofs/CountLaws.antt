-- Counts: which are full, and what an answer adds.
use mathlib.Core.Path.{◌≡◌, refl, sym, ◌∙◌}
use mathlib.Core.Bool.{Bool, false, ◌||◌}
use Prim.Native.Nat.{ℕ, ◌+◌, ◌-◌, ◌≤◌}
use native.Mathlib.Omega.{arith}
use lib.Dec.{eqb, ltb}
use borrow.Author.Tests.{eqb-false, ltb-true, ltb-false, lt-ltb, le-ltb}
use Rattle.command.specs.declared.Answer.{Answer}
use Rattle.command.specs.declared.Answer.TheVariants.{Hit, Fill, Evict, Pass, Flush, Absent, Policy, Refused}
use Rattle.waymap.proofs.Booleans.{cases, or_none}
use Rattle.domains.specs.Domains.{is_full, overflows, counted}
use Rattle.domains.specs.declared.Counts.{Counts}

-- ---- room for one more

-- each count is below the largest
pub record Unspent (c : Counts) : Type 0 where
  pub hits : c.hits ≡ 4294967295 → ⊥
  pub misses : c.misses ≡ 4294967295 → ⊥
  pub evicted : c.evicted ≡ 4294967295 → ⊥
  pub written : c.written ≡ 4294967295 → ⊥
  pub flushed : c.flushed ≡ 4294967295 → ⊥
  pub fills : c.fills ≡ 4294967295 → ⊥
  pub dropped : c.dropped ≡ 4294967295 → ⊥

pub unspent : (c : Counts) → is_full c ≡ false → Unspent c
unfolding is_full
unspent c e =
    let hits = eqb c.hits 4294967295 in
    let misses = eqb c.misses 4294967295 in
    let evicted = eqb c.evicted 4294967295 in
    let written = eqb c.written 4294967295 in
    let flushed = eqb c.flushed 4294967295 in
    let fills = eqb c.fills 4294967295 in
    let dropped = eqb c.dropped 4294967295 in
    let six = or_none (hits || misses || evicted || written || flushed || fills) dropped e in
    let five = or_none (hits || misses || evicted || written || flushed) fills six.0 in
    let four = or_none (hits || misses || evicted || written) flushed five.0 in
    let three = or_none (hits || misses || evicted) written four.0 in
    let two = or_none (hits || misses) evicted three.0 in
    let one = or_none hits misses two.0 in
    record {
      hits = eqb-false c.hits 4294967295 one.0;
      misses = eqb-false c.misses 4294967295 one.1;
      evicted = eqb-false c.evicted 4294967295 two.1;
      written = eqb-false c.written 4294967295 three.1;
      flushed = eqb-false c.flushed 4294967295 four.1;
      fills = eqb-false c.fills 4294967295 five.1;
      dropped = eqb-false c.dropped 4294967295 six.1;
    }

-- ---- room for drops

-- the test by what is left below the largest
pub past_is : (dropped n : ℕ) → dropped ≤ 4294967295 → ltb (4294967295 - dropped) n ≡ ltb 4294967295 (dropped + n)
past_is dropped n h =
    cases (ltb 4294967295 (dropped + n))
    (λ t. lt-ltb (4294967295 - dropped) n (omega (arith, ltb-true 4294967295 (dropped + n) t)) ∙ sym t)
    (λ t. le-ltb (4294967295 - dropped) n (omega (arith, ltb-false 4294967295 (dropped + n) t)) ∙ sym t)

-- what does not pass it fits
pub drops_fit : (arg n : ℕ) (c : Counts) → overflows arg n c ≡ false → eqb arg 0 ≡ false → c.dropped + n ≤ 4294967295
unfolding overflows
drops_fit arg n c e z = let past : ltb 4294967295 (c.dropped + n) ≡ false = rw z at e in ltb-false 4294967295 (c.dropped + n) past

-- the answers that move no count
pub rest_stays : (a : Answer) (c : Counts) → ((w : ℕ) → a ≡ Hit w → ⊥) → ((w : ℕ) → a ≡ Fill w → ⊥)
    → ((w tag : ℕ) (dirty : Bool) → a ≡ Evict w tag dirty → ⊥) → (a ≡ Pass → ⊥) → ((w : ℕ) (dirty : Bool) → a ≡ Flush w dirty → ⊥)
    → c ≡ counted a c
unfolding counted
rest_stays (Hit w) c hit fill evict pass flush = absurd (hit w refl)
rest_stays (Fill w) c hit fill evict pass flush = absurd (fill w refl)
rest_stays (Evict w tag dirty) c hit fill evict pass flush = absurd (evict w tag dirty refl)
rest_stays Pass c hit fill evict pass flush = absurd (pass refl)
rest_stays (Flush w dirty) c hit fill evict pass flush = absurd (flush w dirty refl)
rest_stays Absent c hit fill evict pass flush = refl
rest_stays (Policy n d) c hit fill evict pass flush = refl
rest_stays (Refused n) c hit fill evict pass flush = refl
