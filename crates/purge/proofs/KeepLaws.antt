-- Which steps the purge keeps: those of the chosen domain, and those that are no access and no flush; and no others.
use mathlib.Core.Path.{◌≡◌, sym, ◌∙◌}
use mathlib.Core.Bool.{true, false, not, true≢false}
use Prim.Native.Nat.{ℕ, ◌≤◌, ◌<◌}
use native.Mathlib.Omega.{arith}
use lib.Dec.{eqb, leb, ltb}
use borrow.Author.Tests.{leb-true, leb-false, lt-ltb, le-ltb, ltb-true, ltb-false, eq-eqb, ne_eqb, not-true, not-false}
use Rattle.waymap.proofs.Booleans.{cases}
use Rattle.command.specs.Command.{Command}
use Rattle.purge.specs.Purge.{belongs, keeps}
use Rattle.purge.specs.Statements.{KeepsOwn, KeepsOthers, Struck}

-- what two numbers are like by a test turned round
high : (n k : ℕ) → k ≤ n → not (ltb n k) ≡ true
high n k h = rw (le-ltb n k h)

low : (n k : ℕ) → not (ltb n k) ≡ false → n < k
low n k e = ltb-true n k (not-false (ltb n k) e)

high_again : (n k : ℕ) → not (ltb n k) ≡ true → k ≤ n
high_again n k e = ltb-false n k (not-true (ltb n k) e)

-- every step of the chosen domain is kept
pub keeps_own : KeepsOwn
unfolding keeps
keeps_own d c e = rw (eq-eqb c.domain d e)

-- every step that is no access and no flush is kept: policy changes, and unknown kinds
pub keeps_others : KeepsOthers
unfolding keeps
keeps_others d c h = cases (belongs d c) (λ t. rw t) (λ t. rw t (high c.kind _ (omega arith)))

-- what is struck out belongs to another domain, and is an access or a flush
pub struck : Struck
unfolding keeps
struck d c t =
    let other : belongs d c ≡ false = cases (belongs d c) (λ u. absurd (true≢false (rw u at t))) (λ u. u) in
    record { other = other; kind = omega (arith, low c.kind _ (rw other at t)) }

-- what another domain's step is that is kept
pub kept_kind : (d : ℕ) (c : Command) → keeps d c ≡ true → belongs d c ≡ false → 4 ≤ c.kind
unfolding keeps
kept_kind d c t u = omega (arith, high_again c.kind _ (rw u at t))

-- ---- as the code tests it

at_least : (a b : ℕ) → leb a b ≡ not (ltb b a)
at_least a b = cases (leb a b)
    (λ y. rw (y, le-ltb b a (leb-true a b y)))
    (λ n. rw (n, lt-ltb b a (leb-false a b n)))

pub stays_own : (d : ℕ) (c : Command) → c.domain ≡ d → eqb c.domain d ≡ keeps d c
stays_own d c own = eq-eqb c.domain d own ∙ sym (keeps_own d c own)

pub stays_other : (d : ℕ) (c : Command) → (c.domain ≡ d → ⊥) → leb 4 c.kind ≡ keeps d c
unfolding keeps
stays_other d c other = rw (ne_eqb c.domain d other) (at_least 4 c.kind)
