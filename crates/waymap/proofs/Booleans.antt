-- Tests decided both ways, and laws of `&&` and `||`.
use mathlib.Core.Path.{◌≡◌, refl, sym}
use mathlib.Core.Bool.{Bool, true, false, cond, not, ◌&&◌, ◌||◌, and-true, and-false, or-true, or-false, true≢false}

-- a test decided, with what it says in hand
pub cases {ℓ} : {A : Type ℓ} (b : Bool) → (b ≡ true → A) → (b ≡ false → A) → A
cases true f g = f refl
cases false f g = g refl

pub or_interchange : (a b c d : Bool) → (a || b || (c || d)) ≡ (a || c || (b || d))
or_interchange true b c d = refl
or_interchange false true true d = refl
or_interchange false true false d = refl
or_interchange false false c d = refl

-- a bit cleared, and a bit set, where a test holds
pub cleared : (t b : Bool) → (b && not t) ≡ cond t false b
cleared true b = and-false b
cleared false b = and-true b

pub raised : (t b : Bool) → (b || t) ≡ cond t true b
raised true b = or-true b
raised false b = or-false b

pub and_left : (a b : Bool) → (a && b) ≡ true → a ≡ true
and_left true b e = refl
and_left false b e = e

pub and_right : (a b : Bool) → (a && b) ≡ true → b ≡ true
and_right true b e = e
and_right false true e = refl
and_right false false e = e

pub or_none : (a b : Bool) → (a || b) ≡ false → (a ≡ false) × (b ≡ false)
or_none true b e = absurd (true≢false e)
or_none false b e = (refl, e)

-- of two that are not both true, the second is false where the first is true
pub not_both : (a b : Bool) → (a && b) ≡ false → a ≡ true → b ≡ false
not_both true b e t = e
not_both false true e t = sym t
not_both false false e t = refl
