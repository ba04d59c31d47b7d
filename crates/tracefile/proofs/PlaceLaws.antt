-- The places of a file's steps, and lists that are lent for as many steps.
use mathlib.Core.Path.{◌≡◌, sym, ◌∙◌}
use Prim.Native.Nat.{ℕ, ◌+◌, ◌-◌, ◌≤◌, ◌<◌}
use native.Mathlib.Nat.{le_of_eq, sub-zero}
use native.Mathlib.Numerals.{add-one-le}
use mir.Syntax.{Width, w32, w64}
use mir.Val.{Fits}
use mir.Facts.{Fits-le, Fits-lt, Fits-32_64}

-- A place below a number of 32 bits, and the next, in as many bits.
pub place_fits : {i n : ℕ} → i < n → Fits w32 n → Fits w64 i
place_fits h f = Fits-32_64 (Fits-lt h f)

pub next_fits : {w : Width} {i n : ℕ} → i < n → Fits w n → Fits w (i + 1)
next_fits h f = Fits-le (add-one-le h) f

-- A part from 0 to n has n elements.
pub front_long : (n : ℕ) {count : ℕ} → n - 0 ≡ count → n ≤ count
front_long n e = le_of_eq (sym (sub-zero n) ∙ e)
