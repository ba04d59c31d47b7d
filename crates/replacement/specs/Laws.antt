-- What is proved of every rule: that it keeps domains apart, and what becomes of its word.
use Rattle.std.specs.Prelude.{◌≡◌, false, ℕ, ◌^◌, ◌<◌}
use Rattle.waymap.specs.Bits.{bit}
use Rattle.replacement.specs.Rule.{Rule}
use Rattle.replacement.specs.Isolates.{Isolates}

pub record Laws (W : ℕ) (R : Rule) : Type 0 where
  -- it keeps domains apart
  pub isolates : Isolates W R
  -- document 02, job 4: a touch of a way outside the fill map leaves the word as it is
  pub touch_outside : (map w x : ℕ) → x < 2 ^ 64 → bit map w ≡ false → R.touch map w x ≡ x
  -- a fresh word has 64 bits, and what the rule makes of a word of 64 bits has as many
  pub fresh_fits : R.fresh < 2 ^ 64
  pub before_fits : (map x : ℕ) → x < 2 ^ 64 → R.before map x < 2 ^ 64
  pub touch_fits : (map w x : ℕ) → x < 2 ^ 64 → R.touch map w x < 2 ^ 64
  pub reset_fits : (old new x : ℕ) → x < 2 ^ 64 → R.reset old new x < 2 ^ 64
