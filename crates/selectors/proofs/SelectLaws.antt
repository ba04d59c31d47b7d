-- A write of selectors as the code tests it.
use mathlib.Core.Path.{◌≡◌}
use mathlib.Core.Logic.{◌⊎◌, inl, inr}
use Prim.Native.Nat.{ℕ, ◌/◌, ◌%◌, ◌≤◌, ◌<◌}
use native.Mathlib.Omega.{arith}
use borrow.Author.Tests.{le-leb, lt-leb, eq-eqb, ne_eqb}
use Rattle.selectors.specs.Selectors.{select, refused, new_core, written}

module _ (argument : ℕ) where
  -- a selector of 16 or more
  high_cs : 16 ≤ argument % 256 → refused 3 ≡ written argument
  unfolding written new_core
  high_cs h = rw (le-leb 16 (argument % 256) h)

  module _ (cs : argument % 256 < 16) where
    high_ds : 16 ≤ argument / 256 % 256 → refused 3 ≡ written argument
    unfolding written new_core
    high_ds h = rw (lt-leb 16 (argument % 256) cs, le-leb 16 (argument / 256 % 256) h)

    module _ (ds : argument / 256 % 256 < 16) where
      high_es : 16 ≤ argument / 65536 % 256 → refused 3 ≡ written argument
      unfolding written new_core
      high_es h = rw (lt-leb 16 (argument % 256) cs, lt-leb 16 (argument / 256 % 256) ds, le-leb 16 (argument / 65536 % 256) h)

      -- all three name domains: the bytes above them
      module _ (es : argument / 65536 % 256 < 16) where
        pub high_bytes : 16777216 ≤ argument → refused 5 ≡ written argument
        unfolding written new_core
        high_bytes h = rw (
          lt-leb 16 (argument % 256) cs,
          lt-leb 16 (argument / 256 % 256) ds,
          lt-leb 16 (argument / 65536 % 256) es,
          ne_eqb (argument / 16777216) 0 (λ e. omega (arith, e, h)),
        )

        pub no_bytes : argument < 16777216 → select (new_core argument) ≡ written argument
        unfolding written new_core
        no_bytes h = rw (
          lt-leb 16 (argument % 256) cs,
          lt-leb 16 (argument / 256 % 256) ds,
          lt-leb 16 (argument / 65536 % 256) es,
          eq-eqb (argument / 16777216) 0 (omega arith),
        )

  -- any of the three is
  pub high : (16 ≤ argument % 256) ⊎ (((argument % 256 < 16) × (16 ≤ argument / 256 % 256))
      ⊎ ((argument % 256 < 16) × (argument / 256 % 256 < 16) × (16 ≤ argument / 65536 % 256)))
      → refused 3 ≡ written argument
  high (inl cs) = high_cs cs
  high (inr (inl t)) = high_ds t.0 t.1
  high (inr (inr t)) = high_es t.0 t.1 t.2
