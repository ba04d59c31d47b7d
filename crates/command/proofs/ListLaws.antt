-- Lists that are read and written from the front on.
use mathlib.Core.Path.{◌≡◌, refl, ap, ◌∙◌}
use mathlib.Core.List.{List, [], ◌∷◌, ◌++◌}
use Prim.Native.Nat.{ℕ, suc, ◌+◌, ◌<◌}
use native.Mathlib.Nat.{not-suc-le-zero, le_of_suc-le-suc}
use native.Mathlib.Numerals.{add-one}
use lib.ListN.{length, drop, set, get_or}
use lib.Seq.{drop-cons}

module _ {A : Type 0} where
  -- One more at the front's end, by a store.
  pub store_next : (xs ys : List A) (x : A) → length xs < length ys
      → set (xs ++ drop (length xs) ys) (length xs) x ≡ (xs ++ x ∷ []) ++ drop (suc (length xs)) ys
  store_next [] [] x h = absurd (not-suc-le-zero h)
  store_next [] (y ∷ ys) x h = refl
  store_next (a ∷ xs) [] x h = absurd (not-suc-le-zero h)
  store_next (a ∷ xs) (y ∷ ys) x h = ap (λ (l : List A). a ∷ l) (store_next xs ys x (le_of_suc-le-suc h))

  -- What is left, first one and then the others.
  pub drop_next : (i : ℕ) (xs : List A) (z : A) → i < length xs → drop i xs ≡ get_or xs i z ∷ drop (i + 1) xs
  drop_next i xs z h = drop-cons xs i z h ∙ rw (add-one i)
