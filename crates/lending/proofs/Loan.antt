-- The first k elements of a local array are lent as `&mut`, and come back. R is any type of one machine value.
--     value            the array's machine value
--     Out              what the loan leaves: the slice under a new name, the lender's part, and the elements behind it
--     goes-out         an array's cell  ⊢ ⇛ Out
--     comes_home       once the lifetime is over: the lender's part, what the slice held last, and the elements behind it  ⊢ ⇛ the array's cell again
-- The steps assume `Logic`.
use mathlib.Core.Path.{◌≡◌, refl, sym, ◌∙◌, subst}
use Prim.Native.Nat.{ℕ, zero}
use mathlib.Core.List.{List, [], ◌∷◌, ◌++◌}
use lib.ListN.{length, take, drop as drop-list, take-append-drop}
use seplogic.Ra.Ura.{Ura}
use base.Fraction.{full_share}
use mir.Syntax.{Ty, Lifetime, ty_array}
use mir.Val.{Val}
use base.Logic.{SProp, ent, sep, ex, guard}
use base.Fml.{Lft, GName, Fml, fsep, fat, fdead, flent}
use types.Logic.{Logic, sem}
use types.Kit.{‵, ◌⊛◌, some, later, ◌$◌, ◌∵◌, !, qed, move, use1, use2, use3, drop, rewrite, split, pick, check}
use types.Kit.{fpick, fpack, fsplit, fjoin, feq_i, feq_l, frame, await, updating, now as at_once, show, done}
use types.SemTy.{cells, Arr}
use types.Share.{arr_parts}
use borrow.Table.Elements.{at, cut_app, join_app, same_len}
use borrow.Rule.Slice.Shared.{parts-cells}
use denote.RattleType.{RattleType}
use denote.Laws.{Is, Tells, Makes, shows}
use denote.Memory.{mem, lone, part_at, part_of, cell_at, shares}
use denote.Array.{Array, array_vals, Array-Tells, Array-Makes}
use denote.ArrayMemory.{Single, Array-apart, Array-whole}
use denote.Ref.{MutBor}
use denote.Slice.{slice_val, MutSlice, Room, finally}
use denote.Lend.{Held, lends_slice, slice_back}
use denote.Steps.{only, owned, peeks}

module _ (R : RattleType) (vals : R.Denot → List Val) where
  abbrev pub value : List R.Denot → Val
  value xs = only (array_vals vals xs)

abbrev pub at_list : {X : Type 0} → ℕ → GName → List X → MutBor (List X)
at_list b γ ys = record { ref_ptr = (b, zero); ghost_name = γ; now = ys }

module _ {M : Type 1} {𝓤 : Ura M} (𝓛 : Logic 𝓤) (R : RattleType) (one : Single R.mir) (mk : Makes 𝓛 R (Is R))
    (vals : R.Denot → List Val) (tells : Tells R (Is R) vals) (N : ℕ) (b : ℕ) where
  open 𝓛 use {H, A}

  abbrev X : Type 0
  X = R.Denot

  abbrev τ : Ty
  τ = ty_array (lone R.mir) N

  -- the elements behind the first k
  abbrev pub rest : ℕ → List X → Fml
  rest k xs = cells (mem R) (drop-list k xs) b (at zero (mem R).size (length (take k xs)))

  into_cells : (xs : List X) → Is (Array R N) xs (array_vals vals xs)
      → ent 𝓤 (sem 𝓛 (fat full_share τ b zero (value R vals xs))) (sem 𝓛 (cells (mem R) xs b zero))
  unfolding part_of
  into_cells xs is =
      qed 𝓛 (‵ (fat full_share τ b zero (value R vals xs)) ∷ []) ∵
      use1 𝓛 (‵ (cell_at full_share (Array R N).mir (array_vals vals xs) b zero)) (𝓛.laws.at_raw full_share τ b zero (value R vals xs)) $
      owned ! (Array R N) (Is (Array R N)) (Array-Makes 𝓛 R mk N) xs (array_vals vals xs) is $ move ! (1 ∷ 0 ∷ []) $ fjoin ! $
      fpack ! (List Val) (λ vs. fsep (cell_at full_share (Array R N).mir vs b zero) ((Array R N).own_val xs vs)) (array_vals vals xs) $
      use1 𝓛 (‵ ((arr_parts (shares R) N).part full_share xs b zero)) (Array-apart 𝓛 R full_share one N xs b zero) $ fsplit ! $ feq_l ! (λ _.
      rewrite ! 0 (λ (F : Fml). ‵ F) (parts-cells R full_share xs b zero) refl $ done !)

  abbrev pub Out : Lifetime → Lft → ℕ → List X → GName → SProp 𝓤
  Out ℓ κ k xs γ =
      sep 𝓤 (sem 𝓛 ((MutSlice ℓ κ R).own_val (at_list b γ (take k xs)) (slice_val (b, zero) (length (take k xs)) ∷ [])))
      (sep 𝓤 (sem 𝓛 (flent κ (Held R (length (take k xs)) b zero γ))) (sem 𝓛 (rest k xs)))

  pub goes_out : (ℓ : Lifetime) (κ : Lft) (k : ℕ) (xs : List X) → Is (Array R N) xs (array_vals vals xs) → Room R (length (take k xs))
      → ent 𝓤 (sem 𝓛 (fat full_share τ b zero (value R vals xs))) (H.⇛ (ex 𝓤 (Out ℓ κ k xs)))
  goes_out ℓ κ k xs is room =
      qed 𝓛 (‵ (fat full_share τ b zero (value R vals xs)) ∷ []) ∵ updating ! $ use1 𝓛 (‵ (cells (mem R) xs b zero)) (into_cells xs is) $
      rewrite ! 0 (λ (l : List X). ‵ (cells (mem R) l b zero)) (sym (take-append-drop k xs)) refl $
      use1 𝓛 (‵ (cells (mem R) (take k xs) b zero) ⊛ ‵ (rest k xs)) (cut_app 𝓛 (mem R) (take k xs) (drop-list k xs) b zero) $ split ! $
      use1 𝓛 (later (some (λ (γ : GName). ‵ ((MutSlice ℓ κ R).own_val (at_list b γ (take k xs)) (slice_val (b, zero) (length (take k xs)) ∷ []))
      ⊛ ‵ (flent κ (Held R (length (take k xs)) b zero γ))))) (lends_slice 𝓛 R ℓ κ (take k xs) b zero room) $ await ! tt $
      pick ! (λ γ. split ! $ at_once ! $ show ! (Out ℓ κ k xs) γ $ frame ! $ frame ! $ done !)

  pub comes_home : (κ : Lft) (γ : GName) (k : ℕ) (xs zs : List X) → length xs ≡ N
      → ent 𝓤 (sep 𝓤 (A.dead κ) (sep 𝓤 (sem 𝓛 (flent κ (Held R (length (take k xs)) b zero γ)))
      (sep 𝓤 (sem 𝓛 (finally R γ zs)) (sem 𝓛 (rest k xs)))))
      (H.⇛ (guard 𝓤 (Is (Array R N) (zs ++ drop-list k xs) (array_vals vals (zs ++ drop-list k xs)))
      (sem 𝓛 (fat full_share τ b zero (value R vals (zs ++ drop-list k xs))))))
  unfolding part_of
  comes_home κ γ k xs zs long =
      let ys : List X = zs ++ drop-list k xs in
      qed 𝓛 (‵ (fdead κ) ∷ ‵ (flent κ (Held R (length (take k xs)) b zero γ)) ∷ ‵ (finally R γ zs) ∷ ‵ (rest k xs) ∷ []) ∵ updating ! $
      use3 𝓛 (later (‵ ((Arr (mem R) (length (take k xs))).own_at zs b zero))) (slice_back 𝓛 R κ γ zs (length (take k xs)) b zero) $
      await ! tt $ fsplit ! $ feq_l ! (λ e.
      rewrite ! 1 (λ (j : ℕ). ‵ (cells (mem R) (drop-list k xs) b (at zero (mem R).size j))) (sym e) refl $
      use2 𝓛 (‵ (cells (mem R) ys b zero)) (join_app 𝓛 (mem R) zs (drop-list k xs) b zero) $
      rewrite ! 0 (λ (F : Fml). ‵ F) (sym (parts-cells R full_share ys b zero)) refl $ feq_i ! ℕ (length ys) N (same_len k xs zs e ∙ long) $ fjoin ! $
      use1 𝓛 (‵ (part_at (Array R N) full_share ys b zero)) (Array-whole 𝓛 R full_share N ys b zero) $
      fpick ! (λ vs. fsplit ! $ move ! (1 ∷ []) $ peeks ! (Array R N) (Is (Array R N)) (shows 𝓛 (Array R N)) ys vs (λ is. drop ! $
      rewrite ! 0 (λ (us : List Val). ‵ (cell_at full_share (Array R N).mir us b zero)) (Array-Tells R vals tells N ys vs is) refl $
      use1 𝓛 (‵ (fat full_share τ b zero (value R vals ys))) (𝓛.laws.raw_at full_share τ b zero (value R vals ys)) $ at_once ! $
      check ! (subst (Is (Array R N) ys) (Array-Tells R vals tells N ys vs is) is) $ done !)))
