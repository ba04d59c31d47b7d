-- A set's row in the tables: lent and put back, and rows that do not touch.
use mathlib.Core.Path.{◌≡◌, refl, sym, ap, ap₂, subst, ◌∙◌}
use mathlib.Core.Bool.{true, ◌&&◌}
use mathlib.Core.List.{List, ◌++◌, append_assoc}
use Prim.Native.Nat.{ℕ, zero, suc, ◌+◌, ◌-◌, ◌*◌, ◌≤◌, ◌<◌}
use native.Mathlib.Nat.{mul-le-mul_right, suc-mul}
use native.Mathlib.Omega.{arith}
use lib.Dec.{eqb, ltb}
use borrow.Author.Tests.{eqb-true, eqb-false, ltb-true, ltb-false}
use lib.ListN.{length, take, drop, length-set, length-append, length-drop, take-append-drop}
use lib.Seq.{length-take-le, take-append-le, drop-append-le, drop-append-add, take_at, drop_at, drop-drop, get_or-set_same, get_or-set_other}
use Rattle.waymap.proofs.Booleans.{cases, and_left, and_right}
use Rattle.row.specs.Row.{Row}
use Rattle.geometry.specs.Geometry.{within, sized}
use Rattle.geometry.specs.declared.Geometry.{Geometry}
use Rattle.geometry.proofs.GeometryLaws.{limited}
use Rattle.steps.specs.Tables.{Tables, lengths, row_at, put_row, each_set}
use Rattle.steps.specs.Inside.{Shaped}

-- ---- lengths

-- there is room for a whole row
pub row_within : (s S W : ℕ) → s < S → s * W + W ≤ S * W
row_within s S W h = subst (λ (n : ℕ). n ≤ S * W) (suc-mul s W) (mul-le-mul_right W h)

-- what is within the limits and of the right lengths is shaped
pub shaped : (g : Geometry) (t : Tables) → within g ≡ true → sized g (lengths t) ≡ true → Shaped g t
unfolding sized
shaped g t w z =
    let tags = eqb (length t.tags) (g.sets * g.ways) in
    let valid = eqb (length t.valid) g.sets in
    let dirty = eqb (length t.dirty) g.sets in
    let words = eqb (length t.words) g.sets in
    let three = and_left (tags && valid && dirty) words z in
    let two = and_left (tags && valid) dirty three in
    record {
      limited = limited g w;
      tags_long = eqb-true (length t.tags) (g.sets * g.ways) (and_left tags valid two);
      valid_long = eqb-true (length t.valid) g.sets (and_right tags valid two);
      dirty_long = eqb-true (length t.dirty) g.sets (and_right (tags && valid) dirty three);
      words_long = eqb-true (length t.words) g.sets (and_right (tags && valid && dirty) words z);
    }

-- ---- parts of a list with another part put in: ys, k of them, from a on

module _ (xs ys : List ℕ) (a k : ℕ) (room : a + k ≤ length xs) (long : length ys ≡ k) where
  patched : List ℕ
  patched = take a xs ++ (ys ++ drop k (drop a xs))

  head_long : length (take a xs) ≡ a
  head_long = length-take-le a xs (omega arith)

  patched_long : length patched ≡ length xs
  unfolding patched
  patched_long =
      length-append (take a xs) (ys ++ drop k (drop a xs))
      ∙ ap₂ ◌+◌ head_long (length-append ys (drop k (drop a xs)) ∙ ap₂ ◌+◌ long (length-drop k (drop a xs) ∙ ap (λ (n : ℕ). n - k) (length-drop a xs)))
      ∙ rest
    where
      rest : a + (k + (length xs - a - k)) ≡ length xs
      rest = omega arith

  part_same : take k (drop a patched) ≡ ys
  unfolding patched
  part_same = ap (take k) (drop_at (take a xs) (ys ++ drop k (drop a xs)) a head_long) ∙ take_at ys (drop k (drop a xs)) k long

  part_before : (b : ℕ) → b + k ≤ a → take k (drop b patched) ≡ take k (drop b xs)
  unfolding patched
  part_before b h = front (ys ++ drop k (drop a xs)) ∙ sym (front (drop a xs)) ∙ ap (λ (l : List ℕ). take k (drop b l)) (take-append-drop a xs)
    where
      front : (zs : List ℕ) → take k (drop b (take a xs ++ zs)) ≡ take k (drop b (take a xs))
      front zs =
          ap (take k) (drop-append-le b (take a xs) zs (rw head_long (omega arith)))
          ∙ take-append-le k (drop b (take a xs)) zs (rw (length-drop b (take a xs), head_long) (omega arith))

  part_after : (b : ℕ) → a + k ≤ b → take k (drop b patched) ≡ take k (drop b xs)
  unfolding patched
  part_after b h = ap (take k) (beyond ∙ sym direct)
    where
      over : ℕ
      over = b - (a + k)

      both_long : length (take a xs ++ ys) ≡ a + k
      both_long = length-append (take a xs) ys ∙ ap₂ ◌+◌ head_long long

      at : a + k + over ≡ b
      at = omega arith

      beyond : drop b (take a xs ++ (ys ++ drop k (drop a xs))) ≡ drop over (drop k (drop a xs))
      beyond =
          ap (drop b) (sym (append_assoc (take a xs) ys (drop k (drop a xs))))
          ∙ ap (λ (n : ℕ). drop n ((take a xs ++ ys) ++ drop k (drop a xs))) (sym at ∙ ap (λ (n : ℕ). n + over) (sym both_long))
          ∙ drop-append-add (take a xs ++ ys) (drop k (drop a xs)) over

      direct : drop b xs ≡ drop over (drop k (drop a xs))
      direct = ap (λ (n : ℕ). drop n xs) (sym at) ∙ sym (drop-drop over (a + k) xs) ∙ ap (drop over) (sym (drop-drop k a xs))

-- ---- the rows of the tables

module _ (g : Geometry) where
  -- a set's row has W tags
  pub row_long : {t : Tables} → Shaped g t → (s : ℕ) → s < g.sets → length (row_at g.ways s t).tags ≡ g.ways
  unfolding row_at
  row_long {t} h s k =
      length-take-le g.ways (drop (s * g.ways) t.tags)
      (rw (length-drop (s * g.ways) t.tags, h.tags_long) (omega (arith, row_within s g.sets g.ways k)))

  module _ (t : Tables) (r : Row) (h : Shaped g t) (s : ℕ) (k : s < g.sets) (long : length r.tags ≡ g.ways) where
    room : s * g.ways + g.ways ≤ length t.tags
    room = rw h.tags_long (row_within s g.sets g.ways k)

    pub put_shaped : Shaped g (put_row g.ways s r t)
    unfolding put_row patched
    put_shaped = record {
      limited = h.limited;
      tags_long = patched_long t.tags r.tags (s * g.ways) g.ways room long ∙ h.tags_long;
      valid_long = length-set t.valid s r.valid ∙ h.valid_long;
      dirty_long = length-set t.dirty s r.dirty ∙ h.dirty_long;
      words_long = length-set t.words s r.word ∙ h.words_long;
    }

    pub row_put_same : row_at g.ways s (put_row g.ways s r t) ≡ r
    unfolding row_at put_row patched
    row_put_same = λ i. record {
      tags = part_same t.tags r.tags (s * g.ways) g.ways room long i;
      valid = get_or-set_same t.valid s r.valid 0 (rw h.valid_long k) i;
      dirty = get_or-set_same t.dirty s r.dirty 0 (rw h.dirty_long k) i;
      word = get_or-set_same t.words s r.word 0 (rw h.words_long k) i;
    }

    pub row_put_other : (u : ℕ) → (u ≡ s → ⊥) → row_at g.ways u (put_row g.ways s r t) ≡ row_at g.ways u t
    unfolding row_at put_row patched
    row_put_other u apart = λ i. record {
      tags = tags i;
      valid = get_or-set_other t.valid s u r.valid 0 apart i;
      dirty = get_or-set_other t.dirty s u r.dirty 0 apart i;
      word = get_or-set_other t.words s u r.word 0 apart i;
    }
      where
        tags : take g.ways (drop (u * g.ways) (take (s * g.ways) t.tags ++ (r.tags ++ drop g.ways (drop (s * g.ways) t.tags))))
            ≡ take g.ways (drop (u * g.ways) t.tags)
        tags =
            cases (ltb u s)
            (λ q. part_before t.tags r.tags (s * g.ways) g.ways room long (u * g.ways) (row_within u s g.ways (ltb-true u s q)))
            (λ q. part_after t.tags r.tags (s * g.ways) g.ways room long (u * g.ways)
            (row_within s u g.ways (omega (arith, ltb-false u s q, apart))))

  -- ---- every set's row

  module _ (f : Row → Row) (keeps : (r : Row) → length (f r).tags ≡ length r.tags) (t : Tables) (h : Shaped g t) where
    pub each_shaped : (n : ℕ) → n ≤ g.sets → Shaped g (each_set g.ways n f t)
    unfolding each_set
    each_shaped zero le = h
    each_shaped (suc n) le =
        put_shaped (each_set g.ways n f t) (f (row_at g.ways n t)) (each_shaped n (omega arith)) n le
        (keeps (row_at g.ways n t) ∙ row_long h n le)

    -- the sets from n on are as they were, and each before it is what f makes of it
    pub each_later : (n : ℕ) → n ≤ g.sets → (s : ℕ) → n ≤ s → row_at g.ways s (each_set g.ways n f t) ≡ row_at g.ways s t
    unfolding each_set
    each_later zero le s k = refl
    each_later (suc n) le s k =
        row_put_other (each_set g.ways n f t) (f (row_at g.ways n t)) (each_shaped n (omega arith)) n le
        (keeps (row_at g.ways n t) ∙ row_long h n le) s (λ e. omega arith)
        ∙ each_later n (omega arith) s (omega arith)

    pub each_row : (n : ℕ) → n ≤ g.sets → (s : ℕ) → s < n → row_at g.ways s (each_set g.ways n f t) ≡ f (row_at g.ways s t)
    unfolding each_set
    each_row zero le s k = absurd (omega arith)
    each_row (suc n) le s k =
        cases (eqb s n)
        (λ q. rw (eqb-true s n q)
        (row_put_same (each_set g.ways n f t) (f (row_at g.ways n t)) (each_shaped n (omega arith)) n le (keeps (row_at g.ways n t) ∙ row_long h n le)))
        (λ q. row_put_other (each_set g.ways n f t) (f (row_at g.ways n t)) (each_shaped n (omega arith)) n le
        (keeps (row_at g.ways n t) ∙ row_long h n le) s (eqb-false s n q)
        ∙ each_row n (omega arith) s (omega (arith, eqb-false s n q)))
