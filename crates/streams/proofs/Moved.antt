-- What came behind a front, and what a reader has given.
use Rattle.std.proofs.Common.{◌≡◌, ℕ, ◌+◌, ◌-◌, ◌≤◌, List, ◌++◌, min, Option, None, Some, IfSome, length, take, drop, sym, ap, ◌∙◌, arith, le_refl, drop_at, length-take-le, length-append, length-drop}
use Rattle.std.proofs.lemmas.List.{take_min, take_rest}
use Rattle.std.proofs.lemmas.Slice.{take-put_mid_below}
use Rattle.std.specs.Io.{StartsWith}
use borrow.Rule.Slice.PartMut.{put_mid, post_of}
use lib.Seq.{take-add, take-append-le}

-- A part that was read into: the front, and then what came.
pub front_and_read : (a k n : ℕ) (xs ys : List ℕ) → a ≤ length xs → n ≤ length ys → take (a + n) (put_mid a k xs ys) ≡ take a xs ++ take n ys
front_and_read a k n xs ys within fits =
    let after = post_of a k xs in
    let rest : take n (drop a (put_mid a k xs ys)) ≡ take n ys =
    ap (take n) (drop_at (take a xs) (ys ++ after) a (length-take-le a xs within)) ∙ take-append-le n ys after fits in
    take-add a n (put_mid a k xs ys) ∙ ap (λ l. l ++ take n (drop a (put_mid a k xs ys))) (take-put_mid_below a k xs ys a (le_refl a) within) ∙ ap (λ l. take a xs ++ l) rest

-- There is room for both.
pub room_for_both : (a k n : ℕ) (xs ys : List ℕ) → a ≤ length xs → n ≤ length ys → a + n ≤ length (put_mid a k xs ys)
room_for_both a k n xs ys within fits =
    let after = post_of a k xs in
    omega (arith, length-append (take a xs) (ys ++ after), length-append ys after, length-take-le a xs within)

-- A part that was written: the front, and then what was taken.
pub front_and_written : (a n : ℕ) (xs : List ℕ) → take a xs ++ take n (take (length xs - a) (drop a xs)) ≡ take (a + n) xs
front_and_written a n xs = ap (λ l. take a xs ++ take n l) (take_rest xs a) ∙ sym (take-add a n xs)

-- No more was taken than there was.
pub within_both : (a n : ℕ) (xs : List ℕ) → a ≤ length xs → n ≤ length (take (length xs - a) (drop a xs)) → a + n ≤ length xs
within_both a n xs within fits = omega (arith, ap length (take_rest xs a), length-drop a xs)

-- What was kept of an input that was read to its end is what it has, as far as there is room.
pub kept_front : (known : Option (List ℕ)) (file : List ℕ) (count n : ℕ) → count ≡ length (take count file)
    → IfSome known (λ bytes. StartsWith bytes (take count file)) → IfSome known (λ bytes. count ≡ min (length bytes) n)
    → IfSome known (λ bytes. take count file ≡ take n bytes)
kept_front None file count n long front whole = tt
kept_front (Some bytes) file count n long front whole =
    let many : count ≡ min n (length bytes) = omega (arith, whole) in
    sym front ∙ ap (λ k. take k bytes) (sym long ∙ many) ∙ take_min n bytes
