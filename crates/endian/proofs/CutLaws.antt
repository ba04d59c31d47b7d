-- Parts side by side: how they lie, how they are put together, and a write into one of them.
use mathlib.Core.Path.{◌≡◌, refl, ap, ap₂, sym, ◌∙◌}
use mathlib.Core.List.{List, [], ◌∷◌, ◌++◌, map, append-nil}
use Prim.Native.Nat.{ℕ, zero, suc, ◌+◌, ◌-◌, ◌≤◌, ◌<◌}
use native.Mathlib.Nat.{zero-add, add-suc}
use native.Mathlib.Omega.{arith}
use lib.ListN.{length, get_or, take, drop, set, length-append, length-drop, take-append-drop}
use lib.Seq.{sets, sets-eq, length-take-le, take-set-lt, drop-set-lt, take-set-le, drop-set-add, drop-drop, take-nil, take-take, drop-length}
use lib.Seq.{take-append_seam, drop-append_seam}
use Rattle.endian.specs.Bytes.{cut, sum, joined}

-- ---- a run of stores, before and behind a place

pub take_sets_in : (n i : ℕ) (vs l : List ℕ) → i + length vs ≤ n → take n (sets l i vs) ≡ sets (take n l) i vs
take_sets_in n i [] l h = refl
take_sets_in n i (v ∷ vs) l h =
    take_sets_in n (suc i) vs (set l i v) (omega arith) ∙ ap (λ (xs : List ℕ). sets xs (suc i) vs) (take-set-lt n l i v (omega arith))

pub drop_sets_in : (n i : ℕ) (vs l : List ℕ) → i + length vs ≤ n → drop n (sets l i vs) ≡ drop n l
drop_sets_in n i [] l h = refl
drop_sets_in n i (v ∷ vs) l h = drop_sets_in n (suc i) vs (set l i v) (omega arith) ∙ drop-set-lt n l i v (omega arith)

pub take_sets_out : (n i : ℕ) (vs l : List ℕ) → n ≤ i → take n (sets l i vs) ≡ take n l
take_sets_out n i [] l h = refl
take_sets_out n i (v ∷ vs) l h = take_sets_out n (suc i) vs (set l i v) (omega arith) ∙ take-set-le n l i v h

pub drop_sets_out : (n k : ℕ) (vs l : List ℕ) → drop n (sets l (n + k) vs) ≡ sets (drop n l) k vs
drop_sets_out n k [] l = refl
drop_sets_out n k (v ∷ vs) l =
    ap (λ (i : ℕ). drop n (sets (set l (n + k) v) i vs)) (sym (add-suc n k))
    ∙ drop_sets_out n (suc k) vs (set l (n + k) v)
    ∙ ap (λ (xs : List ℕ). sets xs (suc k) vs) (drop-set-add n l k v)

-- A run of stores over the whole list leaves what was stored.
pub sets_all : (vs l : List ℕ) → length vs ≡ length l → sets l 0 vs ≡ vs
sets_all vs l e =
    let all : 0 + length vs ≡ length l = omega arith in
    let none : drop (0 + length vs) l ≡ [] = ap (λ (k : ℕ). drop k l) all ∙ drop-length l in
    sets-eq vs l 0 (omega arith) ∙ ap (λ (xs : List ℕ). vs ++ xs) none ∙ append-nil vs

-- ---- where a part lies

pub cut_long : (ns bytes : List ℕ) → length (cut ns bytes) ≡ length ns
unfolding cut
cut_long [] bytes = refl
cut_long (n ∷ ns) bytes = ap suc (cut_long ns (drop n bytes))

-- A part within a part.
pub part_in : (m j l : ℕ) (xs : List ℕ) → j + m ≤ l → take m (drop j (take l xs)) ≡ take m (drop j xs)
part_in m zero l xs h = take-take m l xs (omega arith)
part_in m (suc j) l [] h = rw (take-nil {A = ℕ} l)
part_in m (suc j) zero (x ∷ xs) h = absurd (omega arith)
part_in m (suc j) (suc l) (x ∷ xs) h = part_in m j l xs (omega arith)

pub cut_part : (ns bytes : List ℕ) (i : ℕ) → i < length ns → get_or (cut ns bytes) i [] ≡ take (get_or ns i 0) (drop (sum (take i ns)) bytes)
unfolding cut
cut_part [] bytes i h = absurd (omega arith)
cut_part (n ∷ ns) bytes zero h = refl
cut_part (n ∷ ns) bytes (suc i) h =
    cut_part ns (drop n bytes) i (omega arith) ∙ ap (take (get_or ns i 0)) (drop-drop (sum (take i ns)) n bytes)

-- ---- put together

pub join_cut : (ns bytes : List ℕ) → length bytes ≡ sum ns → joined (cut ns bytes) ≡ bytes
unfolding cut joined
join_cut [] [] e = refl
join_cut [] (b ∷ bytes) e = absurd (omega arith)
join_cut (n ∷ ns) bytes e =
    ap (λ (xs : List ℕ). take n bytes ++ xs) (join_cut ns (drop n bytes) (length-drop n bytes ∙ omega arith)) ∙ take-append-drop n bytes

pub cut_join : (ps : List (List ℕ)) → cut (map length ps) (joined ps) ≡ ps
unfolding cut joined
cut_join [] = refl
cut_join (p ∷ ps) =
    ap₂ (λ (x : List ℕ) (xs : List (List ℕ)). x ∷ xs) (take-append_seam p (joined ps))
    (ap (cut (map length ps)) (drop-append_seam p (joined ps)) ∙ cut_join ps)

pub joined_long : (ps : List (List ℕ)) → length (joined ps) ≡ sum (map length ps)
unfolding joined
joined_long [] = refl
joined_long (p ∷ ps) = length-append p (joined ps) ∙ ap (λ (k : ℕ). length p + k) (joined_long ps)

-- ---- a write into one of them

-- What is stored within part i stays in it, and the others are as they were.
pub cut_sets : (ns bytes : List ℕ) (i j : ℕ) (vs : List ℕ) → i < length ns → j + length vs ≤ get_or ns i 0
    → cut ns (sets bytes (sum (take i ns) + j) vs) ≡ set (cut ns bytes) i (sets (get_or (cut ns bytes) i []) j vs)
unfolding cut
cut_sets [] bytes i j vs h l = absurd (omega arith)
cut_sets (n ∷ ns) bytes zero j vs h l =
    rw (zero-add j) (ap₂ (λ (x : List ℕ) (xs : List (List ℕ)). x ∷ xs) (take_sets_in n j vs bytes l) (ap (cut ns) (drop_sets_in n j vs bytes l)))
cut_sets (n ∷ ns) bytes (suc i) j vs h l =
    let before : ℕ = sum (take i ns) in
    let place : n + before + j ≡ n + (before + j) = omega arith in
    rw place
    (ap₂ (λ (x : List ℕ) (xs : List (List ℕ)). x ∷ xs) (take_sets_out n (n + (before + j)) vs bytes (omega arith))
    (ap (cut ns) (drop_sets_out n (before + j) vs bytes) ∙ cut_sets ns (drop n bytes) i j vs (omega arith) l))

-- Each part is whole where there are bytes enough.
pub part_long : (ns bytes : List ℕ) (i : ℕ) → i < length ns → sum ns ≤ length bytes → length (get_or (cut ns bytes) i []) ≡ get_or ns i 0
unfolding cut
part_long [] bytes i h l = absurd (omega arith)
part_long (n ∷ ns) bytes zero h l = length-take-le n bytes (omega arith)
part_long (n ∷ ns) bytes (suc i) h l =
    let rest : length (drop n bytes) ≡ length bytes - n = length-drop n bytes in
    part_long ns (drop n bytes) i (omega arith) (omega arith)

-- Each part ends within the whole.
pub parts_end : (ns : List ℕ) (i : ℕ) → i < length ns → sum (take i ns) + get_or ns i 0 ≤ sum ns
parts_end [] i h = absurd (omega arith)
parts_end (n ∷ ns) zero h = omega arith
parts_end (n ∷ ns) (suc i) h = omega (arith, parts_end ns i (omega arith))
