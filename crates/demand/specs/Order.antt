-- The order that a word holds under true LRU, by the places of its ways.
use Rattle.std.specs.Prelude.{Bool, cond, ◌&&◌, ℕ, zero, suc, ◌+◌, ◌-◌, ◌*◌, ◌/◌, ◌%◌, ◌^◌, eqb, ltb}

-- "Fresh, place k holds way W − 1 − k": the word. Place 0 of n + 1 ways holds way n, and the others are those of n ways.
unfoldable pub fresh_word : ℕ → ℕ
fresh_word zero = 0
fresh_word (suc n) = n + 16 * fresh_word n

-- "4-bit places, place k from bit 4k up": the way at place k.
unfoldable pub way_at : ℕ → ℕ → ℕ
way_at x k = x / 16 ^ k % 16

-- How many of the numbers below n pass a test, and the first that does.
unfoldable pub how_many : ℕ → (ℕ → Bool) → ℕ
how_many zero p = 0
how_many (suc n) p = cond (p 0) 1 0 + how_many n (λ i. p (suc i))

unfoldable pub first_of : ℕ → (ℕ → Bool) → ℕ
first_of zero p = 0
first_of (suc n) p = cond (p 0) 0 (suc (first_of n (λ i. p (suc i))))

-- Whether a word holds each of W ways at exactly one place, and "places W and above are zero".
unfoldable pub is_order : ℕ → ℕ → Bool
is_order W x = eqb (how_many W (λ w. eqb (how_many W (λ k. eqb (way_at x k) w)) 1)) W && ltb x (16 ^ W)

-- The place of way w; a word that is no order "is read as fresh".
unfoldable pub place_of : ℕ → ℕ → ℕ → ℕ
place_of W x w = cond (is_order W x) (first_of W (λ k. eqb (way_at x k) w)) (W - 1 - w)
