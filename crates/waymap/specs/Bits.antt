-- Maps of ways and machine words as rows of bits.
use Rattle.std.specs.Prelude.{Bool, true, false, cond, ◌&&◌, ◌||◌, List, [], ◌∷◌, ◌++◌, ℕ, zero, suc, ◌+◌, ◌*◌, ◌/◌, ◌%◌, ◌^◌, eqb, leb}

-- A row of bits: what a map says of each way, or a word of each place.
abbrev pub Bits : Type 0
Bits = ℕ → Bool

-- Bit i of a number. Document 01: "A map is a 16-bit word whose bit w stands for way w", so way w is in map m where `bit m w` is true.
unfoldable pub bit : ℕ → Bits
bit n i = eqb (n / 2 ^ i % 2) 1

-- A bit as a number.
abbrev pub digit : Bool → ℕ
digit true = 1
digit false = 0

-- The number below 2 ^ n with the given bits, the lowest first.
unfoldable pub word : ℕ → Bits → ℕ
word zero f = 0
word (suc n) f = digit (f 0) + 2 * word n (λ i. f (suc i))

-- Whether some place below n passes the test.
unfoldable pub any : ℕ → Bits → Bool
any zero p = false
any (suc n) p = p 0 || any n (λ i. p (suc i))

-- The lowest place below n that passes the test; n if none does.
unfoldable pub lowest : ℕ → Bits → ℕ
lowest zero p = 0
lowest (suc n) p = cond (p 0) 0 (suc (lowest n (λ i. p (suc i))))

-- How many places below n pass the test.
unfoldable pub count : ℕ → Bits → ℕ
count zero p = 0
count (suc n) p = digit (p 0) + count n (λ i. p (suc i))

-- The places below n that pass the test, the lowest first.
unfoldable pub members : ℕ → Bits → List ℕ
members zero p = []
members (suc n) p = members n p ++ cond (p n) (n ∷ []) []

-- A map with way w made a member or not; its other ways stay.
unfoldable pub put : ℕ → Bool → ℕ → ℕ
put w on map = word 16 (λ v. cond (eqb w v) on (bit map v))

-- Whether a map holds a way of `ways` or higher.
unfoldable pub reaches : ℕ → ℕ → Bool
reaches ways map = any 16 (λ w. bit map w && leb ways w)
