-- What is claimed of maps, words and the priority encoder, as closed statements. The theorem of each has its name in small letters, stands in
-- proofs/, and is of exactly that type.
use Rattle.std.specs.Prelude.{◌≡◌, true, false, not, ◌&&◌, ◌||◌, ℕ, suc, ◌+◌, ◌-◌, ◌*◌, ◌/◌, ◌%◌, ◌^◌, ◌≤◌, ◌<◌, eqb, leb, ltb}
use Rattle.std.specs.Bool.{xor}
use Rattle.std.specs.Int.Bits.{bit_and, bit_or, bit_xor}
use Rattle.std.specs.Int.Count.{count_leading_zeros, count_trailing_zeros}
use Rattle.waymap.specs.Bits.{Bits, bit, any, lowest, count}
use Rattle.waymap.specs.Encoder.{encode}

-- ---- The priority encoder

-- A way that passes, with none above it that does, is the one given.
abbrev pub EncodeIs : Type 0
EncodeIs = (n : ℕ) (p : Bits) (i : ℕ) → i < n → ((k : ℕ) → i < k → p k ≡ false) → p i ≡ true → encode n p ≡ i

-- The way given depends on the tests of the ways below n alone.
abbrev pub EncodeExt : Type 0
EncodeExt = (n : ℕ) (p q : Bits) → ((i : ℕ) → i < n → p i ≡ q i) → encode n p ≡ encode n q

-- Where some way passes, one of them is given.
abbrev pub EncodeFound : Type 0
EncodeFound = (n : ℕ) (p : Bits) → any n p ≡ true → (encode n p < n) × (p (encode n p) ≡ true)

-- Of up to sixteen ways, one passes if and only if one is given.
abbrev pub AnyEncode : Type 0
AnyEncode = (n : ℕ) (p : Bits) → n ≤ 16 → any n p ≡ ltb (encode n p) n

-- Where none passes from k on, a wider encoder gives the same.
abbrev pub EncodeWider : Type 0
EncodeWider = (k n : ℕ) (p : Bits) → k ≤ n → ((i : ℕ) → k ≤ i → p i ≡ false) → encode n p ≡ encode k p

-- Of a map that is not empty the machine's count of leading zeros says the way.
abbrev pub LeadingEncode : Type 0
LeadingEncode = (n x : ℕ) → (x ≡ 0 → ⊥) → x < 2 ^ n → n - 1 - count_leading_zeros n x ≡ encode n (bit x)

-- An empty map of sixteen ways has no highest, as it has no lowest.
abbrev pub EncodeEmpty : Type 0
EncodeEmpty = (x : ℕ) → x ≡ 0 → lowest 16 (bit x) ≡ encode 16 (bit x)

-- ---- Machine operations, bit by bit

-- Bit i of `and`, `or` and exclusive or is that operation on the operands' bits i.
abbrev pub BitAnd : Type 0
BitAnd = (a b i : ℕ) → bit (bit_and a b) i ≡ (bit a i && bit b i)

abbrev pub BitOr : Type 0
BitOr = (a b i : ℕ) → bit (bit_or a b) i ≡ (bit a i || bit b i)

abbrev pub BitXor : Type 0
BitXor = (a b i : ℕ) → bit (bit_xor a b) i ≡ xor (bit a i) (bit b i)

-- A complement in n bits turns each of them.
abbrev pub BitNot : Type 0
BitNot = (n x i : ℕ) → x < 2 ^ n → bit (2 ^ n - 1 - x) i ≡ (ltb i n && not (bit x i))

-- A shift moves the bits.
abbrev pub BitShl : Type 0
BitShl = (a k i : ℕ) → bit (a * 2 ^ k) i ≡ (leb k i && bit a (i - k))

abbrev pub BitShr : Type 0
BitShr = (a k i : ℕ) → bit (a / 2 ^ k) i ≡ bit a (k + i)

-- A remainder by 2 ^ k keeps the low k.
abbrev pub BitMod : Type 0
BitMod = (a k i : ℕ) → bit (a % 2 ^ k) i ≡ (bit a i && ltb i k)

-- Two words of n bits with equal bits are equal.
abbrev pub BitsEqual : Type 0
BitsEqual = (n x y : ℕ) → x < 2 ^ n → y < 2 ^ n → ((i : ℕ) → i < n → bit x i ≡ bit y i) → x ≡ y

-- ---- The ways one by one

-- The count of trailing zeros is the lowest way, and the width where the map is empty.
abbrev pub TrailingLowest : Type 0
TrailingLowest = (n x : ℕ) → count_trailing_zeros n x ≡ lowest n (bit x)

-- Of a map that is not zero the lowest way is a way of the map.
abbrev pub LowestIn : Type 0
LowestIn = (n x way : ℕ) → x < 2 ^ n → (x ≡ 0 → ⊥) → way ≡ lowest n (bit x) → bit x way ≡ true

-- No lower one is.
abbrev pub LowestLeast : Type 0
LowestLeast = (n x way : ℕ) → x < 2 ^ n → (x ≡ 0 → ⊥) → way ≡ lowest n (bit x) → (i : ℕ) → i < way → bit x i ≡ false

-- `x & (x - 1)` has the other ways.
abbrev pub RestBit : Type 0
RestBit =
    (n x way : ℕ) → x < 2 ^ n → (x ≡ 0 → ⊥) → way ≡ lowest n (bit x) → (i : ℕ) → bit (bit_and x (x - 1)) i ≡ (bit x i && not (eqb way i))

-- They are one less.
abbrev pub RestCount : Type 0
RestCount =
    (n x way : ℕ) → x < 2 ^ n → (x ≡ 0 → ⊥) → way ≡ lowest n (bit x) → count n (bit x) ≡ suc (count n (bit (bit_and x (x - 1))))
