-- What is claimed of true LRU, as closed statements. The theorem of each has its name in small letters, stands in proofs/, and is of exactly that
-- type.
use Rattle.std.specs.Prelude.{◌≡◌, true, ℕ, ◌^◌, ◌≤◌, ◌<◌, ltb, length}
use Rattle.waymap.specs.Bits.{Bits, bit, digit, any}
use Rattle.waymap.specs.Ways.{takes}
use Rattle.lru_rule.specs.Lru.{Order, word_of, times, order, written}
use Rattle.lru_rule.specs.Lru.{kept, touched, touch, victim, changes, aged, reset, before}
use Rattle.lru_rule.specs.Calls.{change_of, reset_of}

-- ---- Orders

-- An order has no way of n or higher.
abbrev pub Below : ℕ → Order → Type 0
Below n o = (w : ℕ) → n ≤ w → times w o ≡ 0

-- An order has each way below W exactly once, and no other.
abbrev pub Each : ℕ → Order → Type 0
Each W o = (w : ℕ) → times w o ≡ digit (ltb w W)

-- Of each two ways of a map, the same stands before the other in two orders.
abbrev pub Agree : Bits → Order → Order → Type 0
Agree m o q = (v w : ℕ) → m v ≡ true → m w ≡ true → before o v w ≡ before q v w

-- ---- The rule

-- The victim of a fill map with a way below W is a way below W in that map, whatever the word.
abbrev pub VictimIn : Type 0
VictimIn = (W : ℕ) (m : Bits) (x : ℕ) → any W m ≡ true → (victim W m x < W) × (m (victim W m x) ≡ true)

-- `change` and `reset` together are the rule's change of fill map.
abbrev pub ChangeResets : Type 0
ChangeResets =
    (W old new : ℕ) → takes W old ≡ true → takes W new ≡ true → old < 2 ^ 16 → new < 2 ^ 16
    → (x : ℕ) → reset_of W x (change_of old new) ≡ reset W (bit old) (bit new) x

-- Where the fill map stays, words stay.
abbrev pub SameResets : Type 0
SameResets = (W x : ℕ) (m : Bits) → reset W m m x ≡ x

-- ---- Words and orders

-- Whatever the word, the order that it is read as has each way below W exactly once and no other.
abbrev pub OrderEach : Type 0
OrderEach = (W x : ℕ) → Each W (order W x)

-- The word of such an order is read as that order.
abbrev pub OrderWord : Type 0
OrderWord = (W : ℕ) → W ≤ 16 → (o : Order) → Each W o → order W (word_of o) ≡ o

-- Two orders of as many ways, all below sixteen, with the same word are the same.
abbrev pub WordTold : Type 0
WordTold = (o q : Order) → Below 16 o → Below 16 q → length o ≡ length q → word_of o ≡ word_of q → o ≡ q

-- An order that is written is read, also where the word was left because that is how it was read.
abbrev pub OrderWritten : Type 0
OrderWritten = (W : ℕ) → W ≤ 16 → (x : ℕ) (o : Order) → Each W o → order W (written W x o) ≡ o

-- After a touch, and after a change of fill map, what is read is the order that the rule says.
abbrev pub TouchOrder : Type 0
TouchOrder = (W : ℕ) → W ≤ 16 → (m : Bits) (u x : ℕ) → order W (touch W m u x) ≡ touched m u (order W x)

abbrev pub ResetOrder : Type 0
ResetOrder = (W : ℕ) → W ≤ 16 → (old new : Bits) (x : ℕ) → order W (reset W old new x) ≡ aged W (changes old new) (order W x)

-- Again with each way once.
abbrev pub TouchedEach : Type 0
TouchedEach = (W : ℕ) (m : Bits) (w x : ℕ) → Each W (touched m w (order W x))

abbrev pub AgedEach : Type 0
AgedEach = (W : ℕ) (moves : Bits) (x : ℕ) → Each W (aged W moves (order W x))

-- An order's ways of a map are known by which of each two stands before the other.
abbrev pub OwnKnown : Type 0
OwnKnown = (W : ℕ) (m : Bits) (x y : ℕ) → Agree m (order W x) (order W y) → kept m (order W x) ≡ kept m (order W y)

-- And a whole order is, where no way stands in it twice.
abbrev pub OrderKnown : Type 0
OrderKnown =
    (o q : Order) → ((w : ℕ) → times w o ≡ times w q) → ((w : ℕ) → times w o ≤ 1) → ((v w : ℕ) → before o v w ≡ before q v w) → o ≡ q

-- W places that miss no way hold each once, and nothing else.
abbrev pub NoneMissing : Type 0
NoneMissing = (W : ℕ) (o : Order) → length o ≡ W → ((w : ℕ) → w < W → 1 ≤ times w o) → Each W o
