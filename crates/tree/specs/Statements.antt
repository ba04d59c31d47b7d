-- What is claimed of Tree-PLRU, as closed statements. The theorem of each has its name in small letters, stands in proofs/, and is of exactly that
-- type.
use Rattle.std.specs.Prelude.{◌≡◌, true, false, ℕ, ◌^◌, ◌≤◌, ◌<◌}
use Rattle.waymap.specs.Bits.{Bits, bit, word, any}
use Rattle.waymap.specs.Ways.{takes}
use Rattle.tree.specs.Tree.{left, right, under, victim, masked_victim, touch, reset}
use Rattle.tree.specs.Calls.{change_of, reset_of}

-- The walk by free nodes' bits and forced directions and the walk by the masked word choose the same victim: for every fill map, every word and every
-- number of ways up to 64.
abbrev pub WalkIsMasked : Type 0
WalkIsMasked = (W : ℕ) (m : Bits) (x : ℕ) → W ≤ 64 → victim W m (bit x) ≡ masked_victim W m x

-- Where W is a power of two, every way in a node's left half is lower than every way in its right half.
abbrev pub LeftLower : Type 0
LeftLower = (k i v w : ℕ) → v < 2 ^ k → w < 2 ^ k → under (2 ^ k) (left i) v ≡ true → under (2 ^ k) (right i) w ≡ true → v < w

-- The victim of a fill map with a way below W is a way below W in that map, whatever the word.
abbrev pub VictimIn : Type 0
VictimIn = (W : ℕ) (m b : Bits) → any W m ≡ true → (victim W m b < W) × (m (victim W m b) ≡ true)

-- `change` and `reset` together are the rule's change of fill map.
abbrev pub ChangeResets : Type 0
ChangeResets =
    (W old new x : ℕ) → takes W old ≡ true → takes W new ≡ true → reset_of x (change_of W old new) ≡ word 64 (reset W (bit old) (bit new) (bit x))

-- A touch of a way that is not in the fill map turns no node.
abbrev pub TouchOutside : Type 0
TouchOutside = (W : ℕ) (m : Bits) (w : ℕ) (b : Bits) → m w ≡ false → (i : ℕ) → touch W m w b i ≡ b i

-- So it leaves every word of 64 bits as it is.
abbrev pub WordOutside : Type 0
WordOutside = (W map w x : ℕ) → x < 2 ^ 64 → bit map w ≡ false → word 64 (touch W (bit map) w (bit x)) ≡ x
