-- What is claimed of NRU, as closed statements. The theorem of each has its name in small letters, stands in proofs/, and is of exactly that type.
use Rattle.std.specs.Prelude.{◌≡◌, true, ℕ, ◌^◌, ◌<◌}
use Rattle.waymap.specs.Bits.{Bits, bit, word, any}
use Rattle.nru.specs.Nru.{victim, reset}
use Rattle.nru.specs.Calls.{change_of, reset_of}

-- The victim of a fill map with a way below W is a way below W in that map, whatever the word.
abbrev pub VictimIn : Type 0
VictimIn = (W : ℕ) (m b : Bits) → any W m ≡ true → (victim W m b < W) × (m (victim W m b) ≡ true)

-- `change` and `reset` together are the rule's change of fill map.
abbrev pub ChangeResets : Type 0
ChangeResets = (old new x : ℕ) → old < 2 ^ 16 → new < 2 ^ 16 → reset_of x (change_of old new) ≡ word 64 (reset (bit old) (bit new) (bit x))
