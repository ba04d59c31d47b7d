-- Worked cases of the block, computed: lengths, and the order of numbers 12 and 1.
use Rattle.std.proofs.Common.{◌≡◌, [], ◌∷◌, take, refl}
use Rattle.waymap.specs.Bits.{any}
use Rattle.waymap.specs.Ways.{is_ways}
use Rattle.replacement.specs.Calls.{in_limits}
use Rattle.endian.specs.Bytes.{sum, digits}
use Rattle.geometry.specs.Geometry.{is_power, within}
use Rattle.block.specs.Layout.{sizes, block_bytes, head_of}
use Rattle.block.specs.Block.{length_refusal, padded, number_in}

-- One set of four ways: 564 bytes; the largest cache: 573,960. The tables begin at byte 520.
one_set : block_bytes (record { sets = 1; ways = 4; rule = 0 }) ≡ 564
unfolding sizes
one_set = refl

largest : block_bytes (record { sets = 4096; ways = 16; rule = 2 }) ≡ 573960
unfolding sizes
largest = refl

tables_at : sum (take 4 (sizes (record { sets = 1; ways = 4; rule = 0 }))) ≡ 520
unfolding sizes
tables_at = refl

-- 256 sets of 8 ways under NRU: the first eight bytes.
head : head_of (record { sets = 256; ways = 8; rule = 1 }) ≡ 0 ∷ 1 ∷ 8 ∷ 1 ∷ 0 ∷ 0 ∷ 0 ∷ 0 ∷ []
unfolding head_of digits
head = refl

-- Seven bytes are 12, whatever the geometry; 65,537 sets are 1, though the length is wrong too; a wrong length is 12.
too_short : length_refusal (record { sets = 65537; ways = 4; rule = 0 }) 7 ≡ 12
unfolding length_refusal
too_short = refl

many_sets : length_refusal (record { sets = 65537; ways = 4; rule = 0 }) 8 ≡ 1
unfolding length_refusal within is_power any in_limits is_ways
many_sets = refl

wrong_length : length_refusal (record { sets = 1; ways = 4; rule = 0 }) 563 ≡ 12
unfolding length_refusal within is_power any in_limits is_ways sizes
wrong_length = refl

-- An eviction has all three fields; a refusal's other two are zero, and its number is the call's.
evicted : padded (2 ∷ 3 ∷ 77 ∷ 1 ∷ []) ≡ 2 ∷ 3 ∷ 77 ∷ 1 ∷ []
unfolding padded
evicted = refl

refused : padded (7 ∷ 12 ∷ []) ≡ 7 ∷ 12 ∷ 0 ∷ 0 ∷ []
unfolding padded
refused = refl

number : number_in (7 ∷ 12 ∷ []) ≡ 12
unfolding number_in
number = refl
