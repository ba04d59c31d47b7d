-- What is claimed of policies, as a closed statement. The theorem has its name in small letters, stands in proofs/, and is of exactly that type.
use Rattle.std.specs.Prelude.{◌≡◌, false, ℕ}
use Rattle.policy.specs.Policy.{as_read, new_maps, bad_argument}

-- An argument that number 5 lets stand says maps that read as they are.
abbrev pub GoodMaps : Type 0
GoodMaps = (W arg : ℕ) → bad_argument W arg ≡ false → as_read W (new_maps arg) ≡ new_maps arg
