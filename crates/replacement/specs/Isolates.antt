-- The laws by which a replacement rule keeps domains apart. Whatever rule meets them isolates, whatever its cells are: true LRU's are the
-- ordered pairs of ways, of which a fill map's choices go by the pairs inside it, while its touches may change every pair with a way in it.
use Rattle.std.specs.Prelude.{◌≡◌, true, false, ◌&&◌, ℕ, ◌<◌}
use Rattle.waymap.specs.Bits.{bit, any}
use Rattle.replacement.specs.Rule.{Rule}

-- Two words have the same own part for a fill map.
abbrev pub SameOwn : Rule → ℕ → ℕ → ℕ → Type 0
SameOwn R map x y = (c : R.Cell) → R.own map c ≡ true → R.view x c ≡ R.view y c

-- Two maps have no way in common.
abbrev pub Apart : ℕ → ℕ → Type 0
Apart map other = (w : ℕ) → (bit map w && bit other w) ≡ false

pub record Isolates (W : ℕ) (R : Rule) : Type 0 where
  -- the victim of a fill map that is not empty is one of its ways
  pub victim_in : (map x : ℕ) → any W (bit map) ≡ true → (R.victim map x < W) × (bit map (R.victim map x) ≡ true)
  -- it depends on the own part alone
  pub victim_own : (map x y : ℕ) → SameOwn R map x y → R.victim map x ≡ R.victim map y
  -- the word before the touch, and the touch: a cell that the map does not write stays
  pub before_stays : (map x : ℕ) (c : R.Cell) → R.writes map c ≡ false → R.view (R.before map x) c ≡ R.view x c
  pub touch_stays : (map w x : ℕ) (c : R.Cell) → R.writes map c ≡ false → R.view (R.touch map w x) c ≡ R.view x c
  -- and a cell that two words with the same own part agree on is one they agree on afterwards
  pub before_agrees : (map x y : ℕ) (c : R.Cell) → SameOwn R map x y → R.view x c ≡ R.view y c → R.view (R.before map x) c ≡ R.view (R.before map y) c
  pub touch_agrees : (map w x y : ℕ) (c : R.Cell) → SameOwn R map x y → R.view x c ≡ R.view y c → R.view (R.touch map w x) c ≡ R.view (R.touch map w y) c
  -- a change of fill map: a cell that two words agree on is one they agree on afterwards
  pub reset_agrees : (old new x y : ℕ) (c : R.Cell) → R.view x c ≡ R.view y c → R.view (R.reset old new x) c ≡ R.view (R.reset old new y) c
  -- and a cell that is given up comes out the same whatever it was
  pub reset_clears : (old new x y : ℕ) (c : R.Cell) → R.writes old c ≡ true → R.writes new c ≡ false
      → R.view (R.reset old new x) c ≡ R.view (R.reset old new y) c
  -- what a map goes by it also writes; an empty map writes nothing
  pub own_writes : (map : ℕ) (c : R.Cell) → R.own map c ≡ true → R.writes map c ≡ true
  pub empty_writes : (map : ℕ) (c : R.Cell) → ((w : ℕ) → bit map w ≡ false) → R.writes map c ≡ false
  -- of two maps without a common way that number 9 lets stand, neither goes by what the other writes
  pub own_apart : (map other : ℕ) (c : R.Cell) → Apart map other → R.shares map other ≡ false → R.own map c ≡ true → R.writes other c ≡ false
  -- number 9 lets an empty map stand beside any other
  pub shares_empty : (map other : ℕ) → ((w : ℕ) → bit map w ≡ false) → R.shares map other ≡ false
  -- number 9's test does not depend on the order of the two maps
  pub shares_sym : (map other : ℕ) → R.shares map other ≡ R.shares other map
  -- two words have the same own part where they agree on the own cells, and nowhere else
  pub part_same : (map x y : ℕ) → SameOwn R map x y → R.part map x ≡ R.part map y
  pub same_part : (map x y : ℕ) → R.part map x ≡ R.part map y → SameOwn R map x y
