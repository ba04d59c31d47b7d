-- What a replacement rule is to a cache: what it chooses, what it makes of the word, and which part of the word is a domain's own.
use Rattle.std.specs.Prelude.{Bool, false, ◌&&◌, ◌||◌, ℕ, zero, suc, ltb}
use Rattle.waymap.specs.Bits.{Bits, bit, word}
use Rattle.tree.specs.Tree as Tree
use Rattle.nru.specs.Nru as Nru
use Rattle.lru_rule.specs.Lru as Lru

-- Maps and words are numbers here, a map of 16 bits and a word of 64.
pub record Rule : Type 1 where
  -- the victim of a fill map and a word, and the word before its touch
  pub victim : ℕ → ℕ → ℕ
  pub before : ℕ → ℕ → ℕ
  -- the word after a touch: of a fill map, a way and a word
  pub touch : ℕ → ℕ → ℕ → ℕ
  -- the word after a change from an old fill map to a new one
  pub reset : ℕ → ℕ → ℕ → ℕ
  pub fresh : ℕ
  -- whether number 9 refuses two domains with these fill maps
  pub shares : ℕ → ℕ → Bool
  -- What a word says, cell by cell: of a tree the cells are its nodes, of NRU the ways, of true LRU the ordered pairs of ways.
  pub Cell : Type 0
  pub view : ℕ → Cell → Bool
  -- the cells that a fill map's choices go by, document 01's "own replacement bits" of its domain, and those that its touches may change
  pub own : ℕ → Cell → Bool
  pub writes : ℕ → Cell → Bool
  -- the own part of a word, as a word: for a fill map and a word
  pub part : ℕ → ℕ → ℕ

-- Bit i of a 64-bit word.
unfoldable pub bit64 : ℕ → Bits
bit64 x i = ltb i 64 && bit x i

-- "A domain's own replacement bits are its free nodes, or the NRU bits of its fill map."
abbrev pub tree : ℕ → Rule
tree W = record {
  victim = λ map x. Tree.victim W (bit map) (bit x);
  before = λ map x. x;
  touch = λ map w x. word 64 (Tree.touch W (bit map) w (bit x));
  reset = λ old new x. word 64 (Tree.reset W (bit old) (bit new) (bit x));
  fresh = 0;
  shares = λ map other. Tree.shares W (bit map) (bit other);
  Cell = ℕ;
  view = bit64;
  own = λ map. Tree.free W (bit map);
  writes = λ map. Tree.free W (bit map);
  part = λ map x. word 64 (Tree.own W (bit map) (bit x));
}

abbrev pub nru : ℕ → Rule
nru W = record {
  victim = λ map x. Nru.victim W (bit map) (bit x);
  before = λ map x. word 64 (Nru.before W (bit map) (bit x));
  touch = λ map w x. word 64 (Nru.touch (bit map) w (bit x));
  reset = λ old new x. word 64 (Nru.reset (bit old) (bit new) (bit x));
  fresh = word 64 (Nru.fresh W);
  shares = λ map other. false;
  Cell = ℕ;
  view = bit64;
  own = λ map. bit map;
  writes = λ map. bit map;
  part = λ map x. word 64 (Nru.own (bit map) (bit x));
}

-- "Here a domain's own replacement data is the relative order of its fill ways." A touch moves a way of the fill map past any other, so that it
-- may change every pair with a way of the map.
abbrev pub lru : ℕ → Rule
lru W = record {
  victim = λ map x. Lru.victim W (bit map) x;
  before = λ map x. x;
  touch = λ map w x. Lru.touch W (bit map) w x;
  reset = λ old new x. Lru.reset W (bit old) (bit new) x;
  fresh = Lru.word_of (Lru.fresh W);
  shares = λ map other. false;
  Cell = ℕ × ℕ;
  view = λ x c. Lru.before (Lru.order W x) c.0 c.1;
  own = λ map c. bit map c.0 && bit map c.1;
  writes = λ map c. bit map c.0 || bit map c.1;
  part = λ map x. Lru.own W (bit map) x;
}

-- "Rule: 0 Tree-PLRU, 1 NRU", and true LRU "becomes rule 2". A number outside the limits is refused before this is asked.
abbrev pub rule_of : ℕ → ℕ → Rule
rule_of zero W = tree W
rule_of (suc zero) W = nru W
rule_of (suc (suc r)) W = lru W
