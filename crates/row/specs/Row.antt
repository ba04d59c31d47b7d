-- The rules on one set: its tags, its valid and dirty map and its replacement word, and the maps of the domain that steps.
use Rattle.std.specs.Prelude.{Bool, true, false, cond, not, ◌&&◌, List, ℕ, length, get_or, set}
use Rattle.waymap.specs.Bits.{Bits, bit, any, count, put}
use Rattle.waymap.specs.Encoder.{encode}
use Rattle.replacement.specs.Rule.{Rule}
use Rattle.policy.specs.declared.Maps.{Maps}
use Rattle.lookup.specs.Lookup as Lookup
use Rattle.command.specs.declared.Answer.{Answer}
use Rattle.command.specs.declared.Answer.TheVariants.{Hit, Fill, Evict, Pass, Flush, Absent}

-- One set's part of the tables: "the W tags of a set side by side; valid and dirty, one 16-bit map per set each; replacement, one 64-bit
-- word per set".
pub record Row : Type 0 where
  pub tags : List ℕ
  pub valid : ℕ
  pub dirty : ℕ
  pub word : ℕ

-- What a step answers, and the set after it.
pub record Effect : Type 0 where
  pub answer : Answer
  pub row : Row

abbrev pub ways : Row → ℕ
ways r = length r.tags

-- The valid lines that a set has in some ways.
unfoldable pub lines_in : Bits → Row → ℕ
lines_in map r = count (ways r) (λ w. map w && bit r.valid w)

-- ---- Hit lookup

-- "It hits the lowest way of the domain's hit map that is valid with an equal tag".
abbrev pub is_hit : Row → ℕ → ℕ → Bool
is_hit r hit tag = Lookup.is_hit r.tags r.valid hit tag

abbrev pub hit_way : Row → ℕ → ℕ → ℕ
hit_way r hit tag = Lookup.hit_way r.tags r.valid hit tag

-- "how many ways it visited: the hit map's ways up to and including the one hit, or all of them without a hit"
abbrev pub visited : Row → ℕ → ℕ → ℕ
visited r hit tag = Lookup.visited r.tags r.valid hit tag

-- ---- Access

-- A hit: "the way is touched, and a store marks it dirty".
unfoldable pub hit_at : Rule → ℕ → Bool → ℕ → Row → Effect
hit_at R fill store w r = record {
  answer = Hit w;
  row = record { tags = r.tags; valid = r.valid; dirty = cond store (put w true r.dirty) r.dirty; word = R.touch fill w r.word };
}

-- "The filled way is valid, dirty only for a store, and touched." The word x is that before the touch.
unfoldable pub filled : Rule → ℕ → ℕ → Bool → ℕ → ℕ → Row → Row
filled R fill tag store w x r = record {
  tags = set r.tags w tag;
  valid = put w true r.valid;
  dirty = put w store r.dirty;
  word = R.touch fill w x;
}

-- An "invalid way of the fill map".
unfoldable pub vacant : Row → ℕ → Bits
vacant r fill w = bit fill w && not (bit r.valid w)

-- One of those "is filled": "among invalid ways [...] the highest way now wins" (document 02, job 8).
unfoldable pub fill_at : Rule → ℕ → ℕ → Bool → Row → Effect
fill_at R fill tag store r =
    let w = encode (ways r) (vacant r fill) in
    record { answer = Fill w; row = filled R fill tag store w r.word r }

-- "if none, the victim is evicted and its tag and dirtiness answered"
unfoldable pub evict_at : Rule → ℕ → ℕ → Bool → Row → Effect
evict_at R fill tag store r =
    let w = R.victim fill r.word in
    record {
      answer = Evict w (get_or r.tags w 0) (bit r.dirty w);
      row = filled R fill tag store w (R.before fill r.word) r;
    }

-- An access, by whether it hits, whether the fill map has a way, and whether one of them is invalid. "With an empty fill map it passes".
unfoldable pub access_by : Bool → Bool → Bool → Rule → Maps → ℕ → Bool → Row → Effect
access_by true some room R p tag store r = hit_at R p.fill store (hit_way r p.hit tag) r
access_by false false room R p tag store r = record { answer = Pass; row = r }
access_by false true true R p tag store r = fill_at R p.fill tag store r
access_by false true false R p tag store r = evict_at R p.fill tag store r

unfoldable pub access : Rule → Maps → ℕ → Bool → Row → Effect
access R p tag store r =
    access_by (is_hit r p.hit tag) (any (ways r) (bit p.fill)) (any (ways r) (vacant r p.fill)) R p tag store r

-- ---- Flush

-- "A hit, found as above, is made invalid and not dirty; its tag and all replacement bits stay. The answer is its way and whether it was
-- dirty". "Else the answer is absent".
unfoldable pub flush_at : Bool → ℕ → Row → Effect
flush_at true w r = record {
  answer = Flush w (bit r.dirty w);
  row = record { tags = r.tags; valid = put w false r.valid; dirty = put w false r.dirty; word = r.word };
}
flush_at false w r = record { answer = Absent; row = r }

unfoldable pub flush : Maps → ℕ → Row → Effect
flush p tag r = flush_at (is_hit r p.hit tag) (hit_way r p.hit tag) r
