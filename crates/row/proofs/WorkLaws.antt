-- What the steps on a set give, by what their tests find.
use mathlib.Core.Path.{◌≡◌, sym, ap, ◌∙◌}
use mathlib.Core.Bool.{Bool, true, false, not, ◌&&◌}
use mathlib.Core.List.{List}
use Prim.Native.Nat.{ℕ, ◌-◌, ◌^◌, ◌≤◌, ◌<◌}
use native.Mathlib.Omega.{arith}
use lib.Dec.{ltb}
use lib.Bits.{bit_and}
use lib.ListN.{length, get_or, set}
use borrow.Author.Tests.{ne_eqb, lt-ltb, le-ltb}
use Rattle.waymap.specs.Bits.{bit, any}
use Rattle.waymap.specs.Encoder.{encode}
use Rattle.waymap.proofs.Booleans.{cases}
use Rattle.waymap.proofs.BitLaws.{bit_and_lem, bit_not}
use Rattle.waymap.proofs.WordLaws.{bit_high}
use Rattle.waymap.proofs.WayLaws.{any_bits}
use Rattle.waymap.proofs.EncoderLaws.{encode_ext, any_encode, encode_wider}
use Rattle.waymap.proofs.MapLaws.{below_reach, none_empty}
use Rattle.replacement.specs.Rule.{Rule, rule_of}
use Rattle.row.specs.Row.{Row, Effect, is_hit, hit_way, hit_at, vacant, filled, fill_at, evict_at, access_by, access, flush_at, flush}
use Rattle.row.specs.Calls.{row_of}
use Rattle.row.specs.Inside.{Usable, ChoiceOf, untagged, lines_of, miss_at}
use Rattle.policy.specs.declared.Maps.{Maps}
use Rattle.row.specs.declared.Lines.{Lines}
use Rattle.command.specs.declared.Answer.TheVariants.{Hit, Fill, Evict, Pass, Flush, Absent}
use Rattle.nru.specs.declared.Choice.{Choice}
use Rattle.row.proofs.RuleLaws.{most_ways}
use Rattle.lookup.proofs.LookupLaws.{hit_below, miss_above}

-- ---- access

module _ (rule tag : ℕ) (store : Bool) (tags : List ℕ) (l : Lines) where
  abbrev row : Row
  row = row_of tags l

  abbrev R : Rule
  R = rule_of rule (length tags)

  pub serve_hit : (p : Maps) {way : ℕ} {k : Lines} → way ≡ hit_way row p.hit tag → way < length tags
      → k ≡ lines_of (hit_at R p.fill store way (untagged l)).row
      → record { answer = Hit way; row = row_of tags k } ≡ access R p tag store row
  unfolding access access_by hit_at
  serve_hit p {way} {k} e h f =
      let found : is_hit row p.hit tag ≡ true = hit_below tags l.valid p.hit tag (rw (← e) h) in
      rw (found, f, ← e)

  pub serve_pass : (p : Maps) → length tags ≡ hit_way row p.hit tag → any (length tags) (bit p.fill) ≡ false
      → record { answer = Pass; row = row } ≡ access R p tag store row
  unfolding access access_by
  serve_pass p e f = rw (miss_above tags l.valid p.hit tag (omega arith), f)

  pub serve_miss : (p : Maps) {q : Effect} → length tags ≡ hit_way row p.hit tag → any (length tags) (bit p.fill) ≡ true
      → q ≡ miss_at R p.fill tag store row → q ≡ access R p tag store row
  unfolding access access_by
  serve_miss p e f g =
      g ∙ rw (miss_above tags l.valid p.hit tag (omega arith), f)
      (cases (any (length tags) (vacant row p.fill)) (λ t. rw t) (λ t. rw t))

  -- the invalid ways of the fill map, as a map
  module _ (fill : ℕ) (u : Usable (length tags) rule fill) (valid_lt : l.valid < 2 ^ 16) where
    vacant_bit : (i : ℕ) → i < 16 → bit (bit_and fill (2 ^ 16 - 1 - l.valid)) i ≡ vacant row fill i
    unfolding vacant
    vacant_bit i h =
        bit_and_lem fill (2 ^ 16 - 1 - l.valid) i
        ∙ ap (λ (t : Bool). bit fill i && t) (bit_not 16 l.valid i valid_lt ∙ rw (lt-ltb i 16 h))

    vacant_within : (i : ℕ) → length tags ≤ i → vacant row fill i ≡ false
    unfolding vacant
    vacant_within i h = rw (bit_high (length tags) fill i (below_reach (length tags) fill u.small u.within) h)

    few : length tags ≤ 16
    few = most_ways (length tags) rule u.limits

    -- what the encoder gives of that map
    module _ {way : ℕ} (e : way ≡ encode 16 (bit (bit_and fill (2 ^ 16 - 1 - l.valid)))) where
      given : way ≡ encode (length tags) (vacant row fill)
      given = e ∙ encode_ext 16 _ _ vacant_bit ∙ encode_wider (length tags) 16 (vacant row fill) few vacant_within

      room : any (length tags) (vacant row fill) ≡ ltb way (length tags)
      room = any_encode (length tags) (vacant row fill) few ∙ ap (λ (w : ℕ). ltb w (length tags)) (sym given)

      pub bring_fill : {k : Lines} → way < length tags → k ≡ lines_of (filled R fill 0 store way l.word (untagged l))
          → record { answer = Fill way; row = row_of (set tags way tag) k } ≡ miss_at R fill tag store row
      unfolding access_by fill_at filled
      bring_fill h f = rw (room ∙ lt-ltb way (length tags) h, f, given)

      pub bring_evict : {q : Effect} → length tags ≤ way → q ≡ evict_at R fill tag store row → q ≡ miss_at R fill tag store row
      unfolding access_by
      bring_evict h f = f ∙ rw (room ∙ le-ltb way (length tags) h)

  pub evict_is : (fill : ℕ) (c : Choice) {dirty : Bool} {k : Lines} → ChoiceOf (length tags) rule fill l.word c → dirty ≡ bit l.dirty c.way
      → k ≡ lines_of (filled R fill 0 store c.way c.word (untagged l))
      → record { answer = Evict c.way (get_or tags c.way 0) dirty; row = row_of (set tags c.way tag) k } ≡ evict_at R fill tag store row
  unfolding evict_at filled
  evict_is fill c e d f = rw (f, d, ← e.way_is, ← e.word_is)

-- ---- flush

module _ (p : Maps) (tag : ℕ) (tags : List ℕ) (l : Lines) where
  pub flush_hit : {way : ℕ} {dirty : Bool} {k : Lines} → way ≡ hit_way (row_of tags l) p.hit tag → way < length tags → dirty ≡ bit l.dirty way
      → k ≡ lines_of (flush_at true way (untagged l)).row
      → record { answer = Flush way dirty; row = row_of tags k } ≡ flush p tag (row_of tags l)
  unfolding flush flush_at
  flush_hit e h d f = rw (hit_below tags l.valid p.hit tag (rw (← e) h), f, d, ← e)

  pub flush_absent : length tags ≡ hit_way (row_of tags l) p.hit tag → record { answer = Absent; row = row_of tags l } ≡ flush p tag (row_of tags l)
  unfolding flush flush_at
  flush_absent e = rw (miss_above tags l.valid p.hit tag (omega arith))

-- ---- a fill map within the ways

pub no_fill : (W fill : ℕ) → fill ≡ 0 → any W (bit fill) ≡ false
no_fill W fill e = rw e (none_empty W)

pub some_fill : (W rule fill : ℕ) → Usable W rule fill → (fill ≡ 0 → ⊥) → any W (bit fill) ≡ true
some_fill W rule fill u n = any_bits W fill (below_reach W fill u.small u.within) ∙ ap not (ne_eqb fill 0 n)
