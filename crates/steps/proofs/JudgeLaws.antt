-- What number 7 has to know of a change of policy: whether its drops carry the count past the largest.
use mathlib.Core.Path.{◌≡◌, ◌∙◌}
use mathlib.Core.Bool.{◌&&◌}
use mathlib.Core.List.{List, [], ◌∷◌}
use Prim.Native.Nat.{ℕ, ◌+◌, ◌*◌, ◌%◌, ◌^◌, ◌≤◌, ◌<◌}
use native.Mathlib.Nat.{mod-eq_of_lt, lt_of_le_of_lt}
use native.Mathlib.Omega.{arith}
use lib.Dec.{lit<}
use lib.ListN.{length}
use borrow.Author.Tests.{le-ltb}
use Rattle.waymap.specs.Bits.{Bits, bit, word}
use Rattle.waymap.proofs.WordLaws.{bit_word_in}
use Rattle.waymap.proofs.WayLaws.{count_le}
use Rattle.policy.specs.Policy.{as_read, new_maps}
use Rattle.policy.specs.declared.Maps.{Maps}
use Rattle.sweep.specs.Clean.{drop_ways}
use Rattle.sweep.specs.Number.{lines_among}
use Rattle.sweep.proofs.SweepLaws.{drop_beyond}
use Rattle.domains.specs.Domains.{maps_of, overflows}
use Rattle.domains.specs.Calls.{read_by}
use Rattle.domains.specs.declared.Counts.{Counts}
use Rattle.domains.specs.declared.Domain.{Domain}
use Rattle.domains.specs.declared.Policies.{Policies}
use Rattle.verdict.specs.Refusal.{held_elsewhere}
use Rattle.geometry.specs.Geometry.{max_sets}
use Rattle.geometry.specs.declared.Geometry.{Geometry}
use Rattle.steps.specs.Tables.{Tables}
use Rattle.steps.specs.Inside.{Shaped}
use Rattle.steps.proofs.TotalLaws.{among_ext, among_total}
use Rattle.steps.specs.Deed.{drop_map, drops_among, drops_by}

-- no more lines than sixteen a set
among_most : (map : Bits) (vs : List ℕ) → lines_among map vs ≤ 16 * length vs
unfolding lines_among
among_most map [] = omega arith
among_most map (v ∷ vs) = omega (arith, count_le 16 (λ (w : ℕ). map w && bit v w), among_most map vs)

module _ (W : ℕ) (old : Maps) (p : Policies) (d arg : ℕ) (valid : List ℕ) (few : length valid ≤ max_sets) where
  drops_few : drops_among W old p d arg valid ≤ 16 * max_sets
  unfolding drops_among
  drops_few = omega (arith, among_most (drop_map W old p d arg) valid)

  -- where so many more would fit, none is as good as any
  pub judged_far : (c : Counts) → c.dropped + 16 * max_sets ≤ 4294967295 → overflows arg 0 c ≡ overflows arg (drops_among W old p d arg valid) c
  unfolding overflows
  judged_far c room =
      rw (le-ltb 4294967295 (c.dropped + 0) (omega arith), le-ltb 4294967295 (c.dropped + drops_among W old p d arg valid) (omega (arith, drops_few)))

  -- elsewhere they are counted
  pub judged_near : {held map r : ℕ} → held ≡ word 16 (held_elsewhere (read_by W p) d)
      → map ≡ word 16 (drop_ways (as_read W old) (as_read W (new_maps arg)) (bit held))
      → r ≡ lines_among (bit map) valid % 2 ^ 64 → r ≡ drops_among W old p d arg valid
  unfolding drops_among drop_map drop_ways
  judged_near {held} {map} {r} h m e =
      e ∙ mod-eq_of_lt (lt_of_le_of_lt (among_most (bit map) valid) (lt_of_le_of_lt (omega arith) small))
      ∙ among_ext (bit map) (drop_map W old p d arg) valid
      (λ w k. rw (m, bit_word_in 16 (drop_ways (as_read W old) (as_read W (new_maps arg)) (bit held)) w k, h, bit_word_in 16 (held_elsewhere (read_by W p) d) w k))
    where
      small : 16 * max_sets < 2 ^ 64
      small = lit< tt

-- in tables of their lengths they are those of the sets
pub drops_are : (g : Geometry) (x : Domain) (p : Policies) (d arg : ℕ) (t : Tables) → Shaped g t
    → drops_among g.ways (maps_of x) p d arg t.valid ≡ drops_by g x p d arg t
unfolding drops_among drops_by drop_map
drops_are g x p d arg t shaped =
    among_total g t shaped (drop_map g.ways (maps_of x) p d arg)
    (drop_beyond g.ways (maps_of x) (new_maps arg) (held_elsewhere (read_by g.ways p) d))
