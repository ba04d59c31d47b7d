-- Lookups in the run and in the struck-out run: a lookup depends on the domain's maps and on its lines alone, which related states have alike.
use mathlib.Core.Path.{◌≡◌, sym, ◌∙◌}
use mathlib.Core.Bool.{true}
use mathlib.Core.List.{List}
use Prim.Native.Nat.{ℕ, ◌<◌}
use borrow.Author.Tests.{eqb-true}
use Rattle.waymap.specs.Bits.{bit}
use Rattle.policy.specs.Policy.{as_read}
use Rattle.row.specs.Row.{Row, ways}
use Rattle.row.specs.View.{SameMatch}
use Rattle.row.proofs.LineLaws.{line_match}
use Rattle.row.proofs.LookLaws.{lookup_same}
use Rattle.geometry.specs.Geometry.{within}
use Rattle.geometry.specs.declared.Geometry.{Geometry}
use Rattle.geometry.specs.Address.{set_of, tag_of}
use Rattle.geometry.proofs.AddressLaws.{set_below}
use Rattle.geometry.proofs.GeometryLaws.{limited}
use Rattle.domains.specs.Domains.{domain_of, maps_of, policies}
use Rattle.steps.specs.Tables.{row_at}
use Rattle.steps.specs.Step.{State}
use Rattle.steps.specs.Run.{finally}
use Rattle.steps.specs.Fresh.{fresh}
use Rattle.steps.proofs.SetLaws.{row_long}
use Rattle.command.specs.Command.{Command}
use Rattle.purge.specs.Purge.{belongs, purge}
use Rattle.purge.proofs.KeepLaws.{struck}
use Rattle.isolation.specs.Lookups.{lookup_at, visited_at, visits_of, own_visits, Lookups}
use Rattle.reached.proofs.Reached.{reached_whole}
use Rattle.isolation.proofs.Relation.{Related}
use Rattle.isolation.proofs.Unwinding.{output_consistent}
use Rattle.isolation.proofs.Isolation.{fresh_related, along_from, finally_from, same_to}

module _ (g : Geometry) (limits : within g ≡ true) (d : ℕ) (low : d < 16) (a b : State) (rel : Related g d a b) where
  -- a lookup of the domain tells the same in both
  module _ (address : ℕ) where
    abbrev row : State → Row
    row s = row_at g.ways (set_of g address) s.tables

    inside : set_of g address < g.sets
    inside = set_below g address (limited g limits)

    long : ways (row a) ≡ g.ways
    long = row_long g (reached_whole g limits a rel.reached_a).shaped (set_of g address) inside

    matches : (w : ℕ) → bit (as_read (ways (row a)) (maps_of (domain_of a.domains d))).hit w ≡ true → SameMatch (row a) (row b) w
    unfolding policies
    matches w t = line_match (((same_to g limits d low a b rel).sets (set_of g address) inside).lines w (rw long at t))

    lookup_related : (lookup_at g d address a ≡ lookup_at g d address b) × (visited_at g d address a ≡ visited_at g d address b)
    unfolding lookup_at visited_at
    lookup_related =
        rw (← rel.tied.domain_same)
        (lookup_same (maps_of (domain_of a.domains d)) (tag_of g address) (row a) (row b)
        (long ∙ sym (row_long g (reached_whole g limits b rel.reached_b).shaped (set_of g address) inside)) matches)

  -- so a step of its own visits as many ways
  visits_related : (c : Command) → belongs d c ≡ true → visits_of g c a ≡ visits_of g c b
  unfolding visits_of
  visits_related c u =
      rw (output_consistent g limits d low a b rel c u, eqb-true c.domain d u, (lookup_related c.argument).1)

-- The chosen domain's steps, in the run of any list and in its struck-out run, visit as many ways, and its lookups after both, of any address, are the
-- same.
pub lookups : Lookups
unfolding own_visits
lookups g limits d low cs = record {
  visits_same =
      along_from g limits d low (belongs d) (visits_of g) (λ c t. (struck d c t).other) (visits_related g limits d low) cs (fresh g) (fresh g)
      (fresh_related g limits d low);
  answer_same = λ address. (lookup_related g limits d low (finally g cs (fresh g)) (finally g (purge d cs) (fresh g)) related address).0;
  visited_same = λ address. (lookup_related g limits d low (finally g cs (fresh g)) (finally g (purge d cs) (fresh g)) related address).1;
}
  where
    related : Related g d (finally g cs (fresh g)) (finally g (purge d cs) (fresh g))
    related = finally_from g limits d low cs (fresh g) (fresh g) (fresh_related g limits d low)
