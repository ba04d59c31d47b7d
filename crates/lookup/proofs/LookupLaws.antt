-- What a hit lookup says of the way that it hits, and of those that it visits.
use mathlib.Core.Path.{◌≡◌, refl, sym, ap, ap₂, ◌∙◌}
use mathlib.Core.Bool.{true, false, ◌&&◌, and-true}
use mathlib.Core.List.{List, [], ◌∷◌, Mem}
use Prim.Native.Nat.{ℕ, ◌≤◌, ◌<◌}
use native.Mathlib.Omega.{arith}
use lib.Dec.{eqb, leb, ltb}
use lib.ListN.{length, get_or}
use borrow.Author.Tests.{eqb-true, lt-ltb, le-ltb, le-leb}
use Rattle.waymap.specs.Bits.{bit, any, lowest, members}
use Rattle.waymap.proofs.Booleans.{cases, and_left, and_right}
use Rattle.waymap.proofs.WayLaws.{any_lowest, none_at, lowest_found, lowest_none, lowest_same}
use Rattle.waymap.proofs.MemberLaws.{members_ext, members_up_to, members_at}
use Rattle.lookup.specs.Lookup.{matches, is_hit, hit_way, visits, SameFound}
use Rattle.lookup.specs.Statements.{HitBelow, MissAbove, VisitsHit, VisitsMiss, Unread}

-- Of a tag that is valid in ways 1, 2 and 3 the lowest is hit: by computing.
kept : (is_hit (8 ∷ 5 ∷ 5 ∷ 5 ∷ []) 15 15 5 ≡ true) × (hit_way (8 ∷ 5 ∷ 5 ∷ 5 ∷ []) 15 15 5 ≡ 1)
unfolding is_hit hit_way matches any lowest bit
kept = (refl, refl)

-- it hits where it finds a way
pub hit_below : HitBelow
unfolding is_hit hit_way
hit_below tags valid hit tag h =
    any_lowest (length tags) (matches tags valid hit tag) ∙ lt-ltb (lowest (length tags) (matches tags valid hit tag)) (length tags) h

pub miss_above : MissAbove
unfolding is_hit hit_way
miss_above tags valid hit tag h =
    any_lowest (length tags) (matches tags valid hit tag) ∙ le-ltb (lowest (length tags) (matches tags valid hit tag)) (length tags) h

module _ (tags : List ℕ) (valid hit tag : ℕ) where
  -- where the way is that it hits, and where it is counted to be where there is none
  pub hit_lt : is_hit tags valid hit tag ≡ true → hit_way tags valid hit tag < length tags
  unfolding is_hit hit_way
  hit_lt e = (lowest_found (length tags) (matches tags valid hit tag) e).0

  hit_matches : is_hit tags valid hit tag ≡ true → matches tags valid hit tag (hit_way tags valid hit tag) ≡ true
  unfolding is_hit hit_way
  hit_matches e = (lowest_found (length tags) (matches tags valid hit tag) e).1

  hit_line : is_hit tags valid hit tag ≡ true → (bit hit (hit_way tags valid hit tag) && bit valid (hit_way tags valid hit tag)) ≡ true
  unfolding matches
  hit_line e = let w = hit_way tags valid hit tag in and_left (bit hit w && bit valid w) (eqb (get_or tags w 0) tag) (hit_matches e)

  miss_way : is_hit tags valid hit tag ≡ false → hit_way tags valid hit tag ≡ length tags
  unfolding is_hit hit_way
  miss_way e = lowest_none (length tags) (matches tags valid hit tag) (λ w h. none_at (length tags) (matches tags valid hit tag) w e h)

  -- the way that it hits is in the hit map, and it is valid with the tag
  pub hit_own : is_hit tags valid hit tag ≡ true → bit hit (hit_way tags valid hit tag) ≡ true
  hit_own e = let w = hit_way tags valid hit tag in and_left (bit hit w) (bit valid w) (hit_line e)

  pub hit_valid : is_hit tags valid hit tag ≡ true → bit valid (hit_way tags valid hit tag) ≡ true
  hit_valid e = let w = hit_way tags valid hit tag in and_right (bit hit w) (bit valid w) (hit_line e)

  pub hit_tag : is_hit tags valid hit tag ≡ true → get_or tags (hit_way tags valid hit tag) 0 ≡ tag
  unfolding matches
  hit_tag e =
      let w = hit_way tags valid hit tag in
      eqb-true (get_or tags w 0) tag (and_right (bit hit w && bit valid w) (eqb (get_or tags w 0) tag) (hit_matches e))

-- ---- the ways visited: with a hit, the hit map's ways below it, and then it

pub visits_hit : VisitsHit
unfolding visits
visits_hit tags valid hit tag e =
    members_up_to (length tags) (hit_way tags valid hit tag) (bit hit) (hit_lt tags valid hit tag e) (hit_own tags valid hit tag e)

-- without one, all of them
pub visits_miss : VisitsMiss
unfolding visits
visits_miss tags valid hit tag e =
    members_ext (length tags)
    (λ w h. rw (le-leb w (hit_way tags valid hit tag) (omega (arith, miss_way tags valid hit tag e))) (and-true (bit hit w)))

-- Of two sets that match alike up to the way that is hit, a lookup says the same.
pub found_same : (ts us : List ℕ) (valid other hit tag : ℕ) → length us ≡ length ts
    → ((w : ℕ) → w < length ts → w ≤ hit_way ts valid hit tag → matches us other hit tag w ≡ matches ts valid hit tag w)
    → SameFound ts us valid other hit tag
unfolding is_hit hit_way visits
found_same ts us valid other hit tag long alike = record {
  same_hit = any_lowest (length us) (matches us other hit tag) ∙ ap₂ ltb same long ∙ sym (any_lowest (length ts) (matches ts valid hit tag));
  same_way = same;
  same_visits = ap₂ (λ (n h : ℕ). members n (λ (w : ℕ). bit hit w && leb w h)) long same;
}
  where
    same : lowest (length us) (matches us other hit tag) ≡ lowest (length ts) (matches ts valid hit tag)
    same = ap (λ (n : ℕ). lowest n (matches us other hit tag)) long ∙ lowest_same (length ts) _ _ alike

-- So it does of two sets that are alike in the ways visited.
pub unread : Unread
unfolding matches visits
unread ts us valid other hit tag s = found_same ts us valid other hit tag s.as_long alike
  where
    alike : (w : ℕ) → w < length ts → w ≤ hit_way ts valid hit tag → matches us other hit tag w ≡ matches ts valid hit tag w
    alike w k l =
        cases (bit hit w)
        (λ t. let seen : Mem w (visits ts valid hit tag) =
        members_at (length ts) (λ (v : ℕ). bit hit v && leb v (hit_way ts valid hit tag)) w k (rw (t, le-leb w (hit_way ts valid hit tag) l)) in
        rw (s.same_valid w seen, s.same_tag w seen))
        (λ t. rw t)
