-- Demand 3 and the lookups, point by point, and back.
use mathlib.Core.Path.{◌≡◌, refl, sym, ap, ◌∙◌}
use mathlib.Core.Bool.{Bool, true, cond}
use mathlib.Core.List.{List, [], ◌∷◌}
use Prim.Native.Nat.{ℕ, zero, suc, ◌+◌, ◌*◌, ◌<◌}
use native.Mathlib.Omega.{arith}
use lib.Dec.{eqb, ltb}
use lib.ListN.{get_or}
use borrow.Author.Tests.{eq-eqb, eqb-true}
use Rattle.waymap.proofs.Booleans.{cases}
use Rattle.command.specs.Command.{Command}
use Rattle.geometry.specs.Geometry.{within}
use Rattle.geometry.specs.declared.Geometry.{Geometry}
use Rattle.domains.specs.declared.Domain.{Domain}
use Rattle.steps.specs.Step.{State}
use Rattle.isolation.specs.StruckOut.{Isolation}
use Rattle.isolation.specs.Lookups.{lookup_at, visited_at, own_visits, SameLookups, Lookups}
use Rattle.isolation.proofs.Lookups.{lookups}
use Rattle.demand.specs.Free.{digit}
use Rattle.demand.specs.Order.{place_of}
use Rattle.demand.specs.Demand.{fresh, end, struck_out, domain_at, each, lines, is_own, bits, is_pair, pairs, Seen, seen, seen_in, WellFormed, Demand, Demand3}
use Rattle.demand.proofs.LimitLaws.{within_limits, limits_within}
use Rattle.demand.proofs.SeenLaws.{each_ext}
use Rattle.demand.proofs.Demand.{demand}
use Rattle.claims.specs.Unseen.{after, Whole, Unseen, Demanded, Looked, LookedUp}

each_at : {A : Type 0} (n : ℕ) (f h : ℕ → A) → each n f ≡ each n h → (i : ℕ) → i < n → f i ≡ h i
unfolding each
each_at zero f h e i l = absurd (omega (arith, l))
each_at (suc n) f h e zero l = cc e
each_at (suc n) f h e (suc i) l = each_at n (λ (k : ℕ). f (suc k)) (λ (k : ℕ). h (suc k)) (cc e) i (omega (arith, l))

-- ---- tables that are whole

whole : (g : Geometry) (d : ℕ) (s : State) → WellFormed g d s → Whole g d s
whole g d s f = record {
  tags = cc f.tags_long;
  valid = cc f.valid_long;
  dirty = cc f.dirty_long;
  words = cc f.words_long;
  domains = cc f.sixteen;
  hit_ways = λ w t. omega (arith, f.hit_within w t);
  fill_ways = λ w t. cc (t, f.fill_part w t);
  orders = λ set h two. cc (f.orders two set h);
}

well_formed : (g : Geometry) (d : ℕ) (s : State) → Whole g d s → WellFormed g d s
well_formed g d s w = record {
  tags_long = w.tags;
  valid_long = w.valid;
  dirty_long = w.dirty;
  words_long = w.words;
  sixteen = w.domains;
  hit_within = w.hit_ways;
  fill_part = w.fill_ways;
  orders = λ two set h. w.orders set h two;
}

-- ---- what is seen

module _ (g : Geometry) (d : ℕ) (cs ds : List Command) where
  abbrev a : State
  a = after g cs

  abbrev b : State
  b = after g ds

  module _ (same : seen_in g d cs ≡ seen_in g d ds) where
    dom : domain_at d a ≡ domain_at d b
    unfolding seen_in seen
    dom = ap (λ (x : Seen). x.domain) same

    line : (set w : ℕ) → set < g.sets → w < g.ways → digit (domain_at d a).hit w ≡ 1
        → ◌≡◌ {A = List ℕ}
        (digit (get_or a.tables.valid set 0) w ∷ digit (get_or a.tables.dirty set 0) w ∷ get_or a.tables.tags (set * g.ways + w) 0 ∷ [])
        (digit (get_or b.tables.valid set 0) w ∷ digit (get_or b.tables.dirty set 0) w ∷ get_or b.tables.tags (set * g.ways + w) 0 ∷ [])
    unfolding seen_in seen lines
    line set w h k t =
        let all = ap (λ (x : Seen). x.lines) same in
        let one = each_at g.ways _ _ (each_at g.sets _ _ all set h) w k in
        let mine = eq-eqb (digit (domain_at d a).hit w) 1 t in
        let too = eq-eqb (digit (domain_at d b).hit w) 1 (ap (λ (x : Domain). digit x.hit w) (sym dom) ∙ t) in
        rw (mine, too) at one

    own_bit : (set i : ℕ) → set < g.sets → i < g.ways → is_own g (domain_at d a).fill i ≡ true
        → digit (get_or a.tables.words set 0) i ≡ digit (get_or b.tables.words set 0) i
    unfolding seen_in seen bits
    own_bit set i h k t =
        let all = ap (λ (x : Seen). x.bits) same in
        let one = each_at g.ways _ _ (each_at g.sets _ _ all set h) i k in
        let too = ap (λ (x : Domain). is_own g x.fill i) (sym dom) ∙ t in
        cc (rw (t, too) at one)

    own_pair : (set v w : ℕ) → set < g.sets → v < g.ways → w < g.ways → is_pair g (domain_at d a).fill v w ≡ true
        → ltb (place_of g.ways (get_or a.tables.words set 0) v) (place_of g.ways (get_or a.tables.words set 0) w)
        ≡ ltb (place_of g.ways (get_or b.tables.words set 0) v) (place_of g.ways (get_or b.tables.words set 0) w)
    unfolding seen_in seen pairs
    own_pair set v w h k l t =
        let all = ap (λ (x : Seen). x.pairs) same in
        let one = each_at g.ways _ _ (each_at g.ways _ _ (each_at g.sets _ _ all set h) v k) w l in
        let too = ap (λ (x : Domain). is_pair g x.fill v w) (sym dom) ∙ t in
        cc (rw (t, too) at one)

    -- Of two lists, all that is compared.
    unseen : WellFormed g d a → WellFormed g d b → Unseen g d cs ds
    unfolding seen_in seen
    unseen f k = record {
      answers = cc (ap (λ (x : Seen). x.answers) same);
      numbers = cc (ap (λ (x : Seen). x.verdicts) same);
      domain = cc dom;
      valid = λ set w h l t. cc (line set w h l t);
      dirty = λ set w h l t. cc (line set w h l t);
      tags = λ set w h l t. cc (line set w h l t);
      bits = λ set i h l t. cc (own_bit set i h l t);
      pairs = λ set v w h k l t. cc (own_pair set v w h k l t);
      whole = whole g d a f;
      whole_too = whole g d b k;
    }

  -- And from all of it the lists that are compared.
  module _ (u : Unseen g d cs ds) where
    lines_back : lines g d a ≡ lines g d b
    unfolding lines
    lines_back =
        rw (← u.domain)
        (each_ext g.sets _ _ (λ set h.
        each_ext g.ways _ _ (λ w k.
        cases (eqb (digit (domain_at d a).hit w) 1)
        (λ t. let mine = eqb-true (digit (domain_at d a).hit w) 1 t in
        rw t (λ i. u.valid set w h k mine i ∷ u.dirty set w h k mine i ∷ u.tags set w h k mine i ∷ []))
        (λ t. rw t))))

    bits_back : bits g d a ≡ bits g d b
    unfolding bits
    bits_back =
        rw (← u.domain)
        (each_ext g.sets _ _ (λ set h.
        each_ext g.ways _ _ (λ i k.
        cases (is_own g (domain_at d a).fill i) (λ t. rw t (ap (λ (n : ℕ). n ∷ []) (u.bits set i h k t))) (λ t. rw t))))

    pairs_back : pairs g d a ≡ pairs g d b
    unfolding pairs
    pairs_back =
        rw (← u.domain)
        (each_ext g.sets _ _ (λ set h.
        each_ext g.ways _ _ (λ v k.
        each_ext g.ways _ _ (λ w l.
        cases (is_pair g (domain_at d a).fill v w) (λ t. rw t (ap (λ (x : Bool). x ∷ []) (u.pairs set v w h k l t))) (λ t. rw t)))))

    seen_back : seen_in g d cs ≡ seen_in g d ds
    unfolding seen_in seen
    seen_back = λ i. record {
      answers = u.answers i;
      verdicts = u.numbers i;
      domain = u.domain i;
      lines = lines_back i;
      bits = bits_back i;
      pairs = pairs_back i;
    }

-- ---- Demand 3, from the closed statement and back

pub demanded : Demand3 → Demanded
demanded claim g limits d low cs =
    let one = claim g (limits_within g limits) d low cs in
    unseen g d cs (struck_out d cs) one.same one.well_formed one.well_formed_too

pub demanded_back : Demanded → Demand3
demanded_back said g l d low cs =
    let one = said g (within_limits g l) d low cs in
    record {
      same = seen_back g d cs (struck_out d cs) one;
      well_formed = well_formed g d (after g cs) one.whole;
      well_formed_too = well_formed g d (after g (struck_out d cs)) one.whole_too;
    }

pub demand_holds : Demanded
demand_holds = demanded demand

-- ---- the lookups

pub looked_up : Lookups → LookedUp
unfolding lookup_at visited_at own_visits
looked_up claim g limits d low cs =
    let one = claim g limits d low cs in
    record { visits = cc one.visits_same; answer = λ address. cc (one.answer_same address); number = λ address. cc (one.visited_same address) }

pub looked_up_back : LookedUp → Lookups
unfolding lookup_at visited_at own_visits
looked_up_back said g limits d low cs =
    let one = said g limits d low cs in
    record { visits_same = one.visits; answer_same = one.answer; visited_same = one.number }

pub lookups_hold : LookedUp
lookups_hold = looked_up lookups
