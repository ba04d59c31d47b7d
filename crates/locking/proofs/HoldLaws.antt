-- A locked line over a list of steps: it stays, and the domain's accesses to its address hit it.
use mathlib.Core.Path.{◌≡◌, sym, ap, ap₂, ◌∙◌}
use mathlib.Core.Bool.{Bool, true, false, ◌&&◌, true≢false}
use mathlib.Core.List.{List, [], ◌∷◌}
use Prim.Native.Nat.{ℕ, ◌+◌, ◌*◌, ◌/◌, ◌%◌, ◌<◌}
use native.Mathlib.Nat.{div-add-mod'}
use lib.Dec.{eqb, ltb}
use lib.ListN.{get_or}
use borrow.Author.Tests.{eqb-true, eq-eqb, ne_eqb, ltb-true, lt-ltb}
use Rattle.waymap.specs.Bits.{bit}
use Rattle.waymap.proofs.Booleans.{cases, and_left, and_right}
use Rattle.waymap.proofs.BitLaws.{bit_none}
use Rattle.replacement.specs.Rule.{Rule, rule_of}
use Rattle.row.specs.Row as Row
use Rattle.row.specs.Row.{Row}
use Rattle.policy.specs.declared.Maps.{Maps}
use Rattle.command.specs.Answer.{answer_of}
use Rattle.command.specs.Command.{Command}
use Rattle.command.specs.Kind.{kind_of}
use Rattle.command.specs.declared.Answer.TheVariants.{Hit}
use Rattle.domains.specs.Domains.{domain_of, policies, is_full}
use Rattle.verdict.specs.Refusal.{use_refusal, refusal_by}
use Rattle.geometry.specs.Address.{line_of, set_of, tag_of}
use Rattle.geometry.specs.Geometry.{within}
use Rattle.geometry.specs.Inside.{Limited}
use Rattle.geometry.specs.declared.Geometry.{Geometry}
use Rattle.geometry.proofs.AddressLaws.{set_below}
use Rattle.geometry.proofs.GeometryLaws.{limited}
use Rattle.steps.specs.Tables.{row_at}
use Rattle.steps.specs.Step.{State, use_line, on_set, row_effect, step_by, decided}
use Rattle.steps.specs.Run.{step_on, finally}
use Rattle.steps.specs.Inside.{Whole, line_work}
use Rattle.steps.proofs.SetLaws.{row_long}
use Rattle.steps.proofs.StateLaws.{step_within}
use Rattle.isolation.specs.StruckOut.{number_of}
use Rattle.reached.proofs.SeparateLaws.{policy_cut}
use Rattle.purge.specs.Purge.{belongs}
use Rattle.locking.specs.Locked.{locked, locked_in, same_line}
use Rattle.locking.specs.Locking.{changes, flushes, accesses, Answered, Stands, Unspent}
use Rattle.reached.specs.Reached.{Reached}
use Rattle.reached.proofs.Reached.{step_reached, reached_whole}
use Rattle.locking.proofs.WordFits.{rule}
use Rattle.locking.proofs.OnceLaws.{reached_once}
use Rattle.locking.proofs.RowLaws.{IsLocked, locked_is, hit_has, locked_answer}
use Rattle.locking.proofs.StayLaws.{Takes, by_change, by_flush, policy_stays, match_stays}

-- ---- lines and addresses

-- addresses of one line have one set and one tag, and the other way round
pub one_set : (g : Geometry) (a b : ℕ) → same_line a b ≡ true → (set_of g a ≡ set_of g b) × (tag_of g a ≡ tag_of g b)
unfolding set_of tag_of
one_set g a b e =
    let same : line_of a ≡ line_of b = eqb-true (line_of a) (line_of b) e in
    (ap (λ (n : ℕ). n % g.sets) same, ap (λ (n : ℕ). n / g.sets) same)

pub one_line : (g : Geometry) (a b : ℕ) → set_of g a ≡ set_of g b → tag_of g a ≡ tag_of g b → same_line a b ≡ true
unfolding set_of tag_of
one_line g a b s t =
    eq-eqb (line_of a) (line_of b)
    (sym (div-add-mod' (line_of a) g.sets) ∙ ap₂ (λ (q m : ℕ). q * g.sets + m) t s ∙ div-add-mod' (line_of b) g.sets)

-- ---- a domain's own access, and its own flush

-- what the test for an access says
pub record IsAccess (d : ℕ) (at : ℕ → Bool) (c : Command) : Type 0 where
  pub owns : belongs d c ≡ true
  pub mine : c.domain ≡ d
  pub few : c.kind < 3
  pub here : at c.argument ≡ true

pub is_access : (d : ℕ) (at : ℕ → Bool) (c : Command) → accesses d at c ≡ true → IsAccess d at c
is_access d at c e =
    let both = and_left (belongs d c && ltb c.kind 3) (at c.argument) e in
    let owns = and_left (belongs d c) (ltb c.kind 3) both in
    record {
      owns = owns;
      mine = eqb-true c.domain d owns;
      few = ltb-true c.kind 3 (and_right (belongs d c) (ltb c.kind 3) both);
      here = and_right (belongs d c && ltb c.kind 3) (at c.argument) e;
    }

module _ (g : Geometry) (limits : within g ≡ true) (d : ℕ) (low : d < 16) (c : Command) (s : State) (whole : Whole g s) (mine : c.domain ≡ d) where
  -- what 6 and 7 say of the domain
  abbrev verdict : ℕ
  verdict = use_refusal (policies g.ways s.domains d) (domain_of s.domains d).counts

  pub access_step : c.kind < 3
      → step_on g c s ≡ decided verdict (use_line g (line_work false (rule_of g.rule g.ways) (eqb c.kind 2)) d c.argument s) s
  unfolding kind_of refusal_by step_by
  access_step few = rw (step_within g limits c s whole (rw mine low), mine, lt-ltb c.kind 3 few)

  pub flush_step : c.kind ≡ 3 → step_on g c s ≡ decided verdict (use_line g (line_work true (rule_of g.rule g.ways) false) d c.argument s) s
  unfolding kind_of refusal_by step_by
  flush_step is = rw (step_within g limits c s whole (rw mine low), mine, is)

-- An access of a domain that has a way is refused by 7 or not at all.
pub access_done : (g : Geometry) (limits : within g ≡ true) (d : ℕ) → d < 16 → (c : Command) (s : State) → Whole g s → (w : ℕ)
    → bit (policies g.ways s.domains d).hit w ≡ true → c.domain ≡ d → c.kind < 3 → (number_of (step_on g c s).answer ≡ 7 → ⊥)
    → step_on g c s ≡ use_line g (line_work false (rule_of g.rule g.ways) (eqb c.kind 2)) d c.argument s
unfolding use_refusal decided number_of
access_done g limits d low c s whole w t mine few unspent =
    cases (is_full (domain_of s.domains d).counts) (λ u. absurd (unspent (rw (step, some, u)))) (λ u. step ∙ rw (some, u))
  where
    step : step_on g c s ≡ decided (use_refusal (policies g.ways s.domains d) (domain_of s.domains d).counts)
        (use_line g (line_work false (rule_of g.rule g.ways) (eqb c.kind 2)) d c.argument s) s
    step = access_step g limits d low c s whole mine few

    some : eqb (policies g.ways s.domains d).hit 0 ≡ false
    some =
        ne_eqb (policies g.ways s.domains d).hit 0
        (λ e. true≢false (sym t ∙ ap (λ (m : ℕ). bit m w) e ∙ bit_none w))

module _ (g : Geometry) (limits : within g ≡ true) (d : ℕ) (low : d < 16) (address w : ℕ) where
  l : Limited g
  l = limited g limits

  abbrev row : State → Row
  row s = row_at g.ways (set_of g address) s.tables

  abbrev policy : State → Maps
  policy s = policies g.ways s.domains d

  abbrev R : Rule
  R = rule_of g.rule g.ways

  inside : set_of g address < g.sets
  inside = set_below g address l

  -- what it is to be locked in a way
  pub record LockedLine (s : State) : Type 0 where
    pub is : IsLocked (policy s) (row s) w
    pub lock : locked (policy s) (row s) w ≡ true
    pub tag_is : get_or (row s).tags w 0 ≡ tag_of g address

  pub locked_line : (s : State) → locked_in g d s address w ≡ true → LockedLine s
  unfolding locked_in
  locked_line s e =
      let lock = and_left (locked (policy s) (row s) w) (eqb (get_or (row s).tags w 0) (tag_of g address)) e in
      record {
        is = locked_is (policy s) (row s) w lock;
        lock = lock;
        tag_is = eqb-true (get_or (row s).tags w 0) (tag_of g address)
            (and_right (locked (policy s) (row s) w) (eqb (get_or (row s).tags w 0) (tag_of g address)) e);
      }

  -- ---- (a) it stays

  -- a step that the domain does not take the line away by leaves it
  module _ (s : State) (r : Reached g s) (here : locked_in g d s address w ≡ true) (c : Command)
      (unchanged : changes d c ≡ true → number_of (step_on g c s).answer ≡ 0 → ⊥)
      (unflushed : flushes d (same_line address) c ≡ true → number_of (step_on g c s).answer ≡ 0 → ⊥) where
    takes_not : Takes g limits d low s r c (step_on g c s) (set_of g address) w → ⊥
    takes_not (by_change done mine kind) = unchanged (rw (eq-eqb c.domain d mine, kind)) done
    takes_not (by_flush done mine kind at hit way) =
        unflushed (rw (eq-eqb c.domain d mine, kind) (one_line g address c.argument (sym at) (sym (locked_line s here).tag_is ∙ same))) done
      where
        same : get_or (row s).tags w 0 ≡ tag_of g c.argument
        same =
            ap (λ (v : ℕ). get_or (row s).tags v 0) (sym way) ∙ (hit_has (policy s).hit (tag_of g c.argument) (row s) hit).has_tag

    pub step_stays : locked_in g d (step_on g c s).state address w ≡ true
    unfolding locked_in locked
    step_stays =
        let same = match_stays g limits d low s r c (set_of g address) inside w (locked_line s here).is.in_hit (locked_line s here).is.out_fill takes_not in
        rw (policy_stays g limits d low s r c (λ mine kind. unchanged (rw (eq-eqb c.domain d mine, kind))), same.valid, same.tag) here

  pub stays_over : (cs : List Command) (s : State) → Reached g s → locked_in g d s address w ≡ true → Stands g d (same_line address) cs s
      → locked_in g d (finally g cs s) address w ≡ true
  unfolding finally Answered
  stays_over [] s r here stands = here
  stays_over (c ∷ cs) s r here stands =
      stays_over cs (step_on g c s).state (step_reached g c s r) (step_stays s r here c stands.unchanged.0 stands.unflushed.0)
      (record { unchanged = stands.unchanged.1; unflushed = stands.unflushed.1 })

  -- ---- (b) the domain's accesses to its address hit it

  line_hits : (s : State) → Reached g s → locked_in g d s address w ≡ true → (arg : ℕ) → same_line address arg ≡ true → (store : Bool)
      → (use_line g (line_work false R store) d arg s).answer ≡ answer_of (Hit w)
  unfolding use_line on_set row_effect
  line_hits s r here arg e store =
      rw (← (one_set g address arg e).0, ← (one_set g address arg e).1, ← (locked_line s here).tag_is)
      (ap answer_of (locked_answer (rule g limits) l.most_ways (policy s) (policy_cut g.ways s.domains d) (row s)
      (row_long g (reached_whole g limits s r).shaped (set_of g address) inside) (reached_once g limits s r d (set_of g address) low inside) w
      (locked_line s here).lock store))

  -- the domain has ways, and so only 7 could turn an access down
  step_hits : (s : State) → Reached g s → locked_in g d s address w ≡ true → (c : Command)
      → (belongs d c ≡ true → number_of (step_on g c s).answer ≡ 7 → ⊥) → accesses d (same_line address) c ≡ true
      → (step_on g c s).answer ≡ answer_of (Hit w)
  step_hits s r here c unspent e =
      let is = is_access d (same_line address) c e in
      rw (access_done g limits d low c s (reached_whole g limits s r) w (locked_line s here).is.in_hit is.mine is.few (unspent is.owns))
      (line_hits s r here c.argument is.here (eqb c.kind 2))

  pub hits_over : (cs : List Command) (s : State) → Reached g s → locked_in g d s address w ≡ true → Stands g d (same_line address) cs s
      → Unspent g d cs s → Answered g (accesses d (same_line address)) (λ a. a ≡ answer_of (Hit w)) cs s
  unfolding Answered
  hits_over [] s r here stands unspent = tt
  hits_over (c ∷ cs) s r here stands unspent = (
    step_hits s r here c unspent.0,
    hits_over cs (step_on g c s).state (step_reached g c s r) (step_stays s r here c stands.unchanged.0 stands.unflushed.0)
        (record { unchanged = stands.unchanged.1; unflushed = stands.unflushed.1 }) unspent.1,
  )
