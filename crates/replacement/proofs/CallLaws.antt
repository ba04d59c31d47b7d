-- What the public calls answer, by what their tests find: one law a call, for every rule, and for each rule what its crate gives.
use mathlib.Core.Path.{◌≡◌, refl, sym, ap, ◌∙◌}
use mathlib.Core.Bool.{Bool, true, false, not, ◌&&◌, ◌||◌, cond, and-true}
use mathlib.Core.List.{[], ◌∷◌}
use Prim.Native.Nat.{ℕ, zero, suc, ◌^◌, ◌≤◌, ◌<◌}
use native.Mathlib.Omega.{arith}
use lib.Dec.{eqb, ltb}
use lib.Bits.{bit_or}
use borrow.Author.Tests.{eqb-true, ne_eqb, lt-ltb}
use Rattle.std.specs.Prelude.{Result, Ok, Err}
use Rattle.waymap.specs.Bits.{bit, any, reaches}
use Rattle.waymap.specs.Ways.{is_ways, Sized}
use Rattle.waymap.proofs.Booleans.{cases, and_left, or_none}
use Rattle.waymap.proofs.WayLaws.{any_bits}
use Rattle.waymap.proofs.MapLaws.{below_reach, reach_or}
use Rattle.waymap.proofs.NumberLaws as NumberLaws
use Rattle.tree.specs.Calls as Tree
use Rattle.tree.proofs.TreeWordLaws as TreeLaws
use Rattle.nru.specs.Calls as Nru
use Rattle.nru.specs.declared.Choice.{Choice}
use Rattle.nru.proofs.NruWordLaws as NruLaws
use Rattle.lru_rule.specs.Calls as Lru
use Rattle.lru_rule.proofs.CallLaws as LruLaws
use Rattle.replacement.specs.Rule.{Rule, tree, nru, lru, rule_of}
use Rattle.replacement.specs.Calls.{in_limits, refusing, victim_of, touch_of, fresh_of, own_of, shares_of}
use Rattle.replacement.specs.Change.{change_of, change_under, change_by}
use Rattle.replacement.specs.declared.Change.TheVariants.{Stay}
use Rattle.replacement.specs.Refusal.{number_of}
use Rattle.replacement.specs.Inside.{known, admitted}
use Rattle.replacement.specs.declared.Refusal.{Refusal}
use Rattle.replacement.specs.Answer.{outcome_of}
use Rattle.replacement.proofs.ReplyLaws.{result_injective}
use Rattle.replacement.proofs.AdmitLaws.{known_refuses, admitted_refuses}
use Rattle.replacement.specs.Statements.{ChangeResets}

-- ---- the limits

module _ (W rule : ℕ) (limits : in_limits W rule ≡ true) where
  pub ways : is_ways W ≡ true
  unfolding in_limits
  ways = and_left (is_ways W) (ltb rule 3) limits

  pub sized : Sized W
  sized = NumberLaws.sized W ways

pub is_tree : (W rule : ℕ) → rule ≡ 0 → tree W ≡ rule_of rule W
is_tree W rule z = ap (λ (r : ℕ). rule_of r W) (sym z)

pub is_nru : (W rule : ℕ) → rule ≡ 1 → nru W ≡ rule_of rule W
is_nru W rule z = ap (λ (r : ℕ). rule_of r W) (sym z)

pub is_lru : (W rule : ℕ) → rule ≡ 2 → lru W ≡ rule_of rule W
is_lru W rule z = ap (λ (r : ℕ). rule_of r W) (sym z)

-- ---- maps

pub some_way : (map : ℕ) → map < 2 ^ 16 → (map ≡ 0 → ⊥) → any 16 (bit map) ≡ true
some_way map h n = any_bits 16 map h ∙ ap not (ne_eqb map 0 n)

pub either_reach : (W a b : ℕ) → (not (reaches W a) && not (reaches W b)) ≡ not (reaches W (bit_or a b))
either_reach W a b = flip (reaches W a) (reaches W b) ∙ ap not (sym (reach_or W a b))
  where
    flip : (p q : Bool) → (not p && not q) ≡ not (p || q)
    flip true q = refl
    flip false q = refl

-- two maps that do not reach W together do not reach it alone
pub neither : (W a b : ℕ) → reaches W (bit_or a b) ≡ false → (reaches W a ≡ false) × (reaches W b ≡ false)
neither W a b e = or_none (reaches W a) (reaches W b) (sym (reach_or W a b) ∙ e)

-- ---- a call that is not refused gives what the rule gives

module _ (W rule : ℕ) {R : Rule} (limits : in_limits W rule ≡ true) (under : R ≡ rule_of rule W) where
  pub victim_given : (x map : ℕ) {way y : ℕ} → reaches W map ≡ false → any 16 (bit map) ≡ true → way ≡ R.victim map x → y ≡ R.before map x
      → record { answer = 0 ∷ way ∷ []; word = y } ≡ victim_of W rule x map
  unfolding victim_of
  victim_given x map reach some e f =
      rw (limits, reach, some, e ∙ ap (λ (r : Rule). r.victim map x) under, f ∙ ap (λ (r : Rule). r.before map x) under)

  pub touch_given : (x map way : ℕ) {y : ℕ} → reaches W map ≡ false → way < W → y ≡ R.touch map way x
      → record { answer = 0 ∷ []; word = y } ≡ touch_of W rule x map way
  unfolding touch_of
  touch_given x map way reach h e = rw (limits, reach, lt-ltb way W h, e ∙ ap (λ (r : Rule). r.touch map way x) under)

  pub own_given : (x map : ℕ) {y : ℕ} → reaches W map ≡ false → y ≡ R.part map x → record { answer = 0 ∷ []; word = y } ≡ own_of W rule x map
  unfolding own_of
  own_given x map reach e = rw (limits, reach, e ∙ ap (λ (r : Rule). r.part map x) under)

  pub fresh_given : {y : ℕ} → y ≡ R.fresh → record { answer = 0 ∷ []; word = y } ≡ fresh_of W rule
  unfolding fresh_of
  fresh_given e = rw (limits, e ∙ ap (λ (r : Rule). r.fresh) under)

module _ (W rule a b : ℕ) (limits : in_limits W rule ≡ true) (reach : reaches W (bit_or a b) ≡ false) where
  pub shares_given : {s : Bool} → s ≡ (rule_of rule W).shares a b → cond s 9 0 ∷ [] ≡ shares_of W rule a b
  unfolding shares_of
  shares_given e = rw (limits, either_reach W a b ∙ ap not reach, e)

-- ---- a call that is not admitted is refused

-- maps that are joined reach W where one of them does
both_reach : (W a b : ℕ) → (not (reaches W a) && not (reaches W b)) ≡ (not (reaches W (bit_or a b)) && true)
both_reach W a b = either_reach W a b ∙ sym (and-true (not (reaches W (bit_or a b))))

module _ (W rule x : ℕ) {e : Refusal} where
  pub victim_refused : (map : ℕ) → Err e ≡ admitted W rule map → refusing x (number_of e) ≡ victim_of W rule x map
  unfolding victim_of
  victim_refused map f = admitted_refuses (refusing x) _ W rule map (any 16 (bit map)) refl f

  pub touch_refused : (map way : ℕ) → Err e ≡ admitted W rule map → refusing x (number_of e) ≡ touch_of W rule x map way
  unfolding touch_of
  touch_refused map way f = admitted_refuses (refusing x) _ W rule map (ltb way W) refl f

  pub own_refused : (map : ℕ) → Err e ≡ admitted W rule map → refusing x (number_of e) ≡ own_of W rule x map
  unfolding own_of
  own_refused map f = admitted_refuses (refusing x) _ W rule map true (sym (and-true (not (reaches W map)))) f

module _ (W rule : ℕ) {e : Refusal} where
  pub fresh_refused : Err e ≡ known W rule → refusing 0 (number_of e) ≡ fresh_of W rule
  unfolding fresh_of
  fresh_refused f = known_refuses (refusing 0) _ W rule f

  pub shares_refused : (a b : ℕ) → Err e ≡ admitted W rule (bit_or a b) → number_of e ∷ [] ≡ shares_of W rule a b
  unfolding shares_of
  shares_refused a b f = admitted_refuses (λ n. n ∷ []) _ W rule (bit_or a b) true (both_reach W a b) f

  pub change_refused : (a b : ℕ) → Err e ≡ admitted W rule (bit_or a b) → Stay ≡ change_of W rule a b
  unfolding change_of
  change_refused a b f = admitted_refuses (λ n. Stay) _ W rule (bit_or a b) true (both_reach W a b) f

-- ---- Tree-PLRU

module _ (W : ℕ) (w : is_ways W ≡ true) where
  pub tree_victim : (x map : ℕ) → reaches W map ≡ false → Tree.victim_of W x map ≡ (tree W).victim map x
  unfolding Tree.victim_of
  tree_victim x map r = rw (NumberLaws.takes_both W map w r)

  pub tree_touch : (x map way : ℕ) → reaches W map ≡ false → Tree.touch_of W x map way ≡ (tree W).touch map way x
  unfolding Tree.touch_of
  tree_touch x map way r = rw (NumberLaws.takes_both W map w r)

  pub tree_own : (x map : ℕ) → reaches W map ≡ false → Tree.own_of W x map ≡ (tree W).part map x
  unfolding Tree.own_of
  tree_own x map r = rw (NumberLaws.takes_both W map w r)

  pub tree_shares : (a b : ℕ) → reaches W (bit_or a b) ≡ false → Tree.shares_of W a b ≡ (tree W).shares a b
  unfolding Tree.shares_of
  tree_shares a b r = rw (NumberLaws.takes_both W a w (neither W a b r).0, NumberLaws.takes_both W b w (neither W a b r).1)

  pub tree_reset : (x a b : ℕ) → reaches W a ≡ false → reaches W b ≡ false → Tree.reset_of x (Tree.change_of W a b) ≡ (tree W).reset a b x
  tree_reset x a b r q = TreeLaws.change_resets W a b x (NumberLaws.takes_both W a w r) (NumberLaws.takes_both W b w q)

-- ---- NRU

module _ (W : ℕ) (w : is_ways W ≡ true) where
  pub nru_victim : (x map : ℕ) → map < 2 ^ 16 → reaches W map ≡ false
      → Nru.victim_of x map ≡ record { way = (nru W).victim map x; word = (nru W).before map x }
  nru_victim x map h r = NruLaws.choice_width W map x (NumberLaws.sized W w).most (below_reach W map h r)

  pub nru_fresh : Nru.fresh_of W ≡ (nru W).fresh
  nru_fresh = NruLaws.fresh_word_lem W (NumberLaws.sized W w).most

-- ---- true LRU

module _ (W : ℕ) (w : is_ways W ≡ true) where
  pub lru_victim : (x map : ℕ) → reaches W map ≡ false → Lru.victim_of W x map ≡ (lru W).victim map x
  unfolding Lru.victim_of
  lru_victim x map r = rw (NumberLaws.takes_both W map w r)

  pub lru_touch : (x map way : ℕ) → reaches W map ≡ false → Lru.touch_of W x map way ≡ (lru W).touch map way x
  unfolding Lru.touch_of
  lru_touch x map way r = rw (NumberLaws.takes_both W map w r)

  pub lru_own : (x map : ℕ) → reaches W map ≡ false → Lru.own_of W x map ≡ (lru W).part map x
  unfolding Lru.own_of
  lru_own x map r = rw (NumberLaws.takes_both W map w r)

  pub lru_fresh : Lru.fresh_of W ≡ (lru W).fresh
  unfolding Lru.fresh_of
  lru_fresh = rw w

-- ---- a call that is not refused, by what the rule's crate gave

-- the victim
module _ (W rule x map : ℕ) (limits : in_limits W rule ≡ true) (reach : reaches W map ≡ false) (some : any 16 (bit map) ≡ true) where
  pub victim_by_tree : {way : ℕ} → rule ≡ 0 → way ≡ Tree.victim_of W x map → record { answer = 0 ∷ way ∷ []; word = x } ≡ victim_of W rule x map
  victim_by_tree z e =
      victim_given W rule limits (is_tree W rule z) x map reach some (e ∙ tree_victim W (ways W rule limits) x map reach) refl

  pub victim_by_nru : {r : Choice} → map < 2 ^ 16 → rule ≡ 1 → r ≡ Nru.victim_of x map
      → record { answer = 0 ∷ r.way ∷ []; word = r.word } ≡ victim_of W rule x map
  victim_by_nru h o e =
      let choice = e ∙ nru_victim W (ways W rule limits) x map h reach in
      victim_given W rule limits (is_nru W rule o) x map reach some (ap (λ (r : Choice). r.way) choice) (ap (λ (r : Choice). r.word) choice)

  pub victim_by_lru : {way : ℕ} → rule ≡ 2 → way ≡ Lru.victim_of W x map → record { answer = 0 ∷ way ∷ []; word = x } ≡ victim_of W rule x map
  victim_by_lru t e =
      victim_given W rule limits (is_lru W rule t) x map reach some (e ∙ lru_victim W (ways W rule limits) x map reach) refl

-- only trees have nodes to share
pub no_nodes : (rule W a b : ℕ) → 1 ≤ rule → false ≡ (rule_of rule W).shares a b
no_nodes zero W a b n = absurd (omega arith)
no_nodes (suc zero) W a b n = refl
no_nodes (suc (suc r)) W a b n = refl

-- whether a node is shared, where the test of it found `b`
pub shares_by_tree : (W rule m n : ℕ) {s b : Bool} → in_limits W rule ≡ true → reaches W (bit_or m n) ≡ false → rule ≡ 0 → s ≡ Tree.shares_of W m n → s ≡ b
    → cond b 9 0 ∷ [] ≡ shares_of W rule m n
shares_by_tree W rule m n limits reach z e k =
    shares_given W rule m n limits reach
    (sym k ∙ e ∙ tree_shares W (ways W rule limits) m n reach ∙ ap (λ (R : Rule). R.shares m n) (is_tree W rule z))

-- within the limits there is a fresh word
pub fresh_is : (W rule : ℕ) {r : Result ℕ Refusal} → in_limits W rule ≡ true → outcome_of 0 r ≡ fresh_of W rule → r ≡ Ok (rule_of rule W).fresh
unfolding fresh_of
fresh_is W rule limits e = result_injective 0 0 _ (Ok (rule_of rule W).fresh) (rw limits at e)

-- ---- a change of fill map, worked out first and then done, is the rule's

pub change_resets : ChangeResets
unfolding change_of
change_resets W rule x old new h k limits first second = rw (limits, first, second) (under rule (ways W rule limits))
  where
    under : (r : ℕ) → is_ways W ≡ true → change_by (change_under r W old new) x ≡ (rule_of r W).reset old new x
    under zero w = tree_reset W w x old new first second
    under (suc zero) w = NruLaws.change_resets old new x h k
    under (suc (suc r)) w =
        cases (eqb old new)
        (λ t. rw (t, eqb-true old new t) (sym (LruLaws.same_resets W x (bit new))))
        (λ t. rw t (LruLaws.change_resets W old new (NumberLaws.takes_both W old w first) (NumberLaws.takes_both W new w second) h k x))
