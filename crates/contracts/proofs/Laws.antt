-- Laws of the lower layers that no other crate goes by, used: each in other words, for all that it is claimed of.
use mathlib.Core.Path.{◌≡◌, refl, sym, ap, subst, ◌∙◌}
use mathlib.Core.Bool.{true, false}
use mathlib.Core.List.{List, [], ◌∷◌, ◌++◌}
use Prim.Native.Nat.{ℕ, suc, ◌-◌, ◌^◌, ◌≤◌, ◌<◌}
use native.Mathlib.Omega.{arith}
use lib.Count.{count_leading_zeros, count_trailing_zeros}
use lib.Dec.{eqb, ltb}
use lib.ListN.{length, get_or}
use borrow.Author.Tests.{eqb-true, eqb-false, lt-ltb, le-ltb}
use Rattle.waymap.specs.Bits.{Bits, bit, word, lowest, members}
use Rattle.waymap.specs.Ways.{Sized}
use Rattle.waymap.specs.Encoder.{encode}
use Rattle.waymap.proofs.Booleans.{cases}
use Rattle.waymap.proofs.EncoderLaws.{encode_is, leading_encode, encode_empty}
use Rattle.waymap.proofs.WayLaws.{trailing_lowest}
use Rattle.command.specs.Command.{Command, code_of, command_of, command_is}
use Rattle.command.specs.Kind.{Kind, kind_is}
use Rattle.command.specs.declared.Command.{Command as Given}
use Rattle.command.specs.declared.Asked.{Asked}
use Rattle.command.proofs.CommandLaws.{command_of_code, command_injective}
use Rattle.command.proofs.KindLaws.{kind_injective}
use Rattle.tree.specs.Tree.{left, right, under, masked_victim}
use Rattle.tree.proofs.TreeLaws.{walk_is_masked}
use Rattle.tree.proofs.HalfLaws.{left_lower}
use Rattle.lru_rule.specs.Lru.{Order, order, written, times}
use Rattle.lru_rule.specs.Statements.{Each}
use Rattle.lru_rule.proofs.PlaceLaws.{order_each, order_written}
use Rattle.lru_rule.proofs.OrderLaws.{none_missing}
use Rattle.replacement.specs.Rule.{tree}
use Rattle.std.specs.Prelude as Prelude
use Rattle.nru.specs.declared.Choice.{Choice}
use Rattle.replacement.specs.Calls.{Result}
use Rattle.replacement.specs.Answer.{answer_of, outcome_of, choice_of}
use Rattle.replacement.specs.declared.Refusal.{Refusal}
use Rattle.replacement.proofs.ReplyLaws.{reply_injective, result_injective, choice_injective}
use Rattle.lookup.specs.Lookup.{is_hit, hit_way, visits}
use Rattle.lookup.proofs.LookupLaws.{visits_hit, visits_miss}
use Rattle.geometry.specs.Inside.{Limited}
use Rattle.geometry.specs.Address.{set_of}
use Rattle.geometry.specs.declared.Geometry.{Geometry}
use Rattle.geometry.proofs.AddressLaws.{set_most}
use Rattle.purge.specs.Purge.{keeps, purge, core_purge}
use Rattle.purge.proofs.KeepLaws.{keeps_own, keeps_others}
use Rattle.steps.specs.Step.{State, step}
use Rattle.steps.proofs.AnswerLaws.{policy_word, drops_most, no_refusal_zero}

-- ---- maps

-- Of sixteen ways the encoder gives the highest that passes, a word's highest one, and for an empty map what the lowest way is; the lowest way is counted.
highest_way : (p : Bits) (i : ℕ) → i < 16 → p i ≡ true → ((k : ℕ) → i < k → p k ≡ false) → encode 16 p ≡ i
highest_way p i low t above = encode_is 16 p i low above t

by_leading_zeros : (map : ℕ) → (map ≡ 0 → ⊥) → map < 65536 → encode 16 (bit map) ≡ 15 - count_leading_zeros 16 map
by_leading_zeros map some fits = sym (leading_encode 16 map some fits)

none_in_zero : encode 16 (bit 0) ≡ lowest 16 (bit 0)
none_in_zero = sym (encode_empty 0 refl)

by_trailing_zeros : (width map : ℕ) → lowest width (bit map) ≡ count_trailing_zeros width map
by_trailing_zeros width map = sym (trailing_lowest width map)

-- ---- what a contract equates is told apart from all else

steps_told : (p q : Given) (c : Command) → command_is p ≡ c → command_is q ≡ c → p ≡ q
steps_told p q c e f = command_injective p q (e ∙ sym f)

kinds_told : (p q : Asked) (k : Kind) → kind_is p ≡ k → kind_is q ≡ k → p ≡ q
kinds_told p q k e f = kind_injective p q (e ∙ sym f)

replies_told : (p q : Prelude.Result (Unit {0}) Refusal) (a : List ℕ) → answer_of p ≡ a → answer_of q ≡ a → p ≡ q
replies_told p q a e f = reply_injective p q (e ∙ sym f)

results_told : (word : ℕ) (p q : Prelude.Result ℕ Refusal) (r : Result) → outcome_of word p ≡ r → outcome_of word q ≡ r → p ≡ q
results_told word p q r e f = result_injective word word p q (e ∙ sym f)

choices_told : (word : ℕ) (p q : Prelude.Result Choice Refusal) (r : Result) → choice_of word p ≡ r → choice_of word q ≡ r → p ≡ q
choices_told word p q r e f = choice_injective word word p q (e ∙ sym f)

step_of_its_code : (d kind argument : ℕ) → d < 256
    → command_of (code_of (record { domain = d; kind = kind; argument = argument })) argument ≡ record { domain = d; kind = kind; argument = argument }
step_of_its_code d kind argument low = command_of_code (record { domain = d; kind = kind; argument = argument }) low

-- ---- the rules

-- The victim of Tree-PLRU is the one of the masked word, for every W up to 64, every map and every word.
victim_is_masked : (W map x : ℕ) → W ≤ 64 → (tree W).victim map x ≡ masked_victim W (bit map) x
victim_is_masked W map x few = walk_is_masked W (bit map) x few

-- A way of a node's right half is above every way of its left half.
right_higher : (k i v w : ℕ) → v < 2 ^ k → w < 2 ^ k → under (2 ^ k) (left i) v ≡ true → w ≤ v → under (2 ^ k) (right i) w ≡ false
right_higher k i v w h l t most =
    cases (under (2 ^ k) (right i) w) (λ u. absurd (omega (arith, left_lower k i v w h l t u, most))) (λ u. u)

-- Under true LRU every word is read as an order of each way once; W places that miss none are such an order; and what is written is read.
read_once : (W x w : ℕ) → w < W → times w (order W x) ≡ 1
read_once W x w h = order_each W x w ∙ rw (lt-ltb w W h)

places_once : (W : ℕ) (o : Order) → length o ≡ W → ((w : ℕ) → w < W → 1 ≤ times w o) → (w : ℕ) → W ≤ w → times w o ≡ 0
places_once W o long all w h = none_missing W o long all w ∙ rw (le-ltb w W h)

read_as_written : (W : ℕ) → W ≤ 16 → (o : Order) → Each W o → (x y : ℕ) → order W (written W x o) ≡ order W (written W y o)
read_as_written W few o each x y = order_written W few x o each ∙ sym (order_written W few y o each)

-- ---- the lookup and the address

-- The ways visited with a hit end in the way hit; without one they are the hit map's.
last_visited : (tags : List ℕ) (valid hit tag w : ℕ) → hit_way tags valid hit tag ≡ w → is_hit tags valid hit tag ≡ true
    → visits tags valid hit tag ≡ members w (bit hit) ++ (w ∷ [])
last_visited tags valid hit tag w is t = subst (λ (v : ℕ). visits tags valid hit tag ≡ members v (bit hit) ++ (v ∷ [])) is (visits_hit tags valid hit tag t)

all_visited : (tags : List ℕ) (valid hit tag W : ℕ) → length tags ≡ W → is_hit tags valid hit tag ≡ false → visits tags valid hit tag ≡ members W (bit hit)
all_visited tags valid hit tag W long t = visits_miss tags valid hit tag t ∙ ap (λ (n : ℕ). members n (bit hit)) long

set_below_4096 : (g : Geometry) (address : ℕ) → Limited g → set_of g address < 4096
set_below_4096 g address l = set_most g address l

-- ---- the struck-out list

own_is_kept : (d : ℕ) (c : Command) (cs : List Command) → c.domain ≡ d → purge d (c ∷ cs) ≡ c ∷ purge d cs
unfolding purge
own_is_kept d c cs is = rw (keeps_own d c is)

others_are_kept : (d : ℕ) (c : Command) (cs : List Command) → 4 ≤ c.kind → purge d (c ∷ cs) ≡ c ∷ purge d cs
unfolding purge
others_are_kept d c cs high = rw (keeps_others d c high)

-- ---- answers

-- `policy` is the answer to kind 16 alone, with at most 65,536 lines; and no step is refused by 0.
policy_alone : (g : Geometry) (d kind arg n m : ℕ) (s : State) → (step g d kind arg s).answer ≡ 6 ∷ n ∷ m ∷ [] → kind ≡ 16
policy_alone g d kind arg n m s e = policy_word g d kind arg s (ap (λ (a : List ℕ). get_or a 0 0) e)

dropped_at_most : (g : Geometry) (d arg n m : ℕ) (s : State) → Limited g → (step g d 16 arg s).answer ≡ 6 ∷ n ∷ m ∷ [] → (n ≤ 65536) × (m ≤ 65536)
dropped_at_most g d arg n m s l e = drops_most g d arg s l n m e

refused_by_some : (g : Geometry) (d kind arg n : ℕ) (s : State) → (step g d kind arg s).answer ≡ 7 ∷ n ∷ [] → 1 ≤ n
refused_by_some g d kind arg n s e =
    cases (eqb n 0)
    (λ t. absurd (no_refusal_zero g (record { domain = d; kind = kind; argument = arg }) s (e ∙ ap (λ (k : ℕ). 7 ∷ k ∷ []) (eqb-true n 0 t))))
    (λ t. omega (arith, eqb-false n 0 t))
