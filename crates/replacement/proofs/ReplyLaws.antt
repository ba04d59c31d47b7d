-- Document 01's numbers and values tell any two answers apart.
use mathlib.Core.Path.{◌≡◌, refl, sym, ap}
use mathlib.Core.Bool.{cond}
use mathlib.Core.List.{List, ◌∷◌, []}
use Prim.Native.Nat.{ℕ}
use native.Mathlib.Omega.{arith}
use lib.Dec.{eqb}
use Rattle.std.specs.Prelude.{Ok, Err}
use Rattle.std.specs.Prelude as Prelude
use Rattle.replacement.specs.Calls.{Result}
use Rattle.replacement.specs.Refusal.{number_of}
use Rattle.replacement.specs.declared.Refusal.{Refusal}
use Rattle.replacement.specs.declared.Refusal.TheVariants.{OutsideLimits, OutOfReach, SharedNode}
use Rattle.replacement.specs.Statements.{NumberInjective, ReplyInjective, ResultInjective, ChoiceInjective}

-- The refusal that a number tells.
refusal_in : ℕ → Refusal
refusal_in n = cond (eqb n 1) OutsideLimits (cond (eqb n 5) OutOfReach SharedNode)

refusal_again : (r : Refusal) → refusal_in (number_of r) ≡ r
unfolding refusal_in
refusal_again OutsideLimits = refl
refusal_again OutOfReach = refl
refusal_again SharedNode = refl

pub number_injective : NumberInjective
number_injective r s e = rw (← (refusal_again r), ← (refusal_again s), e)

-- a refusal's number is not that of a call that is not refused
pub some_number : (r : Refusal) → number_of r ≡ 0 → ⊥
some_number OutsideLimits e = omega arith
some_number OutOfReach e = omega arith
some_number SharedNode e = omega arith

pub first_same : {m n : ℕ} {a b : List ℕ} → m ∷ a ≡ n ∷ b → m ≡ n
first_same e = cc

-- So a contract that equates numbers and values settles the whole answer.
pub reply_injective : ReplyInjective
reply_injective (Ok x) (Ok y) e = refl
reply_injective (Ok x) (Err s) e = absurd (some_number s (sym (first_same e)))
reply_injective (Err r) (Ok y) e = absurd (some_number r (first_same e))
reply_injective (Err r) (Err s) e = ap Err (number_injective r s (first_same e))

-- and a call that is not refused gives one value
pub ok_same : {A : Type 0} {x y : A} → ◌≡◌ {A = Prelude.Result A Refusal} (Ok x) (Ok y) → x ≡ y
ok_same e = cc

answers : {p q : Result} → p ≡ q → p.answer ≡ q.answer
answers e = ap (λ (r : Result). r.answer) e

pub result_injective : ResultInjective
result_injective v w (Ok x) (Ok y) e = ap Ok (ap (λ (r : Result). r.word) e)
result_injective v w (Ok x) (Err s) e = absurd (some_number s (sym (first_same (answers e))))
result_injective v w (Err r) (Ok y) e = absurd (some_number r (first_same (answers e)))
result_injective v w (Err r) (Err s) e = ap Err (number_injective r s (first_same (answers e)))

way_same : {a b : ℕ} → ◌≡◌ {A = List ℕ} (0 ∷ a ∷ []) (0 ∷ b ∷ []) → a ≡ b
way_same e = cc

pub choice_injective : ChoiceInjective
choice_injective v w (Ok c) (Ok d) e =
    let way = way_same (answers e) in
    ap Ok (λ i. record { way = way i; word = (e i).word })
choice_injective v w (Ok c) (Err s) e = absurd (some_number s (sym (first_same (answers e))))
choice_injective v w (Err r) (Ok d) e = absurd (some_number r (first_same (answers e)))
choice_injective v w (Err r) (Err s) e = ap Err (number_injective r s (first_same (answers e)))
