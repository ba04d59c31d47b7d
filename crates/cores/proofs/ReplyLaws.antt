-- The words and values of what a step answers tell any two replies apart, so that the contract of a step settles all that it gives.
use mathlib.Core.Path.{◌≡◌, ap, sym}
use mathlib.Core.List.{List}
use Prim.Native.Nat.{ℕ}
use native.Mathlib.Omega.{arith}
use lib.ListN.{get_or}
use Rattle.command.specs.Answer.{answer_of}
use Rattle.command.specs.declared.Answer.{Answer}
use Rattle.command.specs.declared.Answer.TheVariants.{Hit, Fill, Evict, Pass, Flush, Absent, Policy, Refused}
use Rattle.command.proofs.AnswerLaws.{answer_injective}
use Rattle.cores.specs.Step.{Result}
use Rattle.cores.specs.Calls.{reply_of, Turn}
use Rattle.cores.specs.declared.Reply.{Reply}
use Rattle.cores.specs.declared.Reply.TheVariants.{Cache, Select}
use Rattle.cores.specs.declared.Stepped.{Stepped}
use Rattle.cores.specs.Statements.{ResultInjective, TurnInjective}

-- no answer of the cache has the word of a selector write
word_low : (a : Answer) → get_or (answer_of a) 0 0 ≡ 8 → ⊥
word_low (Hit w) e = omega arith
word_low (Fill w) e = omega arith
word_low (Evict w tag dirty) e = omega arith
word_low Pass e = omega arith
word_low (Flush w dirty) e = omega arith
word_low Absent e = omega arith
word_low (Policy n d) e = omega arith
word_low (Refused n) e = omega arith

-- the value in a place
value : (k : ℕ) {a b : List ℕ} → a ≡ b → get_or a k 0 ≡ get_or b k 0
value k e = ap (λ (l : List ℕ). get_or l k 0) e

pub reply_injective : (p q : Reply) → reply_of p ≡ reply_of q → p ≡ q
reply_injective (Cache a) (Cache b) e = ap Cache (answer_injective a b e)
reply_injective (Cache a) (Select k) e = absurd (word_low a (value 0 e))
reply_injective (Select j) (Cache b) e = absurd (word_low b (sym (value 0 e)))
reply_injective (Select j) (Select k) e = λ i. Select (record { cs = value 1 e i; ds = value 2 e i; es = value 3 e i })

-- what a step gives, all of it
stepped_same : (p q : Stepped) → reply_of p.reply ≡ reply_of q.reply → p.domains ≡ q.domains → p ≡ q
stepped_same p q e d = λ i. record { reply = reply_injective p.reply q.reply e i; domains = d i }

pub result_injective : ResultInjective
result_injective p q t u x y e = (
  stepped_same p q (ap (λ (r : Result). r.answer) e) (ap (λ (r : Result). r.lent.cache.domains) e),
  ap (λ (r : Result). r.lent.cache.tables) e,
  ap (λ (r : Result). r.lent.cores) e,
)

pub turn_injective : TurnInjective
turn_injective p q t u e =
    let same = stepped_same p.stepped q.stepped (ap (λ (r : Turn). r.answer) e) (ap (λ (r : Turn). r.cache.domains) e) in
    ((λ i. record { stepped = same i; core = (e i).core }), ap (λ (r : Turn). r.cache.tables) e)
