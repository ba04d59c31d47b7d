-- The two calls: document 02, job 7, for every block, every answer and every number.
use Rattle.std.specs.Prelude.{ℕ, cond, not, List, [], ◌∷◌, length, ◌==◌, nat_lt, slice_index}
use Rattle.runs.specs.Runs.{bytes_of}
use Rattle.command.specs.Answer.{answer_of}
use Rattle.command.specs.declared.Answer.TheVariants.{Refused}
use Rattle.geometry.specs.Geometry.{within}
use Rattle.geometry.specs.Named.{geometry_of}
use Rattle.geometry.specs.declared.Geometry.{Geometry}
use Rattle.steps.specs.Step.{State, step}
use Rattle.steps.specs.Fresh.{fresh}
use Rattle.block.specs.Layout.{block_bytes, zeros_in, state_of, block_of}

-- "a 32-byte lent answer"
abbrev pub answer_bytes : ℕ
answer_bytes = 32

-- ---- Numbers 12 and 1

-- Of a block of n bytes that is to have a geometry; 0 for none. "a block under 8 bytes is 12 before all else"; 1; "12, block or answer of a wrong
-- length".
unfoldable pub length_refusal : Geometry → ℕ → ℕ
length_refusal g n = cond (nat_lt n 8) 12 (cond (not (within g)) 1 (cond (not (n == block_bytes g)) 12 0))

-- Of a block that a step is to be done on, and an answer of n bytes: "12, block or answer of a wrong length, or at a step a zero byte that is not
-- zero, checked after 1".
unfoldable pub block_refusal : List ℕ → ℕ → ℕ
block_refusal block n =
    let number = length_refusal (geometry_of block) (length block) in
    cond (number == 0) (cond (not (n == answer_bytes)) 12 (cond (not (zeros_in block == 0)) 12 0)) number

-- ---- A fresh block

-- The call's result, and the block after it.
pub record Made : Type 0 where
  pub result : ℕ
  pub block : List ℕ

abbrev pub made_of : ℕ → List ℕ → Made
made_of n block = record { result = n; block = block }

unfoldable pub fresh_call : Geometry → List ℕ → Made
fresh_call g block =
    let number = length_refusal g (length block) in
    cond (number == 0) (made_of 0 (block_of g (fresh g))) (made_of number block)

-- ---- A step

-- What a step answers, as `answer_of` has it, and the block after it.
pub record Turn : Type 0 where
  pub told : List ℕ
  pub block : List ℕ

abbrev pub turn_of : List ℕ → List ℕ → Turn
turn_of told block = record { told = told; block = block }

-- "A step on the block does to its contents what the step on tables does." "a refused call leaves the block unchanged".
unfoldable pub step_turn : List ℕ → ℕ → ℕ → ℕ → ℕ → Turn
step_turn block n d kind arg =
    let g = geometry_of block in
    let o = step g d kind arg (state_of g block) in
    let number = block_refusal block n in
    cond (number == 0) (turn_of o.answer (block_of g o.state)) (turn_of (answer_of (Refused number)) block)

-- Read as tables and domains, what it leaves in the block.
unfoldable pub state_after : List ℕ → ℕ → ℕ → ℕ → ℕ → State
state_after block n d kind arg =
    let g = geometry_of block in
    cond (block_refusal block n == 0) (step g d kind arg (state_of g block)).state (state_of g block)

-- "word number and three fields", "unused fields are zero".
unfoldable pub padded : List ℕ → List ℕ
padded told = slice_index told 0 ∷ slice_index told 1 ∷ slice_index told 2 ∷ slice_index told 3 ∷ []

-- "Both calls return 0 or the refusal's number", the first field of word 7.
unfoldable pub number_in : List ℕ → ℕ
number_in told = cond (slice_index told 0 == 7) (slice_index told 1) 0

-- "each of 8 bytes"; "an answer of a wrong length is not written".
unfoldable pub filled : List ℕ → List ℕ → List ℕ
filled told answer = cond (length answer == answer_bytes) (bytes_of 8 (padded told)) answer

-- What the call gives: its result, the block and the answer.
pub record Stepped : Type 0 where
  pub result : ℕ
  pub block : List ℕ
  pub answer : List ℕ

abbrev pub stepped_of : ℕ → List ℕ → List ℕ → Stepped
stepped_of n block answer = record { result = n; block = block; answer = answer }

unfoldable pub step_call : List ℕ → List ℕ → ℕ → ℕ → ℕ → Stepped
step_call block answer d kind arg =
    let t = step_turn block (length answer) d kind arg in
    stepped_of (number_in t.told) t.block (filled t.told answer)
