-- "a refused call leaves the block unchanged": it follows from the definitions, of every block of bytes.
use Rattle.std.proofs.Common.{◌≡◌, ℕ, eqb, List, length, get_or, ap, ◌∙◌, arith, eqb-true}
use Rattle.waymap.proofs.Booleans.{cases}
use Rattle.endian.specs.Bytes.{cut}
use Rattle.geometry.specs.Named.{geometry_of}
use Rattle.geometry.specs.declared.Geometry.{Geometry}
use Rattle.steps.specs.Step.{step}
use Rattle.steps.proofs.AnswerLaws.{refused_stays}
use Rattle.block.specs.Layout.{sizes, state_of, state_bytes, block_of}
use Rattle.block.specs.Block.{length_refusal, block_refusal, fresh_call, step_turn, number_in, step_call}
use Rattle.block.specs.Inside.{Blocked, contents_in, contents}
use Rattle.block.specs.Statements.{PassedAgain, StepRefusedLeaves, FreshRefusedLeaves}
use Rattle.block.proofs.HeadLaws.{blocked, passed}
use Rattle.block.proofs.LayoutLaws.{block_again, head_again}

-- A block that a step is let onto, read and written again.
pub passed_again : PassedAgain
unfolding block_of state_of contents contents_in cut sizes
passed_again block n bytes e =
    let g : Geometry = geometry_of block in
    let let_pass = passed block n e in
    let b : Blocked g block = blocked g block let_pass.length_is in
    ap (λ (head : List ℕ). state_bytes head (contents g block).state) (head_again block (omega (arith, b.long)) bytes let_pass.zeros_are)
    ∙ block_again g block b bytes

number_seven : (told : List ℕ) → (number_in told ≡ 0 → ⊥) → get_or told 0 0 ≡ 7
unfolding number_in
number_seven told h = cases (eqb (get_or told 0 0) 7) (λ t. eqb-true (get_or told 0 0) 7 t) (λ t. absurd (h (rw t)))

pub step_refused_leaves : StepRefusedLeaves
unfolding step_call step_turn
step_refused_leaves block answer d kind arg bytes h =
    cases (eqb (block_refusal block (length answer)) 0)
    (λ t. let seven = number_seven (step g d kind arg (state_of g block)).answer (rw t at h) in
    rw t
    (ap (block_of g) (refused_stays g d kind arg (state_of g block) seven)
    ∙ passed_again block (length answer) bytes (eqb-true (block_refusal block (length answer)) 0 t)))
    (λ t. rw t)
  where
    g : Geometry
    g = geometry_of block

pub fresh_refused_leaves : FreshRefusedLeaves
unfolding fresh_call
fresh_refused_leaves g block h =
    cases (eqb (length_refusal g (length block)) 0)
    (λ t. absurd (h (rw t)))
    (λ t. rw t)
