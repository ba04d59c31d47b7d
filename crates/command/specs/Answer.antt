-- What a step answers.
use Rattle.std.specs.Prelude.{List, [], ◌∷◌, ℕ, cond}
use Rattle.command.specs.declared.Answer.{Answer}
use Rattle.command.specs.declared.Answer.TheVariants.{Hit, Fill, Evict, Pass, Flush, Absent, Policy, Refused}

-- Document 01's word and values of each answer. The words are numbered from 0 as `hit` way; `fill` way; `evict` way, tag, dirty; `pass`;
-- `flush` way, dirty; `absent`; `policy` dropped, dirty dropped; `refused` number.
abbrev pub answer_of : Answer → List ℕ
answer_of (Hit w) = 0 ∷ w ∷ []
answer_of (Fill w) = 1 ∷ w ∷ []
answer_of (Evict w tag dirty) = 2 ∷ w ∷ tag ∷ cond dirty 1 0 ∷ []
answer_of Pass = 3 ∷ []
answer_of (Flush w dirty) = 4 ∷ w ∷ cond dirty 1 0 ∷ []
answer_of Absent = 5 ∷ []
answer_of (Policy dropped dirty) = 6 ∷ dropped ∷ dirty ∷ []
answer_of (Refused n) = 7 ∷ n ∷ []
