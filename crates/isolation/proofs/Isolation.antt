-- The struck-out run, as one theorem.
use mathlib.Core.Path.{◌≡◌, refl, sym, ap, ap₂, ◌∙◌}
use mathlib.Core.Bool.{Bool, true, false, not, ◌&&◌}
use mathlib.Core.List.{List, [], ◌∷◌, map}
use Prim.Native.Nat.{ℕ, ◌<◌}
use native.Mathlib.Omega.{arith}
use lib.Dec.{eqb}
use borrow.Author.Tests.{ne_eqb}
use Rattle.waymap.proofs.Booleans.{cases, and_left}
use Rattle.row.proofs.LineLaws.{same_line}
use Rattle.geometry.specs.Geometry.{within}
use Rattle.domains.specs.Domains.{policies}
use Rattle.geometry.specs.Inside.{Limited}
use Rattle.geometry.specs.declared.Geometry.{Geometry}
use Rattle.geometry.proofs.GeometryLaws.{limited}
use Rattle.steps.specs.Tables.{row_at}
use Rattle.steps.specs.Step.{State}
use Rattle.command.specs.Command.{Command}
use Rattle.steps.specs.Run.{step_on, answers_of, finally}
use Rattle.steps.specs.Fresh.{fresh}
use Rattle.purge.specs.Purge.{belongs, keeps, purge}
use Rattle.isolation.specs.StruckOut.{answers_to, own_answers, number_of, verdicts, SameTo, Isolation}
use Rattle.isolation.specs.Lookups.{along}
use Rattle.isolation.proofs.Relation.{Related}
use Rattle.isolation.proofs.RowUnwinding.{view_same}
use Rattle.reached.proofs.SeparateLaws.{policy_cut}
use Rattle.reached.proofs.Reached.{fresh_reached, reached_separate}
use Rattle.isolation.proofs.Unwinding.{output_consistent, verdict_consistent, step_consistent, locally_respects}
use Rattle.purge.proofs.KeepLaws.{struck}

-- ---- a fresh cache is related to itself

module _ (g : Geometry) (limits : within g ≡ true) (d : ℕ) (low : d < 16) where
  l : Limited g
  l = limited g limits

  pub fresh_related : Related g d (fresh g) (fresh g)
  fresh_related = record {
    reached_a = fresh_reached g;
    reached_b = fresh_reached g;
    tied = record {
      policy_same = λ e. refl;
      domain_same = refl;
      alike = λ s h. record { lines = λ w k u. same_line (row_at g.ways s (fresh g).tables) w; cells = λ x u. refl };
    };
  }

  -- ---- a list of steps and its purge, from related states

  -- What is said of steps that are never struck out, and is the same in related states, is the same along both.
  module _ {A : Type 0} (p : Command → Bool) (f : Command → State → A) (kept : (c : Command) → keeps d c ≡ false → p c ≡ false)
      (same : (a b : State) → Related g d a b → (c : Command) → p c ≡ true → f c a ≡ f c b) where
    pub along_from : (cs : List Command) (a b : State) → Related g d a b → along g p f cs a ≡ along g p f (purge d cs) b
    unfolding along purge
    along_from [] a b rel = refl
    along_from (c ∷ cs) a b rel =
        cases (keeps d c)
        (λ t. let next = along_from cs (step_on g c a).state (step_on g c b).state (step_consistent g limits d low a b rel c t) in
        rw t (cases (p c) (λ u. rw u (ap₂ ◌∷◌ (same a b rel c u) next)) (λ u. rw u next)))
        (λ t. rw (t, kept c t) (along_from cs (step_on g c a).state b (locally_respects g limits d low a b rel c t)))

  -- the answers, and what is made of them
  answers_along : (p : Command → Bool) (cs : List Command) (s : State)
      → answers_to p cs (answers_of g cs s) ≡ along g p (λ c t. (step_on g c t).answer) cs s
  unfolding answers_to answers_of along
  answers_along p [] s = refl
  answers_along p (c ∷ cs) s = rw (answers_along p cs (step_on g c s).state)

  numbers_along : (p : Command → Bool) (cs : List Command) (s : State)
      → map number_of (along g p (λ c t. (step_on g c t).answer) cs s) ≡ along g p (λ c t. number_of (step_on g c t).answer) cs s
  unfolding along
  numbers_along p [] s = refl
  numbers_along p (c ∷ cs) s =
      cases (p c)
      (λ t. rw (t, ← (numbers_along p cs (step_on g c s).state)))
      (λ t. rw t (numbers_along p cs (step_on g c s).state))

  answers_from : (cs : List Command) (a b : State) → Related g d a b → own_answers g d cs a ≡ own_answers g d (purge d cs) b
  unfolding own_answers
  answers_from cs a b rel =
      answers_along (belongs d) cs a
      ∙ along_from (belongs d) (λ c s. (step_on g c s).answer) (λ c t. (struck d c t).other) (output_consistent g limits d low) cs a b rel
      ∙ sym (answers_along (belongs d) (purge d cs) b)

  abbrev policy_of_another : Command → Bool
  policy_of_another c = eqb c.kind 16 && not (belongs d c)

  verdicts_from : (cs : List Command) (a b : State) → Related g d a b → verdicts g d cs a ≡ verdicts g d (purge d cs) b
  unfolding verdicts
  verdicts_from cs a b rel =
      said cs a
      ∙ along_from policy_of_another (λ c s. number_of (step_on g c s).answer) (λ c t. rw (ne_eqb c.kind 16 (λ e. omega (arith, (struck d c t).kind, e))))
      (λ x y r c t. verdict_consistent g limits d low x y r c (and_left (eqb c.kind 16) (not (belongs d c)) t)) cs a b rel
      ∙ sym (said (purge d cs) b)
    where
      said : (ds : List Command) (s : State)
          → map number_of (answers_to policy_of_another ds (answers_of g ds s)) ≡ along g policy_of_another (λ c t. number_of (step_on g c t).answer) ds s
      said ds s = ap (map number_of) (answers_along policy_of_another ds s) ∙ numbers_along policy_of_another ds s

  pub finally_from : (cs : List Command) (a b : State) → Related g d a b → Related g d (finally g cs a) (finally g (purge d cs) b)
  unfolding finally purge
  finally_from [] a b rel = rel
  finally_from (c ∷ cs) a b rel =
      cases (keeps d c)
      (λ t. rw t (finally_from cs (step_on g c a).state (step_on g c b).state (step_consistent g limits d low a b rel c t)))
      (λ t. rw t (finally_from cs (step_on g c a).state b (locally_respects g limits d low a b rel c t)))

  -- related states are the same to the domain
  pub same_to : (a b : State) → Related g d a b → SameTo g d a b
  same_to a b rel = record {
    domain = rel.tied.domain_same;
    sets = λ s h. view_same g l d low (policies g.ways a.domains) (policy_cut g.ways a.domains)
        (reached_separate g limits a rel.reached_a) (row_at g.ways s a.tables) (row_at g.ways s b.tables) (rel.tied.alike s h);
  }

-- Isolation. For every geometry within the limits, every domain and every list of steps whatever they name and ask for: strike the
-- accesses and flushes of the other domains out, and the domain sees no difference.
pub isolation : Isolation
isolation g limits d low cs = record {
  answers_same = answers_from g limits d low cs (fresh g) (fresh g) (fresh_related g limits d low);
  verdicts_same = verdicts_from g limits d low cs (fresh g) (fresh g) (fresh_related g limits d low);
  finally_same = same_to g limits d low (finally g cs (fresh g)) (finally g (purge d cs) (fresh g))
      (finally_from g limits d low cs (fresh g) (fresh g) (fresh_related g limits d low));
}
