-- The struck-out run where core records are lent, from the theorem without them: what a list of steps means is a list of the cache's steps, and to strike
-- out and to translate commute.
use mathlib.Core.Path.{◌≡◌, refl, sym, ap, ◌∙◌}
use mathlib.Core.Bool.{Bool, true, cond, not, ◌&&◌}
use mathlib.Core.List.{List, [], ◌∷◌, map}
use Prim.Native.Nat.{ℕ, ◌≤◌, ◌<◌}
use lib.Dec.{eqb, ltb}
use Rattle.waymap.proofs.Booleans.{cases}
use Rattle.command.specs.Command.{Command}
use Rattle.geometry.specs.Geometry.{within}
use Rattle.geometry.specs.declared.Geometry.{Geometry}
use Rattle.selectors.specs.Selectors.{max_cores, fresh_cores, Meant, plain, select, refused, meant, means, records_after, plain_by, plain_steps}
use Rattle.steps.specs.Step.{State}
use Rattle.steps.specs.Run.{answers_of}
use Rattle.steps.specs.Fresh.{fresh}
use Rattle.purge.specs.Purge.{belongs, keeps, purge, core_purge}
use Rattle.purge.proofs.CoreLaws.{purge_plain, purge_records}
use Rattle.isolation.specs.StruckOut.{answers_to, own_answers, number_of, verdicts, StruckOut}
use Rattle.isolation.proofs.Isolation.{isolation}
use Rattle.cores.specs.Step.{Lent, answer_by, cache_by, core_step}
use Rattle.cores.specs.Run.{core_answers, fresh_lent}
use Rattle.cores.specs.Statements.{Standing}
use Rattle.cores.proofs.RunLaws.{fresh_standing, step_means, step_standing, run_plain}
use Rattle.switching.specs.StruckOut.{core_answers_to, own_core_answers, core_verdicts, own, CoreStruckOut, Switching}

module _ (g : Geometry) (limits : within g ≡ true) (p : Command → Bool) where
  -- the answers from one step on, by what it means
  answers_by : (m : Meant) (cs : List Command) (s : State) → answers_to p (plain_by m cs) (answers_of g (plain_by m cs) s)
      ≡ cond (means p m) (answer_by m g s ∷ answers_to p cs (answers_of g cs (cache_by m g s))) (answers_to p cs (answers_of g cs (cache_by m g s)))
  unfolding answers_to answers_of means answer_by cache_by plain_by
  answers_by (plain c) cs s = refl
  answers_by (select core) cs s = refl
  answers_by (refused n) cs s = refl

  -- The answers to steps that mean one of the cache which passes a test are those of the run of the steps meant.
  pub answers_plain : (cs : List Command) (x : Lent) → Standing g limits x → core_answers_to p x.cores cs (core_answers g cs x)
      ≡ answers_to p (plain_steps x.cores cs) (answers_of g (plain_steps x.cores cs) x.cache)
  unfolding core_answers_to core_answers plain_steps records_after answers_to
  answers_plain [] x s = refl
  answers_plain (c ∷ cs) x s =
      let m = meant x.cores c in
      let later = answers_plain cs (core_step g c x).lent (step_standing g limits x s c) in
      let next = rw (step_means g limits x s c) at later in
      rw (step_means g limits x s c)
      (ap (λ (l : List (List ℕ)). cond (means p m) (answer_by m g x.cache ∷ l) l) next
      ∙ sym (answers_by m (plain_steps (records_after x.cores c) cs) x.cache))

-- The chosen domain's steps are never struck out.
own_purged : (d : ℕ) (cs : List Command) → own d (purge d cs) ≡ own d cs
unfolding own purge keeps
own_purged d [] = refl
own_purged d (c ∷ cs) =
    cases (belongs d c)
    (λ t. rw t (rw t (ap (λ (l : List Command). c ∷ l) (own_purged d cs))))
    (λ t. cases (ltb c.kind 4) (λ u. rw (t, u) (own_purged d cs)) (λ u. rw (t, u) (rw t (own_purged d cs))))

module _ (g : Geometry) (limits : within g ≡ true) (d : ℕ) (low : d < 16) (n : ℕ) (few : n ≤ max_cores) (cs : List Command) where
  abbrev pub lent : Lent
  lent = fresh_lent g n

  pub stands : Standing g limits lent
  stands = fresh_standing g limits n few

  -- what the list means, and what the struck-out list means
  abbrev pub meaning : List Command → List Command
  meaning bs = plain_steps (fresh_cores n) bs

  pub meant_purged : meaning (core_purge d (fresh_cores n) cs) ≡ purge d (meaning cs)
  meant_purged = purge_plain d cs (fresh_cores n)

  same : StruckOut g d (meaning cs)
  same = isolation g limits d low (meaning cs)

  -- the answers to steps that pass a test, in a run of what is meant
  abbrev to : (Command → Bool) → List Command → List (List ℕ)
  to p bs = answers_to p bs (answers_of g bs (fresh g))

  told : (p : Command → Bool) (bs : List Command) → core_answers_to p (fresh_cores n) bs (core_answers g bs lent) ≡ to p (meaning bs)
  unfolding fresh_lent
  told p bs = answers_plain g limits p bs lent stands

  purged_told : (p : Command → Bool)
      → core_answers_to p (fresh_cores n) (core_purge d (fresh_cores n) cs) (core_answers g (core_purge d (fresh_cores n) cs) lent) ≡ to p (purge d (meaning cs))
  purged_told p = told p (core_purge d (fresh_cores n) cs) ∙ ap (to p) meant_purged

  abbrev another : Command → Bool
  another c = eqb c.kind 16 && not (belongs d c)

  struck_out_lem : CoreStruckOut g d n cs
  unfolding own_core_answers core_verdicts own_answers verdicts fresh_lent
  struck_out_lem = record {
    steps_same = sym (own_purged d (meaning cs)) ∙ ap (own d) (sym meant_purged);
    answers_same = told (belongs d) cs ∙ same.answers_same ∙ sym (purged_told (belongs d));
    verdicts_same = ap (map number_of) (told another cs) ∙ same.verdicts_same ∙ sym (ap (map number_of) (purged_told another));
    finally_same = rw (run_plain g limits cs lent stands, run_plain g limits (core_purge d (fresh_cores n) cs) lent stands, meant_purged) same.finally_same;
    records_same = ap (λ (x : Lent). x.cores) (run_plain g limits cs lent stands) ∙ sym (purge_records d cs (fresh_cores n))
        ∙ sym (ap (λ (x : Lent). x.cores) (run_plain g limits (core_purge d (fresh_cores n) cs) lent stands));
  }

-- Isolation where cores switch between domains. For every geometry within the limits, every domain, every number of records up to 32 and every list of steps:
-- strike out what belongs to other domains at its moment of the run, and the domain sees no difference.
pub switching : Switching
switching = struck_out_lem
