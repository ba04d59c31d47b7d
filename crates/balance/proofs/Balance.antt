-- Lines in and lines out, as one theorem, and the same where core records are lent.
use mathlib.Core.Path.{◌≡◌, refl, sym, ap, subst, ◌∙◌}
use mathlib.Core.Bool.{true, cond}
use mathlib.Core.List.{List, [], ◌∷◌}
use Prim.Native.Nat.{ℕ, ◌≤◌, ◌<◌}
use native.Mathlib.Omega.{arith}
use lib.Dec.{eqb}
use Rattle.waymap.proofs.Booleans.{cases}
use Rattle.command.specs.Command.{Command}
use Rattle.domains.specs.Domains.{no_counts, domain_of}
use Rattle.domains.specs.declared.Counts.{Counts}
use Rattle.domains.specs.declared.Domain.{Domain}
use Rattle.command.specs.Kind.{kind_of}
use Rattle.verdict.specs.Refusal.{refusal_by}
use Rattle.geometry.specs.Geometry.{within}
use Rattle.geometry.specs.declared.Geometry.{Geometry}
use Rattle.selectors.specs.Selectors.{max_cores, fresh_cores, Meant, plain, select, refused, meant, records_after, plain_by, plain_steps}
use Rattle.steps.specs.Step.{State, change_policy, step_by, decided, step}
use Rattle.steps.specs.Run.{step_on, answers_of, finally}
use Rattle.steps.specs.Fresh.{fresh}
use Rattle.steps.specs.Inside.{change_number}
use Rattle.steps.proofs.StateLaws.{step_within}
use Rattle.steps.proofs.RunLaws.{fresh_kept, fresh_domain}
use Rattle.reached.specs.Reached.{Reached}
use Rattle.reached.proofs.Reached.{run_reached, reached_whole, reached_balanced, reached_unspent}
use Rattle.cores.specs.Step.{Lent, answer_by, cache_by, core_step}
use Rattle.cores.specs.Run.{core_answers, core_finally, fresh_lent}
use Rattle.cores.specs.Statements.{Standing}
use Rattle.cores.proofs.RunLaws.{fresh_standing, step_means, step_standing, run_plain}
use Rattle.balance.specs.Tally.{tallied, tally, tallied_by, core_tally}
use Rattle.balance.specs.Balance.{InBalance, Balance, CoreBalance, LinesInLinesOut, CoreLinesInLinesOut}
use Rattle.balance.proofs.TallyLaws.{run_tallied}

module _ (g : Geometry) (limits : within g ≡ true) (d : ℕ) (low : d < 16) where
  module _ (s : State) (r : Reached g s) where
    -- a policy change is answered by `policy`, or by its number
    not_seven : (arg n : ℕ) → n ≡ change_number g d arg s → (decided n (change_policy g d arg s) s).answer ≡ 7 ∷ 7 ∷ [] → ⊥
    unfolding decided change_policy
    not_seven arg n is q =
        cases (eqb n 0)
        (λ t. let z : ◌≡◌ {A = ℕ} 6 7 = cc (rw t at q) in omega arith)
        (λ t. let z : n ≡ 7 = cc (rw t at q) in reached_unspent g limits s r d low arg (sym is ∙ z))

    in_balance : InBalance g d s
    unfolding kind_of step_by refusal_by
    in_balance = record {
      balanced = reached_balanced g limits s r d low;
      unspent = λ arg q.
          not_seven arg (change_number g d arg s) refl
          (rw (step_within g limits (record { domain = d; kind = 16; argument = arg }) s (reached_whole g limits s r) low) at q);
    }

  fresh_told : (cs : List Command) → (domain_of (finally g cs (fresh g)).domains d).counts ≡ tally d cs (answers_of g cs (fresh g)) no_counts
  fresh_told cs =
      run_tallied g limits d cs (fresh g) (fresh_kept g limits)
      ∙ ap (λ (x : Domain). tally d cs (answers_of g cs (fresh g)) x.counts) (fresh_domain g limits d)

  after : (cs : List Command) → Balance g d cs
  after cs = record { in_balance = in_balance (finally g cs (fresh g)) (run_reached g cs); counts_told = fresh_told cs }

  -- ---- where core records are lent

  -- the tally from one step on, by what it means
  tally_by : (m : Meant) (cs : List Command) (s : State) (c : Counts) → tally d (plain_by m cs) (answers_of g (plain_by m cs) s) c
      ≡ tally d cs (answers_of g cs (cache_by m g s)) (tallied_by d m (answer_by m g s) c)
  unfolding plain_by cache_by answer_by tallied_by tally answers_of
  tally_by (plain o) cs s c = refl
  tally_by (select core) cs s c = refl
  tally_by (refused n) cs s c = refl

  -- the tally of the lines is that of the steps meant
  tally_plain : (cs : List Command) (x : Lent) → Standing g limits x → (c : Counts)
      → core_tally d x.cores cs (core_answers g cs x) c ≡ tally d (plain_steps x.cores cs) (answers_of g (plain_steps x.cores cs) x.cache) c
  unfolding core_tally core_answers plain_steps records_after tally
  tally_plain [] x s c = refl
  tally_plain (b ∷ cs) x s c =
      let m = meant x.cores b in
      let later = tally_plain cs (core_step g b x).lent (step_standing g limits x s b) (tallied_by d m (answer_by m g x.cache) c) in
      let next = rw (step_means g limits x s b) at later in
      rw (step_means g limits x s b) (next ∙ sym (tally_by m (plain_steps (records_after x.cores b) cs) x.cache c))

  core_after : (n : ℕ) → n ≤ max_cores → (cs : List Command) → CoreBalance g d n cs
  unfolding fresh_lent
  core_after n few cs = record {
    in_balance = rw end whole.in_balance;
    counts_told = rw end (whole.counts_told ∙ sym (tally_plain cs (fresh_lent g n) stands no_counts));
  }
    where
      stands : Standing g limits (fresh_lent g n)
      stands = fresh_standing g limits n few

      -- the steps meant
      plainly : List Command
      plainly = plain_steps (fresh_cores n) cs

      whole : Balance g d (plain_steps (fresh_cores n) cs)
      whole = after plainly

      end : (core_finally g cs (fresh_lent g n)).cache ≡ finally g (plain_steps (fresh_cores n) cs) (fresh g)
      end = ap (λ (x : Lent). x.cache) (run_plain g limits cs (fresh_lent g n) stands)

-- Balance. For every geometry within the limits, every domain and every list of steps whatever they name and ask for: lines in are lines out and lines
-- held, by the counts of the domain line, which the listing's own lines tell; and no policy change is refused by 7.
pub balance : LinesInLinesOut
balance = after

-- The same where core records are lent.
pub core_balance : CoreLinesInLinesOut
core_balance = core_after
