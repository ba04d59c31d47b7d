-- Lines in and lines out, count by count, and back.
use mathlib.Core.Path.{◌≡◌, sym, ap}
use mathlib.Core.List.{List}
use Prim.Native.Nat.{ℕ, ◌+◌}
use native.Mathlib.Omega.{arith}
use Rattle.command.specs.Command.{Command}
use Rattle.domains.specs.Domains.{no_counts, domain_of}
use Rattle.domains.specs.declared.Counts.{Counts}
use Rattle.geometry.specs.declared.Geometry.{Geometry}
use Rattle.selectors.specs.Selectors.{fresh_cores}
use Rattle.steps.specs.Step.{State}
use Rattle.steps.specs.Run.{answers_of, finally}
use Rattle.steps.specs.Fresh.{fresh}
use Rattle.reached.specs.Balance.{held, Balanced}
use Rattle.cores.specs.Run.{core_answers, core_finally, fresh_lent}
use Rattle.balance.specs.Tally.{tally, core_tally}
use Rattle.balance.specs.Balance.{InBalance, LinesInLinesOut, CoreLinesInLinesOut}
use Rattle.balance.proofs.Balance.{balance, core_balance}
use Rattle.claims.specs.Balanced.{held_now, Accounts, Accounted, CoreAccounted}

module _ (g : Geometry) (d : ℕ) (s : State) (told : Counts) where
  abbrev now : Counts
  now = (domain_of s.domains d).counts

  accounts : InBalance g d s → now ≡ told → Accounts g d s told
  unfolding Balanced held
  accounts b same = record {
    sum = omega (arith, b.balanced);
    not_seven = λ arg q. absurd (b.unspent arg q);
    hits = cc (ap (λ (c : Counts). c.hits) same);
    misses = cc (ap (λ (c : Counts). c.misses) same);
    evicted = cc (ap (λ (c : Counts). c.evicted) same);
    written = cc (ap (λ (c : Counts). c.written) same);
    flushed = cc (ap (λ (c : Counts). c.flushed) same);
    fills = cc (ap (λ (c : Counts). c.fills) same);
    dropped = cc (ap (λ (c : Counts). c.dropped) same);
  }

  in_balance : Accounts g d s told → InBalance g d s
  unfolding Balanced held
  in_balance a = record { balanced = omega (arith, a.sum); unspent = a.not_seven }

  same_counts : Accounts g d s told → now ≡ told
  same_counts a = λ i. record {
    hits = a.hits i;
    misses = a.misses i;
    evicted = a.evicted i;
    written = a.written i;
    flushed = a.flushed i;
    fills = a.fills i;
    dropped = a.dropped i;
  }

-- ---- without records

abbrev tallied : Geometry → ℕ → List Command → Counts
tallied g d cs = tally d cs (answers_of g cs (fresh g)) no_counts

pub accounted : LinesInLinesOut → Accounted
accounted claim g limits d low cs =
    let one = claim g limits d low cs in
    accounts g d (finally g cs (fresh g)) (tallied g d cs) one.in_balance one.counts_told

pub accounted_back : Accounted → LinesInLinesOut
accounted_back said g limits d low cs =
    let one = said g limits d low cs in
    record {
      in_balance = in_balance g d (finally g cs (fresh g)) (tallied g d cs) one;
      counts_told = same_counts g d (finally g cs (fresh g)) (tallied g d cs) one;
    }

pub balance_holds : Accounted
balance_holds = accounted balance

-- ---- with up to 32

abbrev core_tallied : Geometry → ℕ → ℕ → List Command → Counts
core_tallied g d n cs = core_tally d (fresh_cores n) cs (core_answers g cs (fresh_lent g n)) no_counts

pub core_accounted : CoreLinesInLinesOut → CoreAccounted
core_accounted claim g limits d low n few cs =
    let one = claim g limits d low n few cs in
    accounts g d (core_finally g cs (fresh_lent g n)).cache (core_tallied g d n cs) one.in_balance one.counts_told

pub core_accounted_back : CoreAccounted → CoreLinesInLinesOut
core_accounted_back said g limits d low n few cs =
    let one = said g limits d low n few cs in
    record {
      in_balance = in_balance g d (core_finally g cs (fresh_lent g n)).cache (core_tallied g d n cs) one;
      counts_told = same_counts g d (core_finally g cs (fresh_lent g n)).cache (core_tallied g d n cs) one;
    }

pub core_balance_holds : CoreAccounted
core_balance_holds = core_accounted core_balance
