-- What a rule keeps true of a word is true of every word in a run from a fresh cache.
use mathlib.Core.Path.{◌≡◌, sym, subst}
use mathlib.Core.Bool.{Bool, true, false}
use Prim.Native.Nat.{ℕ, ◌<◌}
use lib.Dec.{eqb}
use lib.ListN.{length, get_or-replicate}
use borrow.Author.Tests.{eqb-true, eqb-false}
use Rattle.waymap.proofs.Booleans.{cases}
use Rattle.replacement.specs.Rule.{Rule, rule_of}
use Rattle.row.specs.Row as Row
use Rattle.row.specs.Row.{Row, Effect, access_by}
use Rattle.sweep.specs.Clean.{cleaned}
use Rattle.policy.specs.declared.Maps.{Maps}
use Rattle.domains.specs.Domains.{policies}
use Rattle.geometry.specs.Geometry.{within}
use Rattle.geometry.specs.Address.{set_of, tag_of}
use Rattle.geometry.specs.declared.Geometry.{Geometry}
use Rattle.steps.specs.Tables.{row_at}
use Rattle.steps.specs.Step.{State, row_effect, use_line, change_policy}
use Rattle.steps.specs.Fresh.{fresh_tables, fresh}
use Rattle.steps.specs.Inside.{change_number, line_work}
use Rattle.steps.proofs.StateLaws.{line_row, line_row_other, changed_row}
use Rattle.steps.specs.Statements.{Kept, Lasting, WordsLast}
use Rattle.steps.proofs.RunLaws.{run_lasts, fresh_kept, worked, worked_long, line_kept, change_kept, inside}

-- ---- one set

module _ (R : Rule) (P : ℕ → Type 0) (lasting : Lasting R P) (p : Maps) (tag : ℕ) (store : Bool) (r : Row) (has : P r.word) where
  access_by_lem : (hit some room : Bool) → P (access_by hit some room R p tag store r).row.word
  unfolding Row.access_by Row.hit_at Row.fill_at Row.evict_at Row.filled
  access_by_lem true some room = lasting.touch p.fill _ r.word has
  access_by_lem false false room = has
  access_by_lem false true true = lasting.touch p.fill _ r.word has
  access_by_lem false true false = lasting.touch p.fill _ (R.before p.fill r.word) (lasting.before p.fill r.word has)

  flush_by : (hit : Bool) (w : ℕ) → P (Row.flush_at hit w r).row.word
  unfolding Row.flush_at
  flush_by true w = has
  flush_by false w = has

  work_word : (flushes : Bool) → P (line_work flushes R store p tag r).row.word
  unfolding Row.access Row.flush
  work_word true = flush_by _ _
  work_word false = access_by_lem _ _ _

-- ---- every set

module _ (g : Geometry) (limits : within g ≡ true) (P : ℕ → Type 0) (lasting : Lasting (rule_of g.rule g.ways) P) where
  -- every word of a state has it
  record Words (s : State) : Type 0 where
    kept : Kept g limits s
    all : (i : ℕ) → i < g.sets → P (row_at g.ways i s.tables).word

  line_words : (s : State) → Words s → (e : ℕ) → e < 16 → (arg : ℕ) (flushes store : Bool)
      → Words (use_line g (line_work flushes (rule_of g.rule g.ways) store) e arg s).state
  unfolding use_line row_effect
  line_words s q e k arg flushes store = record {
    kept = line_kept g limits s q.kept e k arg flushes store;
    all = λ i h.
        cases (eqb i (set_of g arg))
        (λ t. rw (eqb-true i (set_of g arg) t, line_row g s q.kept.whole e k (set_of g arg) in_range x long)
        (work_word (rule_of g.rule g.ways) P lasting (policies g.ways s.domains e) (tag_of g arg) store
        (row_at g.ways (set_of g arg) s.tables) (q.all (set_of g arg) in_range) flushes))
        (λ t. rw (line_row_other g s q.kept.whole e k (set_of g arg) in_range x long i (eqb-false i (set_of g arg) t)) (q.all i h));
  }
    where
      in_range : set_of g arg < g.sets
      in_range = inside g limits s q.kept e k arg

      x : Effect
      x = worked g limits s q.kept e k arg flushes store

      long : length x.row.tags ≡ g.ways
      long = worked_long g limits s q.kept e k arg flushes store

  change_words : (s : State) → Words s → (e : ℕ) → e < 16 → (arg : ℕ) → change_number g e arg s ≡ 0
      → Words (change_policy g e arg s).state
  unfolding cleaned
  change_words s q e k arg z = record {
    kept = change_kept g limits s q.kept e k arg z;
    all = λ i h. rw (changed_row g e k arg s q.kept.whole i h) (lasting.reset _ _ _ (q.all i h));
  }

  fresh_words : Words (fresh g)
  unfolding fresh fresh_tables row_at
  fresh_words = record {
    kept = fresh_kept g limits;
    all = λ i h. subst P (sym (get_or-replicate g.sets i (rule_of g.rule g.ways).fresh 0 h)) lasting.begins;
  }

pub words_last : WordsLast
words_last g limits P lasting cs =
    (run_lasts g limits (Words g limits P lasting) (λ s q. q.kept.whole) (λ s q e k z. line_words g limits P lasting s q e k)
    (change_words g limits P lasting) cs (fresh g) (fresh_words g limits P lasting)).all
