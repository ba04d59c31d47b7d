-- A list of 32 records, of which a step reads and writes the one at the place that is its core's number modulo 32. Where the core is not in the list, what
-- is read has no say, and what is written is what was there.
use mathlib.Core.Path.{◌≡◌, refl, ◌∙◌}
use mathlib.Core.Bool.{false, ◌&&◌}
use mathlib.Core.List.{List}
use Prim.Native.Nat.{ℕ, ◌*◌, ◌%◌, ◌<◌}
use native.Mathlib.Nat.{mod-eq_of_lt}
use native.Mathlib.Omega.{arith}
use lib.Dec.{eqb, leb, ltb}
use lib.ListN.{length, get_or, set}
use lib.Seq.{set-get_or}
use mir.Syntax.{w64}
use mir.Val.{Fits}
use borrow.Author.Tests.{ltb-true}
use Rattle.waymap.proofs.Booleans.{cases}
use Rattle.command.specs.Command.{Command}
use Rattle.selectors.specs.Selectors.{
  max_cores,
  no_core,
  Meant,
  plain,
  select,
  refused,
  meant_by,
  meant,
  records_by,
  records_after,
  record_by,
}
use Rattle.selectors.specs.declared.Core.{Core}

-- a record whose selectors are all zero is the fresh one
pub default_core : (core : Core) → (core.cs ≡ 0) × ((core.ds ≡ 0) × (core.es ≡ 0)) → core ≡ no_core
default_core core z = λ i. record { cs = z.0 i; ds = z.1.0 i; es = z.1.1 i }

-- the record that is put back, in place i of the list
pub put_record : (m : Meant) (i : ℕ) (cores : List Core) → set cores i (record_by m (get_or cores i no_core)) ≡ records_by m i cores
unfolding record_by records_by
put_record (plain c) i cores = set-get_or cores i no_core
put_record (select core) i cores = refl
put_record (refused n) i cores = set-get_or cores i no_core

-- ---- a core that is not in the list

module _ (core : Core) (c : Command) where
  unlisted_same : (other : Core) → meant_by false core c ≡ meant_by false other c
  unfolding meant_by
  unlisted_same other = refl

  -- it means a step of the cache, or a refusal
  unlisted : {A : Type 0} (f : Meant → A) (a : A) → ((o : Command) → f (plain o) ≡ a) → ((n : ℕ) → f (refused n) ≡ a) → f (meant_by false core c) ≡ a
  unfolding meant_by
  unlisted f a steps refuses =
      cases (leb 32 c.kind && leb c.kind 35)
      (λ t. rw t (refuses 11))
      (λ t. rw t (cases (eqb c.kind 40) (λ u. rw u (refuses 11)) (λ u. rw u (steps c))))

  unlisted_record : (old : Core) → record_by (meant_by false core c) old ≡ old
  unfolding record_by
  unlisted_record old = unlisted (λ (m : Meant). record_by m old) old (λ o. refl) (λ n. refl)

  unlisted_records : (i : ℕ) (cores : List Core) → records_by (meant_by false core c) i cores ≡ cores
  unfolding records_by
  unlisted_records i cores = unlisted (λ (m : Meant). records_by m i cores) cores (λ o. refl) (λ n. refl)

-- ---- a list of 32 records

module _ (cores : List Core) (long : length cores ≡ max_cores) (c : Command) where
  abbrev place : ℕ
  place = c.domain % max_cores

  abbrev here : Core
  here = get_or cores place no_core

  pub place_meant : meant_by (ltb c.domain max_cores) here c ≡ meant cores c
  unfolding meant
  place_meant =
      cases (ltb c.domain max_cores)
      (λ t. rw (mod-eq_of_lt (ltb-true c.domain max_cores t), long))
      (λ t. rw (long, t) (unlisted_same here c (get_or cores c.domain no_core)))

  pub place_records : set cores place (record_by (meant_by (ltb c.domain max_cores) here c) here) ≡ records_after cores c
  unfolding records_after
  place_records =
      cases (ltb c.domain max_cores)
      (λ t. put_record (meant_by (ltb c.domain max_cores) here c) place cores
      ∙ rw (place_meant, mod-eq_of_lt (ltb-true c.domain max_cores t)))
      (λ t. rw (← place_meant, t, unlisted_record here c here, unlisted_records here c c.domain cores) (set-get_or cores place no_core))

-- ---- the place, as an index

pub place_lt : (d : ℕ) → d % max_cores < max_cores
place_lt d = omega arith

-- three bytes for each record before it
pub place_fits : (d : ℕ) → Fits w64 (d % max_cores * 3)
place_fits d = omega arith
