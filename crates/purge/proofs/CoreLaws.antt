-- The struck-out list where core records are lent: the steps of the cache that it means are those of the plain struck-out list, and it leaves the same records.
use mathlib.Core.Path.{◌≡◌, refl, sym, ap, subst, ◌∙◌}
use mathlib.Core.Bool.{false, cond, true≢false}
use mathlib.Core.List.{List, [], ◌∷◌}
use Prim.Native.Nat.{ℕ}
use Rattle.waymap.proofs.Booleans.{cases}
use Rattle.command.specs.Command.{Command}
use Rattle.selectors.specs.Selectors.{Meant, plain, select, refused, meant, records_by, records_after, records_finally, plain_by, plain_steps}
use Rattle.selectors.proofs.MeantLaws.{other_meant, coreless_next}
use Rattle.selectors.specs.declared.Core.{Core}
use Rattle.purge.specs.Purge.{purge, keeps_by, core_purge}
use Rattle.purge.specs.Statements.{PurgePlain, PurgeOthers}

module _ (d : ℕ) where
  -- a step that is struck out changes no record
  struck_records : (m : Meant) (i : ℕ) (cores : List Core) → keeps_by d m ≡ false → records_by m i cores ≡ cores
  unfolding keeps_by records_by
  struck_records (plain c) i cores t = refl
  struck_records (select core) i cores t = absurd (true≢false t)
  struck_records (refused n) i cores t = refl

  -- the purge of what a step means
  purge_by : (m : Meant) (xs : List Command) → purge d (plain_by m xs) ≡ cond (keeps_by d m) (plain_by m (purge d xs)) (purge d xs)
  unfolding keeps_by plain_by purge
  purge_by (plain c) xs = refl
  purge_by (select core) xs = refl
  purge_by (refused n) xs = refl

-- To strike out and to translate commute: selector writes are kept, so that both lists go by the same records.
pub purge_plain : PurgePlain
unfolding plain_steps core_purge records_after purge
purge_plain d [] cores = refl
purge_plain d (c ∷ cs) cores =
    let m = meant cores c in
    let next = records_by m c.domain cores in
    cases (keeps_by d m)
    (λ t. rw t (ap (plain_by m) (purge_plain d cs next) ∙ sym (purge_by d m (plain_steps next cs) ∙ rw t)))
    (λ t. rw t (subst (λ (rs : List Core). plain_steps cores (core_purge d rs cs) ≡ purge d (plain_steps rs cs)) (sym (struck_records d m c.domain cores t))
    (purge_plain d cs cores) ∙ sym (purge_by d m (plain_steps next cs) ∙ rw t)))

pub purge_records : (d : ℕ) (cs : List Command) (cores : List Core) → records_finally cores (core_purge d cores cs) ≡ records_finally cores cs
unfolding records_finally core_purge records_after
purge_records d [] cores = refl
purge_records d (c ∷ cs) cores =
    let m = meant cores c in
    cases (keeps_by d m)
    (λ t. rw t (purge_records d cs (records_by m c.domain cores)))
    (λ t. rw (t, struck_records d m c.domain cores t) (purge_records d cs cores))

-- A list of which no step names a core has the struck-out list that it had.
pub purge_others : PurgeOthers
unfolding core_purge purge keeps_by records_after records_by
purge_others d [] cores none = refl
purge_others d (c ∷ cs) cores none =
    let first = coreless_next c cs none in
    rw (other_meant cores c first.0, purge_others d cs cores first.1)
