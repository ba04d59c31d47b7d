-- `purge::stays` meets its contract.
use Rattle.purge.specs.Purge.{keeps_by}
use Rattle.purge.proofs.KeepLaws.{stays_own, stays_other}
use Rattle.purge.proofs.stays.Goals as goal

pub returns-then-domain-chosen : goal.returns-then-domain-chosen
unfolding keeps_by
returns-then-domain-chosen c =
    rw (c.in-Ok-Plain.is, rw c.in-Ok-Plain.is at c.in-Ok-Plain.field-0-is) (stays_own c.args.chosen _ c.if-domain-chosen.true)

pub returns-else-domain-chosen : goal.returns-else-domain-chosen
unfolding keeps_by
returns-else-domain-chosen c =
    rw (c.in-Ok-Plain.is, rw c.in-Ok-Plain.is at c.in-Ok-Plain.field-0-is) (stays_other c.args.chosen _ c.if-domain-chosen.false)

pub returns-in-Ok-Select : goal.returns-in-Ok-Select
unfolding keeps_by
returns-in-Ok-Select c = rw (c.in-Ok-Select.is, rw c.in-Ok-Select.is at c.in-Ok-Select.field-0-is)

pub returns-in-Err : goal.returns-in-Err
unfolding keeps_by
returns-in-Err c = rw c.in-Err.is
