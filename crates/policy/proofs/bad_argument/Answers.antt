-- `policy::bad_argument` meets its contract.
use Rattle.std.proofs.Common.{arith}
use Rattle.policy.proofs.ArgumentLaws.{bad_hit, bad_fill, bad_high}
use Rattle.policy.proofs.bad_argument.Goals as goal
use Rattle.policy.proofs.bad_argument.Goals.{then-not-fits, else-not-fits}

pub returns-then-new-ne0 : goal.returns-then-new-ne0
returns-then-new-ne0 c =
    let new = c.new_maps-new in
    elim c.if-not-fits.branch [
      | then-not-fits w ↦ let h = bad_hit c.args.ways c.args.argument new.ensures in grind arith
      | else-not-fits w ↦ let h = bad_fill c.args.ways c.args.argument new.ensures in grind arith
    ]

pub returns-else-new-ne0 : goal.returns-else-new-ne0
returns-else-new-ne0 c =
    let new = c.new_maps-new in
    elim c.if-not-fits.branch [
      | then-not-fits w ↦ grind arith
      | else-not-fits w ↦ let h = bad_high c.args.ways c.args.argument new.ensures in grind arith
    ]
