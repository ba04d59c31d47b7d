-- `lru_rule::orders::lift` meets its contract.
use Rattle.lru_rule.proofs.LiftLaws.{newer_fits, older_fits, first_fits, lift_fits, lift_is}
use Rattle.lru_rule.proofs.orders.lift.Goals as goal

pub overflow_mul-older : goal.overflow_mul-older
overflow_mul-older c = record { fits = older_fits c.args.order c.args.k c.requires.k_bound c.ranges.order.fits }

pub overflow_mul-result : goal.overflow_mul-result
overflow_mul-result c = record { fits = newer_fits c.args.order c.args.k c.requires.k_bound c.ranges.order.fits }

pub overflow_add-result : goal.overflow_add-result
overflow_add-result c = record { fits = first_fits c.args.order c.args.k c.requires.k_bound c.ranges.order.fits c.args.way c.requires.way_bound }

pub overflow_add-result-2 : goal.overflow_add-result-2
overflow_add-result-2 c = record { fits = lift_fits c.args.order c.args.k c.requires.k_bound c.ranges.order.fits c.args.way c.requires.way_bound }

pub returns : goal.returns
returns c = lift_is c.args.order c.args.k c.requires.k_bound c.ranges.order.fits c.args.way c.requires.way_bound
