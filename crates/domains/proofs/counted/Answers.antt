-- `domains::counted` meets its contract.
use native.Mathlib.Omega.{arith}
use Rattle.domains.specs.Domains.{counted}
use Rattle.domains.proofs.CountLaws.{unspent, rest_stays}
use Rattle.domains.proofs.counted.Goals as goal

pub overflow_add-result : goal.overflow_add-result
overflow_add-result c = omega (arith, c.well_formed, (unspent c.args.c c.requires).hits)

pub overflow_add-result-in-Fill : goal.overflow_add-result-in-Fill
overflow_add-result-in-Fill c = omega (arith, c.well_formed, (unspent c.args.c c.requires).misses)

pub overflow_add-result-in-Fill-2 : goal.overflow_add-result-in-Fill-2
overflow_add-result-in-Fill-2 c = omega (arith, c.well_formed, (unspent c.args.c c.requires).fills)

pub overflow_add-result-in-Pass : goal.overflow_add-result-in-Pass
overflow_add-result-in-Pass c = omega (arith, c.well_formed, (unspent c.args.c c.requires).misses)

pub overflow_add-result-in-Evict : goal.overflow_add-result-in-Evict
overflow_add-result-in-Evict c = omega (arith, c.well_formed, (unspent c.args.c c.requires).misses)

pub overflow_add-result-in-Evict-2 : goal.overflow_add-result-in-Evict-2
overflow_add-result-in-Evict-2 c = omega (arith, c.well_formed, (unspent c.args.c c.requires).evicted)

pub with_dirty-requires : goal.with_dirty-requires
with_dirty-requires c = omega (arith, c.well_formed, (unspent c.args.c c.requires).written)

pub overflow_add-result-in-Evict-3 : goal.overflow_add-result-in-Evict-3
overflow_add-result-in-Evict-3 c = omega (arith, c.well_formed, (unspent c.args.c c.requires).fills)

pub with_dirty-requires-in-Flush : goal.with_dirty-requires-in-Flush
with_dirty-requires-in-Flush c = omega (arith, c.well_formed, (unspent c.args.c c.requires).written)

pub overflow_add-result-in-Flush : goal.overflow_add-result-in-Flush
overflow_add-result-in-Flush c = omega (arith, c.well_formed, (unspent c.args.c c.requires).flushed)

pub returns-in-Hit : goal.returns-in-Hit
unfolding counted
returns-in-Hit c = rw c.in-Hit.is

pub returns-in-Fill : goal.returns-in-Fill
unfolding counted
returns-in-Fill c = rw c.in-Fill.is

pub returns-in-Pass : goal.returns-in-Pass
unfolding counted
returns-in-Pass c = rw c.in-Pass.is

pub returns-in-Evict : goal.returns-in-Evict
unfolding counted
returns-in-Evict c = rw (c.in-Evict.is, c.with_dirty.ensures)

pub returns-in-Flush : goal.returns-in-Flush
unfolding counted
returns-in-Flush c = rw (c.in-Flush.is, c.with_dirty-in-Flush.ensures)

pub returns-in_default : goal.returns-in_default
returns-in_default c =
    let other = c.in_default in
    rest_stays c.args.answer c.args.c other.not-Hit other.not-Fill other.not-Evict other.not-Pass other.not-Flush
