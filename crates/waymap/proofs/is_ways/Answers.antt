-- `waymap::is_ways` meets its contract.
use mathlib.Core.Path.{sym}
use native.Mathlib.Omega.{arith}
use Rattle.waymap.proofs.NumberLaws.{is_ways_lem, not_ways}
use Rattle.waymap.proofs.is_ways.Goals as goal

pub returns-in-2 : goal.returns-in-2
returns-in-2 c = sym (is_ways_lem c.args.ways c.in-2.is)

pub returns-in_default : goal.returns-in_default
returns-in_default c = sym (not_ways c.args.ways (λ s. omega (arith, s)))
