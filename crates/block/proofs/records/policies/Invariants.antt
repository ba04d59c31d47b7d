-- `block::records::policies` meets its contract. The invariant: the first ones are there.
use Rattle.std.proofs.Common.{◌-◌}
use Rattle.geometry.specs.declared.Geometry.{Geometry}
use Rattle.domains.proofs.PolicyLaws.{Gathering}
use Rattle.block.proofs.DomainLaws.{domains_in}
use Rattle.block.proofs.records.policies.Given as goal

abbrev pub invariant-loop-d : goal.invariant-loop-d
invariant-loop-d l = (g : Geometry) → Gathering (domains_in g l.block) l.own-items l.d
