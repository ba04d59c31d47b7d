-- `endian::at` meets its contract.
use mathlib.Core.Path.{◌∙◌}
use native.Mathlib.Omega.{arith}
use Rattle.std.proofs.Common.{rules, inl, inr}
use Rattle.endian.proofs.NumberLaws.{field_rest, field_of_none}
use Rattle.endian.proofs.at.Goals as goal

pub returns-in-Some : goal.returns-in-Some
returns-in-Some g c =
    c.read.ensures ∙ field_rest g.N.Number.WIDTH c.args.place c.args.bytes.now c.in-Some.rest.now (search rules)

pub returns-in-None : goal.returns-in-None
returns-in-None g c =
    c.read-in-None.ensures
    ∙ field_of_none g.N.Number.WIDTH c.args.place c.args.bytes.now (elim c.in-None.ensures.lookup.0 [ inl h ↦ omega arith | inr h ↦ omega arith ])
