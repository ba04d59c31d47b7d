-- `block::head::sized` meets its contract.
use Rattle.std.proofs.Common.{sym, ◌∙◌, le-ltb, lt-ltb, eq-eqb, ne_eqb}
use Rattle.geometry.proofs.GeometryLaws.{limited}
use Rattle.block.specs.Block.{length_refusal}
use Rattle.block.proofs.head.sized.Goals as goal

pub returns-then-length-lt8 : goal.returns-then-length-lt8
unfolding length_refusal
returns-then-length-lt8 c = rw (lt-ltb c.args.length 8 c.if-length-lt8.true)

pub returns-then-not-within : goal.returns-then-not-within
unfolding length_refusal
returns-then-not-within c =
    rw (le-ltb c.args.length 8 c.if-length-lt8.false, sym c.within.ensures ∙ c.if-not-within.true)

pub bytes-requires : goal.bytes-requires
bytes-requires c = limited c.args.g (sym c.within.ensures ∙ c.if-not-within.false)

pub returns-then-length-bytes : goal.returns-then-length-bytes
unfolding length_refusal
returns-then-length-bytes c =
    rw (
      le-ltb c.args.length 8 c.if-length-lt8.false,
      sym c.within.ensures ∙ c.if-not-within.false,
      ← c.bytes.ensures,
      ne_eqb c.args.length c.bytes.result c.if-length-bytes.true,
    )

pub returns : goal.returns
unfolding length_refusal
returns c =
    rw (
      le-ltb c.args.length 8 c.if-length-lt8.false,
      sym c.within.ensures ∙ c.if-not-within.false,
      ← c.bytes.ensures,
      eq-eqb c.args.length c.bytes.result c.if-length-bytes.false,
    )
