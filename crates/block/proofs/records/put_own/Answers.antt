-- `block::records::put_own` meets its contract.
use Rattle.std.proofs.Common.{ap, ◌∙◌, arith}
use Rattle.block.specs.Layout.{sizes}
use Rattle.block.specs.Inside.{contents}
use Rattle.block.proofs.DomainLaws.{domain_put}
use Rattle.block.proofs.records.put_own.Goals as goal

pub put_counts-requires : goal.put_counts-requires
unfolding sizes
put_counts-requires c =
    omega (arith, c.put-2.auto.bytes, c.put.auto.bytes, c.requires.blocked.long, c.requires.d_bound)

pub returns : goal.returns
returns c =
    let a = c.args in
    ap (contents a.g) (c.put_counts.ensures ∙ rw (c.put-2.ensures, c.put.ensures))
    ∙ domain_put a.g a.block.now a.d c.requires.d_bound c.requires.blocked a.own (omega (arith, c.well_formed)) (omega (arith, c.well_formed))
    (record {
      hits = omega (arith, c.well_formed);
      misses = omega (arith, c.well_formed);
      evicted = omega (arith, c.well_formed);
      written = omega (arith, c.well_formed);
      flushed = omega (arith, c.well_formed);
      fills = omega (arith, c.well_formed);
      dropped = omega (arith, c.well_formed);
    })
