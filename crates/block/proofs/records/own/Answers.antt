-- `block::records::own` meets its contract.
use Rattle.std.proofs.Common.{sym, arith}
use Rattle.block.specs.Layout.{sizes}
use Rattle.block.proofs.DomainLaws.{domain_read}
use Rattle.block.proofs.records.own.Goals as goal

pub counts_at-requires : goal.counts_at-requires
unfolding sizes
counts_at-requires c =
    omega (arith, c.requires.blocked.long, c.requires.d_bound)

pub returns : goal.returns
returns c =
    rw (c.at.ensures, c.at-2.ensures, c.counts_at.ensures)
    (sym (domain_read c.args.g c.args.block.now c.args.d c.requires.d_bound))
