-- `fresh::fresh_domains` meets its contract.
use Rattle.std.proofs.Common.{◌≡◌, replicate, ap}
use Rattle.domains.specs.Domains.{no_domain}
use Rattle.domains.specs.declared.Domain.{Domain}
use Rattle.steps.specs.Fresh.{fresh_domains}
use Rattle.fresh.proofs.fresh_domains.Goals as goal

pub returns : goal.returns
unfolding fresh_domains
returns c =
    let e = c.default.ensures in
    let counts = e.1.1 in
    let none : c.default.result ≡ no_domain = λ i. record {
      hit = e.0 i;
      fill = e.1.0 i;
      counts = record {
        hits = counts.0 i;
        misses = counts.1.0 i;
        evicted = counts.1.1.0 i;
        written = counts.1.1.1.0 i;
        flushed = counts.1.1.1.1.0 i;
        fills = counts.1.1.1.1.1.0 i;
        dropped = counts.1.1.1.1.1.1 i;
      };
    } in
    ap (λ (x : Domain). record { records = replicate 16 x }) none
