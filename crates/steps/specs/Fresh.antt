-- A fresh cache: "all zero, except that under NRU the low W bits of each replacement word are one", and under true LRU "place k holds way
-- W − 1 − k". "All policies and counts are zero."
use Rattle.std.specs.Prelude.{◌*◌, replicate}
use Rattle.replacement.specs.Rule.{rule_of}
use Rattle.domains.specs.Domains.{max_domains, no_domain}
use Rattle.domains.specs.declared.Domains.{Domains}
use Rattle.geometry.specs.declared.Geometry.{Geometry}
use Rattle.steps.specs.Tables.{Tables}
use Rattle.steps.specs.Step.{State}

-- The tables: all zero, and in each word what the rule has a fresh word be.
unfoldable pub fresh_tables : Geometry → Tables
fresh_tables g = record {
  tags = replicate (g.sets * g.ways) 0;
  valid = replicate g.sets 0;
  dirty = replicate g.sets 0;
  words = replicate g.sets (rule_of g.rule g.ways).fresh;
}

-- The domains: sixteen without ways and counts.
unfoldable pub fresh_domains : Domains
fresh_domains = record { records = replicate max_domains no_domain }

-- Both together: what a run starts from.
unfoldable pub fresh : Geometry → State
fresh g = record { tables = fresh_tables g; domains = fresh_domains }
