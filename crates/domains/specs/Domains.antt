-- The sixteen domains: their policies and counts, and what a step leaves of them.
use Rattle.std.specs.Prelude.{Bool, cond, not, ◌&&◌, ◌||◌, ℕ, ◌+◌, eqb, ltb, get_or, set}
use Rattle.waymap.specs.Bits.{digit}
use Rattle.command.specs.declared.Answer.{Answer}
use Rattle.command.specs.declared.Answer.TheVariants.{Hit, Fill, Evict, Pass, Flush, Absent, Policy, Refused}
use Rattle.policy.specs.Policy.{as_read, new_maps}
use Rattle.policy.specs.declared.Maps.{Maps}
use Rattle.domains.specs.declared.Counts.{Counts}
use Rattle.domains.specs.declared.Domain.{Domain}
use Rattle.domains.specs.declared.Domains.{Domains}

-- "Domains 0 to 15."
abbrev pub max_domains : ℕ
max_domains = 16

-- "All policies and counts are zero."
abbrev pub no_counts : Counts
no_counts = record { hits = 0; misses = 0; evicted = 0; written = 0; flushed = 0; fills = 0; dropped = 0 }

-- A domain without ways and counts.
abbrev pub no_domain : Domain
no_domain = record { hit = 0; fill = 0; counts = no_counts }

-- The record of domain d.
unfoldable pub domain_of : Domains → ℕ → Domain
domain_of ds d = get_or ds.records d no_domain

-- A domain's maps as stored.
abbrev pub maps_of : Domain → Maps
maps_of x = record { hit = x.hit; fill = x.fill }

-- The policies as they are read, domain by domain.
unfoldable pub policies : ℕ → Domains → ℕ → Maps
policies W ds d = as_read W (maps_of (domain_of ds d))

-- The largest count.
abbrev pub largest : ℕ
largest = 4294967295

-- "any count of that domain is 4,294,967,295"; document 02's job 6: "7 covers seven counts".
unfoldable pub is_full : Counts → Bool
is_full c =
    eqb c.hits largest || eqb c.misses largest || eqb c.evicted largest || eqb c.written largest || eqb c.flushed largest
    || eqb c.fills largest || eqb c.dropped largest

-- Whether a change of policy, "other than a removal", that drops n lines "would carry dropped past the largest count".
unfoldable pub overflows : ℕ → ℕ → Counts → Bool
overflows arg n c = not (eqb arg 0) && ltb largest (c.dropped + n)

-- ---- what a step leaves of them

-- The domains with another record for one of them.
unfoldable pub put_domain : ℕ → Domain → Domains → Domains
put_domain d x ds = record { records = set ds.records d x }

-- "A hit, a miss and an evicted line each add one to their count, and a dirty evicted line one to written back too." Of a flush,
-- "flushed rises by one and, if dirty, written back too". A fill is counted for an invalid way and for an evicted one. No other answer of an
-- access or a flush moves a count.
unfoldable pub counted : Answer → Counts → Counts
counted (Hit w) c = record {
  hits = c.hits + 1;
  misses = c.misses;
  evicted = c.evicted;
  written = c.written;
  flushed = c.flushed;
  fills = c.fills;
  dropped = c.dropped;
}
counted (Fill w) c = record {
  hits = c.hits;
  misses = c.misses + 1;
  evicted = c.evicted;
  written = c.written;
  flushed = c.flushed;
  fills = c.fills + 1;
  dropped = c.dropped;
}
counted (Evict w tag dirty) c = record {
  hits = c.hits;
  misses = c.misses + 1;
  evicted = c.evicted + 1;
  written = c.written + digit dirty;
  flushed = c.flushed;
  fills = c.fills + 1;
  dropped = c.dropped;
}
counted Pass c = record {
  hits = c.hits;
  misses = c.misses + 1;
  evicted = c.evicted;
  written = c.written;
  flushed = c.flushed;
  fills = c.fills;
  dropped = c.dropped;
}
counted (Flush w dirty) c = record {
  hits = c.hits;
  misses = c.misses;
  evicted = c.evicted;
  written = c.written + digit dirty;
  flushed = c.flushed + 1;
  fills = c.fills;
  dropped = c.dropped;
}
counted Absent c = c
counted (Policy dropped dirty) c = c
counted (Refused n) c = c

-- "Dropped is the lines that the domain's own policy changes cleaned."
unfoldable pub with_drops : ℕ → Counts → Counts
with_drops n c = record {
  hits = c.hits;
  misses = c.misses;
  evicted = c.evicted;
  written = c.written;
  flushed = c.flushed;
  fills = c.fills;
  dropped = c.dropped + n;
}

-- A domain's record after an access or a flush.
abbrev pub used_domain : Answer → Domain → Domain
used_domain a x = record { hit = x.hit; fill = x.fill; counts = counted a x.counts }

-- A domain's record after a change of policy that drops n lines: "both maps are stored." "Two zero maps remove the domain and zero its
-- counts."
unfoldable pub new_domain : ℕ → ℕ → Domain → Domain
new_domain arg n x = record {
  hit = (new_maps arg).hit;
  fill = (new_maps arg).fill;
  counts = cond (eqb arg 0) no_counts (with_drops n x.counts);
}
