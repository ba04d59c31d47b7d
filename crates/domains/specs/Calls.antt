-- What the calls give.
use Rattle.std.specs.Prelude.{cond, List, [], ◌∷◌, ℕ, zero, suc, get_or}
use Rattle.policy.specs.Policy.{as_read}
use Rattle.policy.specs.declared.Maps.{Maps}
use Rattle.command.specs.declared.Answer.{Answer}
use Rattle.domains.specs.Domains.{max_domains, no_domain, domain_of, maps_of, is_full, overflows, used_domain, new_domain}
use Rattle.domains.specs.declared.Domain.{Domain}
use Rattle.domains.specs.declared.Domains.{Domains}
use Rattle.domains.specs.declared.Policies.{Policies}

-- The maps of the n domains from d on.
unfoldable pub maps_from : Domains → ℕ → ℕ → List Maps
maps_from ds d zero = []
maps_from ds d (suc n) = maps_of (domain_of ds d) ∷ maps_from ds (suc d) n

-- The maps of all domains without their counts, and one of them as it is read.
unfoldable pub policies_of : Domains → Policies
policies_of ds = record { maps = maps_from ds 0 max_domains }

unfoldable pub read_by : ℕ → Policies → ℕ → Maps
read_by W p d = as_read W (get_or p.maps d (maps_of no_domain))

-- A record after an access or a flush: one of which a count is full, to which number 7 lets no step come, stays as it is.
unfoldable pub used_of : Answer → Domain → Domain
used_of a x = cond (is_full x.counts) x (used_domain a x)

-- A record after a change of policy: one whose count of dropped lines it would carry past the largest, to which number 7 lets no such change
-- come, stays as it is.
unfoldable pub changed_of : ℕ → ℕ → Domain → Domain
changed_of arg n x = cond (overflows arg n x.counts) x (new_domain arg n x)
