-- The domains: one of them written, and the others as they were.
use mathlib.Core.Path.{◌≡◌, ap, ◌∙◌}
use Prim.Native.Nat.{ℕ, ◌<◌}
use lib.ListN.{length, length-set}
use lib.Seq.{get_or-set_same, get_or-set_other}
use Rattle.policy.specs.Policy.{as_read}
use Rattle.domains.specs.Domains.{no_domain, domain_of, policies, put_domain}
use Rattle.domains.specs.declared.Domain.{Domain}
use Rattle.domains.specs.declared.Domains.{Domains}

module _ (ds : Domains) (d : ℕ) (x : Domain) where
  pub put_sixteen : length ds.records ≡ 16 → length (put_domain d x ds).records ≡ 16
  unfolding put_domain
  put_sixteen h = length-set ds.records d x ∙ h

  pub put_same : length ds.records ≡ 16 → d < 16 → domain_of (put_domain d x ds) d ≡ x
  unfolding put_domain domain_of
  put_same h k = get_or-set_same ds.records d x no_domain (rw h k)

  pub put_other : (e : ℕ) → (e ≡ d → ⊥) → domain_of (put_domain d x ds) e ≡ domain_of ds e
  unfolding put_domain domain_of
  put_other e n = get_or-set_other ds.records d e x no_domain n

  pub policy_same : (W : ℕ) → length ds.records ≡ 16 → d < 16 → policies W (put_domain d x ds) d ≡ as_read W (record { hit = x.hit; fill = x.fill })
  unfolding policies
  policy_same W h k = ap (λ (y : Domain). as_read W (record { hit = y.hit; fill = y.fill })) (put_same h k)

  pub policy_other : (W e : ℕ) → (e ≡ d → ⊥) → policies W (put_domain d x ds) e ≡ policies W ds e
  unfolding policies
  policy_other W e n = ap (λ (y : Domain). as_read W (record { hit = y.hit; fill = y.fill })) (put_other e n)
